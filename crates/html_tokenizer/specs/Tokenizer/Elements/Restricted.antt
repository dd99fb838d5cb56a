-- Which elements are taken in the contents of `svg`, `math`, `select` and `noscript`.
use Rattle.std.specs.Prelude.{ℕ, Bool, true, false, ◌||◌, List, Option, Some, None, if◌then◌else◌, bytes_eq, codes}
use Rattle.html_tokenizer.specs.declared.elements.OpenElement.{OpenElement}
use Rattle.html_tokenizer.specs.declared.elements.OpenElement.TheVariants.{Svg, SvgAnimationTag, SvgDesc, SvgEmbedTag, SvgTitle, SvgStyle, Math, MathEmbedTag, MathMi, MathMo, MathMn, MathMs, MathMtext, Select, SelectEmbedTag, NoScript, NoScriptStyle, NoScriptFrame}

-- elements whose content the tree construction reads in ways of its own (13.2.6), which this profile leaves out
abbrev pub is_left_out : List ℕ → Bool
is_left_out name =
    bytes_eq name (codes "xmp") || bytes_eq name (codes "plaintext") || bytes_eq name (codes "noembed") ||
    bytes_eq name (codes "noframes") || bytes_eq name (codes "frameset")

-- elements whose `type` says as what their resource runs: 4.8.6 The embed element, 4.8.7 The object element
abbrev pub runs_by_type : List ℕ → Bool
runs_by_type name = bytes_eq name (codes "embed") || bytes_eq name (codes "object")

-- elements whose content is read in a way of its own in HTML, and not in the content of an `svg`, a `math` or a
-- `select`
abbrev pub is_read_apart : List ℕ → Bool
is_read_apart name =
    bytes_eq name (codes "script") || bytes_eq name (codes "style") || bytes_eq name (codes "title") ||
    bytes_eq name (codes "textarea") || bytes_eq name (codes "svg") || bytes_eq name (codes "math") ||
    bytes_eq name (codes "select") || bytes_eq name (codes "noscript") || bytes_eq name (codes "iframe") ||
    is_left_out name

-- a `meta` there is none or one that counts, and the content of `annotation-xml` may be HTML
abbrev pub is_not_foreign : List ℕ → Bool
is_not_foreign name = is_read_apart name || bytes_eq name (codes "meta") || bytes_eq name (codes "annotation-xml")

-- elements of an `svg` with content in HTML, and those that run
abbrev pub is_left_out_of_svg : List ℕ → Bool
is_left_out_of_svg name = bytes_eq name (codes "foreignobject") || bytes_eq name (codes "handler")

-- SVG 1.1, 19.2.12 to 19.2.16: those that set an attribute of another element
abbrev pub is_animation : List ℕ → Bool
is_animation name =
    bytes_eq name (codes "animate") || bytes_eq name (codes "animatemotion") ||
    bytes_eq name (codes "animatetransform") || bytes_eq name (codes "set")

-- 13.2.6.5 The rules for parsing tokens in foreign content: an element of HTML, as `p`, makes a browser leave the
-- `svg`, and so does the end of an element around it. No matter, since what is taken here is read alike in both:
-- the text of a `title`, a `desc` and a `style` is the same there and in HTML
abbrev pub in_svg : List ℕ → Option OpenElement
in_svg name =
    if bytes_eq name (codes "title") then Some SvgTitle
    else (if bytes_eq name (codes "desc") then Some SvgDesc
    else (if bytes_eq name (codes "style") then Some SvgStyle
    else (if is_not_foreign name || is_left_out_of_svg name then None
    else (if is_animation name then Some SvgAnimationTag
    else (if runs_by_type name then Some SvgEmbedTag
    else Some Svg)))))

-- the same of a `math`. The MathML text integration points (13.2.6) have text alone, since behind an element in
-- them a browser passes over the end tag `math`
abbrev pub in_math : List ℕ → Option OpenElement
in_math name =
    if bytes_eq name (codes "mi") then Some MathMi
    else (if bytes_eq name (codes "mo") then Some MathMo
    else (if bytes_eq name (codes "mn") then Some MathMn
    else (if bytes_eq name (codes "ms") then Some MathMs
    else (if bytes_eq name (codes "mtext") then Some MathMtext
    else (if is_not_foreign name then None
    else (if runs_by_type name then Some MathEmbedTag
    else Some Math))))))

-- the content of a `select`: browsers before 2025 drop most start tags in it, and others read them (13.2.6.4.7).
-- No matter, since none of those is taken that would switch the tokenizer
abbrev pub in_select : List ℕ → Option OpenElement
in_select name =
    if is_read_apart name || bytes_eq name (codes "meta") then None
    else (if runs_by_type name then Some SelectEmbedTag
    else Some Select)

-- the content of a `noscript`, 13.2.6.4.4 and 13.2.6.4.7: raw text (13.2.5.3) where scripts run, and else markup.
-- Taken is what ends at the same end tag in both
abbrev pub in_noscript : List ℕ → Option OpenElement
in_noscript name =
    if bytes_eq name (codes "style") then Some NoScriptStyle
    else (if bytes_eq name (codes "iframe") then Some NoScriptFrame
    else (if is_read_apart name then None
    else Some NoScript))

-- raw text that is markup in another reading: no `<` stands in it but that of its end tag
abbrev pub is_text_alone : OpenElement → Bool
is_text_alone SvgStyle = true
is_text_alone NoScriptStyle = true
is_text_alone NoScriptFrame = true
is_text_alone other = false
