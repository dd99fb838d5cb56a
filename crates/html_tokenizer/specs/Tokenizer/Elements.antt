-- How the content of each element is read, by the names of its tags.
pub mod Restricted
use Rattle.std.specs.Prelude.{ℕ, Bool, true, false, ◌&&◌, ◌||◌, not, List, ◌+◌, ◌-◌, ◌==◌, Option, Some, None, if◌then◌else◌, bytes_eq, codes}
use Rattle.std.specs.Option.{option_map}
use Rattle.html_tokenizer.specs.declared.slot_place.SlotPlace.TheVariants as place
use Rattle.html_tokenizer.specs.declared.states.Code.TheVariants.{Front, Json, Plain, Opaque}
use Rattle.html_tokenizer.specs.declared.elements.Content.{Content}
use Rattle.html_tokenizer.specs.declared.elements.OpenElement.{OpenElement}
use Rattle.html_tokenizer.specs.declared.elements.OpenElement.TheVariants.{Normal, Title, Textarea, Script, TypedScript, DataBlock, JsonBlock, Style, Frame, Meta, MetaContent, MetaPragma, MetaType, LinkTag, ResourceTag, EmbedTag, SvgEmbedTag, MathEmbedTag, SelectEmbedTag, SvgTag, SvgAnimationTag, Svg, SvgDesc, SvgTitle, SvgStyle, MathTag, Math, MathMi, MathMo, MathMn, MathMs, MathMtext, Select, NoScript, NoScriptStyle, NoScriptFrame}
use Rattle.html_tokenizer.specs.Tokenizer.Elements.Restricted.{is_left_out, runs_by_type, in_svg, in_math, in_select, in_noscript}
use Rattle.html_tokenizer.specs.Tokenizer.States as state
use Rattle.html_tokenizer.specs.Tokenizer.States.{State}

-- elements that only show what their URLs name, or go there when the reader follows them: it runs in no page of ours, where
-- the scheme is one of the web
abbrev pub follows_urls : List ℕ → Bool
follows_urls name =
    bytes_eq name (codes "a") || bytes_eq name (codes "img") || bytes_eq name (codes "input") ||
    bytes_eq name (codes "form") || bytes_eq name (codes "button") || bytes_eq name (codes "area") ||
    bytes_eq name (codes "source") || bytes_eq name (codes "video") || bytes_eq name (codes "audio") ||
    bytes_eq name (codes "track") || bytes_eq name (codes "blockquote") || bytes_eq name (codes "q") ||
    bytes_eq name (codes "ins") || bytes_eq name (codes "del")

-- in a normal content, how the content of an element is read, and for some its tag
-- 13.2.6.4.4 The "in head" insertion mode, 13.2.6.4.7 The "in body" insertion mode
abbrev pub in_normal : List ℕ → Option OpenElement
in_normal name =
    if bytes_eq name (codes "script") then Some Script
    else (if bytes_eq name (codes "style") then Some Style
    else (if bytes_eq name (codes "title") then Some Title
    else (if bytes_eq name (codes "textarea") then Some Textarea
    else (if bytes_eq name (codes "meta") then Some Meta
    else (if bytes_eq name (codes "svg") then Some SvgTag
    else (if bytes_eq name (codes "math") then Some MathTag
    else (if bytes_eq name (codes "select") then Some Select
    else (if bytes_eq name (codes "noscript") then Some NoScript
    else (if bytes_eq name (codes "iframe") then Some Frame
    else (if runs_by_type name then Some EmbedTag
    else (if follows_urls name then Some LinkTag
    else (if bytes_eq name (codes "link") then Some ResourceTag
    else (if is_left_out name then None
    else Some Normal)))))))))))))

abbrev pub element_of : OpenElement → List ℕ → Option OpenElement
element_of Svg name = in_svg name
element_of Math name = in_math name
element_of Select name = in_select name
element_of NoScript name = in_noscript name
element_of other name = in_normal name

abbrev pub with_element : Content → OpenElement → Content
with_element content element = record content { element = element }

abbrev pub is_template : List ℕ → Bool
is_template name = bytes_eq name (codes "template")

abbrev pub is_normal : OpenElement → Bool
is_normal Normal = true
is_normal other = false

-- how many templates may be open
abbrev pub most_templates : ℕ
most_templates = 255

-- after the name of a start tag, if the profile has the element there; a template only in a normal content
-- 13.2.6.4.18 The "in template" insertion mode, 13.2.6.4.12 The "in column group" insertion mode: after a
-- `col` in a template the start tags of `script`, `style`, `title` and `textarea` may be ignored, and what
-- follows them is read as markup
abbrev pub content_of : Content → List ℕ → Option Content
content_of content name =
    if is_template name then (if not (is_normal content.element) || content.templates == most_templates then None else Some (record content { templates = content.templates + 1 }))
    else (if bytes_eq name (codes "col") && not (content.templates == 0) then None
    else option_map (with_element content) (element_of content.element name))

abbrev pub is_meta : OpenElement → Bool
is_meta Meta = true
is_meta MetaContent = true
is_meta MetaPragma = true
is_meta MetaType = true
is_meta other = false

-- behind the `>` of a start tag: what a `meta`, a script or an `embed` has in its tag has no meaning there
abbrev pub inside_element : OpenElement → OpenElement
inside_element Meta = Normal
inside_element MetaContent = Normal
inside_element MetaPragma = Normal
inside_element MetaType = Normal
inside_element TypedScript = Script
inside_element DataBlock = Script
inside_element JsonBlock = Script
inside_element LinkTag = Normal
inside_element ResourceTag = Normal
inside_element EmbedTag = Normal
inside_element SvgEmbedTag = Svg
inside_element SvgAnimationTag = Svg
inside_element MathEmbedTag = Math
inside_element SelectEmbedTag = Select
inside_element SvgTag = Svg
inside_element MathTag = Math
inside_element other = other

abbrev pub inside : Content → Content
inside content = with_element content (inside_element content.element)

-- where the content of an element begins
abbrev pub content_state : OpenElement → State
content_state Script = state.InCode Plain
content_state TypedScript = state.InCode Plain
content_state DataBlock = state.InCode Opaque
content_state JsonBlock = state.InCode Json
content_state Style = state.InCode Front
content_state Frame = state.InCode Opaque
content_state SvgStyle = state.InCode Opaque
content_state NoScriptStyle = state.InCode Opaque
content_state NoScriptFrame = state.InCode Opaque
content_state other = state.In place.Text

-- contents of elements, in which tags and comments begin
abbrev pub holds_comments : OpenElement → Bool
holds_comments Normal = true
holds_comments Svg = true
holds_comments Math = true
holds_comments Select = true
holds_comments other = false

-- those and a `noscript`, in which tags alone begin, since a comment might hold its end tag
abbrev pub holds_markup : OpenElement → Bool
holds_markup NoScript = true
holds_markup other = holds_comments other

-- after the `/>` of a start tag, if it is read there: 13.2.6.5; a `title` or `style` that closes itself in an `svg`
-- would be open in HTML, where a browser has left the `svg`, and its content would be text
abbrev pub beside : OpenElement → Option OpenElement
beside SvgTag = Some Normal
beside MathTag = Some Normal
beside SvgTitle = None
beside SvgStyle = None
beside SvgDesc = Some Svg
beside MathMi = Some Math
beside MathMo = Some Math
beside MathMn = Some Math
beside MathMs = Some Math
beside MathMtext = Some Math
beside other = Some (inside_element other)

-- in a content of elements any end tag ends it or an element in it; where scripts run, none in a `noscript` closes a
-- template. The content of one element ends at the end tag of that element alone
abbrev pub ends_content : OpenElement → List ℕ → Bool
ends_content SvgTitle name = bytes_eq name (codes "title")
ends_content SvgDesc name = bytes_eq name (codes "desc")
ends_content SvgStyle name = bytes_eq name (codes "style")
ends_content MathMi name = bytes_eq name (codes "mi")
ends_content MathMo name = bytes_eq name (codes "mo")
ends_content MathMn name = bytes_eq name (codes "mn")
ends_content MathMs name = bytes_eq name (codes "ms")
ends_content MathMtext name = bytes_eq name (codes "mtext")
ends_content NoScript name = not (is_template name)
ends_content NoScriptStyle name = bytes_eq name (codes "style")
ends_content NoScriptFrame name = bytes_eq name (codes "iframe")
ends_content other name = true

-- after the name of an end tag that ends the content, or an element in it
abbrev pub around : OpenElement → List ℕ → OpenElement
around Svg name = if bytes_eq name (codes "svg") then Normal else Svg
around SvgTitle name = Svg
around SvgDesc name = Svg
around SvgStyle name = Svg
around Math name = if bytes_eq name (codes "math") then Normal else Math
around MathMi name = Math
around MathMo name = Math
around MathMn name = Math
around MathMs name = Math
around MathMtext name = Math
around Select name = if bytes_eq name (codes "select") then Normal else Select
around NoScript name = if bytes_eq name (codes "noscript") then Normal else NoScript
around NoScriptStyle name = NoScript
around NoScriptFrame name = NoScript
around other name = Normal

abbrev pub closed : Content → List ℕ → Content
closed content name = record { element = around content.element name; templates = if is_template name then content.templates - 1 else content.templates }
