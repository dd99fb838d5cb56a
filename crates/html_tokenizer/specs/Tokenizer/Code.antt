-- What a byte does in the code of a script or a style, outside of strings.
-- Where a byte alone does not tell how the code goes on, the rest of it is opaque: no slot stands in it, and only
-- its end tag is looked for. So is what follows a `/` of a script that begins no comment, and is a division or a
-- regular expression; a backtick, which begins a template literal; a `#` and a `\`; `-->` and `<!`, which may begin
-- a comment; a `\` of a style, which may be part of a name, and an `@import`, whose string is a URL. So is a
-- style that begins with an `@`.
pub mod Characters
pub mod Comments
pub mod Escapes
pub mod Scripts
pub mod Strings
pub mod Styles
pub mod Words
use Rattle.std.specs.Prelude.{ℕ, Bool, true, false, ◌&&◌, List, [], ◌∷◌, ◌++◌, ◌==◌, if◌then◌else◌, bytes_eq, codes}
use Rattle.std.specs.Char.{is_ascii_alphabetic, to_ascii_lowercase}
use Rattle.hesc_specs.specs.Text.Ascii.{ampersand, slash, less_than}
use Rattle.html_tokenizer.specs.declared.states.Code.{Code}
use Rattle.html_tokenizer.specs.declared.states.Code.TheVariants as code
use Rattle.html_tokenizer.specs.declared.elements.Content.{Content}
use Rattle.html_tokenizer.specs.declared.elements.OpenElement.{OpenElement}
use Rattle.html_tokenizer.specs.declared.elements.OpenElement.TheVariants.{Script, Style, SvgStyle}
use Rattle.html_tokenizer.specs.Tokenizer.Actions.{CodeByte}
use Rattle.html_tokenizer.specs.Tokenizer.States as state
use Rattle.html_tokenizer.specs.Tokenizer.States.{at}
use Rattle.html_tokenizer.specs.Tokenizer.Elements.Restricted.{is_text_alone}
use Rattle.html_tokenizer.specs.Tokenizer.Tags.{ends_name, exclamation_mark}
use Rattle.html_tokenizer.specs.Tokenizer.Tags.EndTags.{held_end_tag_byte}
use Rattle.html_tokenizer.specs.Tokenizer.Transitions.{Transition, goes, refuses, reconsumes}
use Rattle.html_tokenizer.specs.Tokenizer.Code.Comments.{stays, gives_up}
use Rattle.html_tokenizer.specs.Tokenizer.Code.Escapes.{other_escape}
use Rattle.html_tokenizer.specs.Tokenizer.Code.Scripts.{script_code_byte}
use Rattle.html_tokenizer.specs.Tokenizer.Code.Styles.{style_code_byte}

abbrev pub byte_of_code : OpenElement → Code → Content → ℕ → Transition
byte_of_code Script kind content b = script_code_byte kind content b
byte_of_code Style kind content b = style_code_byte kind content b
byte_of_code SvgStyle kind content b = if b == ampersand then refuses else gives_up content b
byte_of_code other kind content b = gives_up content b

abbrev pub code_byte : Code → Content → ℕ → Transition
code_byte kind content b = byte_of_code content.element kind content b

abbrev pub is_script : OpenElement → Bool
is_script Script = true
is_script other = false

-- what the code is at a `<`, which after a `/` of a script may stand in a regular expression, and ends the front of a style
abbrev pub code_at_less : OpenElement → Code → Code
code_at_less element code.LineComment = code.LineComment
code_at_less element code.LineLead = code.LineComment
code_at_less element code.LineSecond = code.LineComment
code_at_less element code.BlockComment = code.BlockComment
code_at_less element code.BlockStar = code.BlockComment
code_at_less element code.FrontSlash = code.Opaque
code_at_less element code.FrontComment = code.FrontComment
code_at_less element code.FrontStar = code.FrontComment
code_at_less element code.UrlOpen = code.Url
code_at_less element code.Url = code.Url
code_at_less element code.UrlSlash = code.Url
code_at_less element code.Slash = if is_script element then code.Opaque else code.Plain
code_at_less element code.Json = code.Opaque
code_at_less element code.JsonRest = code.Opaque
code_at_less element code.Opaque = code.Opaque
code_at_less element code.EscapeStart = code.Opaque
code_at_less element code.EscapeStartDash = code.Opaque
code_at_less element code.Escaped = code.Escaped
code_at_less element code.EscapedDash = code.Escaped
code_at_less element code.EscapedDashDash = code.Escaped
code_at_less element code.DoubleEscaped = code.DoubleEscaped
code_at_less element code.DoubleEscapedDash = code.DoubleEscaped
code_at_less element code.DoubleEscapedDashDash = code.DoubleEscaped
code_at_less element other = code.Plain

-- 13.2.5.3 RAWTEXT state, 13.2.5.4 Script data state
abbrev pub in_code_byte : Code → Content → ℕ → Transition
in_code_byte kind content b =
    if b == less_than then goes (state.CodeLess (code_at_less content.element kind)) content []
    else code_byte kind content b

-- what the code is after `</`, if that begins no end tag: in a comment it means nothing
abbrev pub code_after_solidus : Code → Code
code_after_solidus code.LineComment = code.LineComment
code_after_solidus code.BlockComment = code.BlockComment
code_after_solidus code.FrontComment = code.FrontComment
code_after_solidus code.Escaped = code.Escaped
code_after_solidus other = code.Opaque

-- 13.2.5.12 RAWTEXT less-than sign state, 13.2.5.15 Script data less-than sign state
abbrev pub less_byte : Code → Content → ℕ → Transition
less_byte kind content b =
    if b == slash then goes (state.CodeEndTag (code_after_solidus kind) []) content []
    else (if b == exclamation_mark && is_script content.element
    then goes (state.InCode code.EscapeStart) content (CodeByte less_than ∷ CodeByte b ∷ [])
    else reconsumes (CodeByte less_than ∷ []) (in_code_byte kind content b))

-- 13.2.5.23 Script data escaped less-than sign state
abbrev pub escaped_less_byte : Content → ℕ → Transition
escaped_less_byte content b =
    if b == slash then goes (state.CodeEndTag code.Escaped []) content []
    else (if is_ascii_alphabetic b
    then goes (state.CodeWord code.Escaped (to_ascii_lowercase b ∷ [])) content (CodeByte less_than ∷ CodeByte b ∷ [])
    else reconsumes (CodeByte less_than ∷ []) (in_code_byte code.Escaped content b))

-- 13.2.5.30 Script data double escaped less-than sign state
abbrev pub double_escaped_less_byte : Content → ℕ → Transition
double_escaped_less_byte content b =
    if b == slash then goes (state.CodeWord code.DoubleEscaped []) content (CodeByte less_than ∷ CodeByte b ∷ [])
    else reconsumes (CodeByte less_than ∷ []) (in_code_byte code.DoubleEscaped content b)

abbrev pub text_less_byte : Code → Content → ℕ → Transition
text_less_byte kind content b =
    if is_text_alone content.element then (if b == slash then goes state.EndTagOpen content [] else refuses)
    else less_byte kind content b

abbrev pub code_less_byte : Code → Content → ℕ → Transition
code_less_byte code.Escaped content b = escaped_less_byte content b
code_less_byte code.DoubleEscaped content b = double_escaped_less_byte content b
code_less_byte other content b = text_less_byte other content b

-- 13.2.5.13 RAWTEXT end tag open state, 13.2.5.14 RAWTEXT end tag name state, 13.2.5.16 Script data end tag open
-- state, 13.2.5.17 Script data end tag name state, 13.2.5.24 Script data escaped end tag open state, 13.2.5.25
-- Script data escaped end tag name state
abbrev pub code_end_tag_byte : Code → Content → List ℕ → ℕ → Transition
code_end_tag_byte kind content word b =
    held_end_tag_byte content word [] (at (state.CodeEndTag kind (word ++ b ∷ [])) content) CodeByte (in_code_byte kind content b) b

-- 13.2.5.26 Script data double escape start state, 13.2.5.31 Script data double escape end state
abbrev pub code_word_byte : Code → Content → List ℕ → ℕ → Transition
code_word_byte kind content word b =
    if ends_name b then stays (if bytes_eq word (codes "script") then other_escape kind else kind) content b
    else (if is_ascii_alphabetic b then goes (state.CodeWord kind (word ++ to_ascii_lowercase b ∷ [])) content (CodeByte b ∷ [])
    else in_code_byte kind content b)
