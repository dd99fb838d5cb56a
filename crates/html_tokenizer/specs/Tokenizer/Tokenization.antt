-- The tokenizer: what it does at a byte, one case for each state, and so at bytes.
use Rattle.std.specs.Prelude.{ℕ, List, [], ◌∷◌, ◌++◌, ◌==◌, if◌then◌else◌}
use Rattle.hesc_specs.specs.Text.Ascii.{double_quote, single_quote, slash}
use Rattle.html_tokenizer.specs.declared.slot_place.SlotPlace.{SlotPlace}
use Rattle.html_tokenizer.specs.declared.slot_place.SlotPlace.TheVariants.{Text, DoubleQuoted, SingleQuoted, Unquoted, ScriptSingle, ScriptDouble, StyleSingle, StyleDouble}
use Rattle.html_tokenizer.specs.declared.elements.Content.{Content}
use Rattle.html_tokenizer.specs.Tokenizer.Actions.{Action, read_byte, value_end}
use Rattle.html_tokenizer.specs.Tokenizer.Code.{in_code_byte, code_less_byte, code_end_tag_byte, code_word_byte}
use Rattle.html_tokenizer.specs.Tokenizer.Code.Strings.{script_string_byte, style_string_byte, string_less_byte, script_escape_byte, style_escape_byte}
use Rattle.html_tokenizer.specs.Tokenizer.Comments.{declaration_byte, bogus_comment_byte, comment_start_byte, comment_start_dash_byte, comment_byte, comment_dash_byte, comment_end_byte}
use Rattle.html_tokenizer.specs.Tokenizer.Doctypes.{before_doctype_byte, doctype_byte, after_doctype_byte, doctype_keyword_byte, before_public_byte, public_byte, after_public_byte, between_identifiers_byte, before_system_byte, system_byte, after_system_byte}
use Rattle.html_tokenizer.specs.Tokenizer.Attributes.{reference_read}
use Rattle.html_tokenizer.specs.Tokenizer.Values.References.{behind_word, reference_byte}
use Rattle.html_tokenizer.specs.Tokenizer.States as state
use Rattle.html_tokenizer.specs.Tokenizer.States.{State, Attribute, Tokenizer, at_value}
use Rattle.html_tokenizer.specs.Tokenizer.Tags.{tag_open_byte, end_tag_open_byte, tag_name_byte, end_tag_name_byte, end_tag_byte, before_name_byte, attribute_name_byte, after_name_byte, after_value_byte, self_closing_byte}
use Rattle.html_tokenizer.specs.Tokenizer.Tags.EndTags.{held_end_tag_byte}
use Rattle.html_tokenizer.specs.Tokenizer.Tags.EndTags.{is_rcdata}
use Rattle.html_tokenizer.specs.Tokenizer.Transitions.{Transition, goes, refuses}
use Rattle.html_tokenizer.specs.Tokenizer.Values.{text_byte, rcdata_less_byte, rcdata_end_tag_open_byte, quoted_byte, unquoted_value_byte, before_value_byte}

-- a byte of a value
abbrev pub value_byte : SlotPlace → Content → Attribute → ℕ → Transition
value_byte Text content attribute b = text_byte content attribute b
value_byte DoubleQuoted content attribute b = quoted_byte double_quote DoubleQuoted content attribute b
value_byte SingleQuoted content attribute b = quoted_byte single_quote SingleQuoted content attribute b
value_byte Unquoted content attribute b = unquoted_value_byte content attribute b
value_byte ScriptSingle content attribute b = script_string_byte single_quote ScriptSingle content attribute b
value_byte ScriptDouble content attribute b = script_string_byte double_quote ScriptDouble content attribute b
value_byte StyleSingle content attribute b = style_string_byte single_quote StyleSingle content attribute b
value_byte StyleDouble content attribute b = style_string_byte double_quote StyleDouble content attribute b

-- a byte of a reference, or of an escape
abbrev pub within_byte : SlotPlace → Content → Attribute → List ℕ → ℕ → Transition
within_byte ScriptSingle content attribute word b = script_escape_byte ScriptSingle content attribute word b
within_byte ScriptDouble content attribute word b = script_escape_byte ScriptDouble content attribute word b
within_byte StyleSingle content attribute word b =
    style_escape_byte StyleSingle content attribute word b (value_byte StyleSingle content attribute b)
within_byte StyleDouble content attribute word b =
    style_escape_byte StyleDouble content attribute word b (value_byte StyleDouble content attribute b)
within_byte other content attribute word b =
    reference_byte other content attribute word b (value_byte other content (behind_word word attribute) b)

-- 13.2.5.11 RCDATA end tag name state; in a string 13.2.5.13 RAWTEXT end tag open state, 13.2.5.14 RAWTEXT end tag name
-- state, 13.2.5.16 Script data end tag open state, 13.2.5.17 Script data end tag name state
abbrev pub value_end_tag_byte : SlotPlace → Content → Attribute → List ℕ → ℕ → Transition
value_end_tag_byte p content attribute word b =
    held_end_tag_byte content word (value_end p) (at_value (state.ValueEndTag p (word ++ b ∷ [])) content attribute) (read_byte p) (value_byte p content attribute b) b

abbrev pub byte_in : State → Content → Attribute → ℕ → Transition
byte_in (state.In p) content attribute b = value_byte p content attribute b
byte_in (state.Within p word) content attribute b = within_byte p content (reference_read attribute) word b
byte_in (state.StringLess p) content attribute b = string_less_byte p content attribute (value_byte p content attribute b) b
byte_in state.TagOpen content attribute b =
    if b == slash then goes state.EndTagOpen content []
    else (if is_rcdata content.element then rcdata_less_byte content b
    else tag_open_byte content b)
byte_in state.EndTagOpen content attribute b =
    if is_rcdata content.element then rcdata_end_tag_open_byte content b else end_tag_open_byte content b
byte_in (state.ValueEndTag p word) content attribute b = value_end_tag_byte p content (reference_read attribute) word b
byte_in (state.TagName name) content attribute b = tag_name_byte content name b
byte_in (state.EndTagName name) content attribute b = end_tag_name_byte content name b
byte_in state.AfterEndTagName content attribute b = end_tag_byte content b
byte_in state.BeforeName content attribute b = before_name_byte content b
byte_in (state.Name name) content attribute b = attribute_name_byte content name b
byte_in (state.AfterName name) content attribute b = after_name_byte content name b
byte_in state.BeforeValue content attribute b = before_value_byte content attribute b
byte_in state.AfterValue content attribute b = after_value_byte content b
byte_in state.SelfClosing content attribute b = self_closing_byte content b
byte_in (state.InCode kind) content attribute b = in_code_byte kind content b
byte_in (state.CodeLess kind) content attribute b = code_less_byte kind content b
byte_in (state.CodeEndTag kind word) content attribute b = code_end_tag_byte kind content word b
byte_in (state.CodeWord kind word) content attribute b = code_word_byte kind content word b
byte_in (state.Declaration word) content attribute b = declaration_byte content word b
byte_in state.BeforeDoctype content attribute b = before_doctype_byte content b
byte_in (state.Doctype name) content attribute b = doctype_byte content name b
byte_in state.AfterDoctype content attribute b = after_doctype_byte content b
byte_in (state.DoctypeKeyword word) content attribute b = doctype_keyword_byte content word b
byte_in state.BeforePublic content attribute b = before_public_byte content b
byte_in (state.PublicIdentifier mark) content attribute b = public_byte mark content b
byte_in state.AfterPublic content attribute b = after_public_byte content b
byte_in state.BetweenIdentifiers content attribute b = between_identifiers_byte content b
byte_in state.BeforeSystem content attribute b = before_system_byte content b
byte_in (state.SystemIdentifier mark) content attribute b = system_byte mark content b
byte_in state.AfterSystem content attribute b = after_system_byte content b
byte_in state.BogusComment content attribute b = bogus_comment_byte content b
byte_in state.CommentStart content attribute b = comment_start_byte content b
byte_in state.CommentStartDash content attribute b = comment_start_dash_byte content b
byte_in state.Comment content attribute b = comment_byte content b
byte_in state.CommentDash content attribute b = comment_dash_byte content b
byte_in state.CommentEnd content attribute b = comment_end_byte content b
byte_in state.Refused content attribute b = refuses

-- consume the next input character
unfoldable pub consume : Tokenizer → ℕ → Transition
consume t b = byte_in t.state t.content t.attribute b

-- where the tokenizer is after the bytes
abbrev pub state_after : Tokenizer → List ℕ → Tokenizer
state_after t [] = t
state_after t (b ∷ bytes) = state_after (consume t b).next bytes

-- its actions at the bytes
abbrev pub actions_of : Tokenizer → List ℕ → List Action
actions_of t [] = []
actions_of t (b ∷ bytes) = (consume t b).actions ++ actions_of (consume t b).next bytes
