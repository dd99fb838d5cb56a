-- What a byte does in a string of a script or a style.
-- ECMAScript, 12.9.4 String Literals, with the escapes of hesc_grammars' grammar and `\/`.
-- CSS Syntax Module Level 3, 4.3.5 Consume a string token, 4.3.7 Consume an escaped code point.
-- The end tag of the element (13.2.5.12 to 13.2.5.17) ends a string, too. Where `<!` begins an escape of a script, and
-- where the profile does not read one of the string, the string is given up: the rest of the code is opaque.
use Rattle.std.specs.Prelude.{ℕ, Bool, false, ◌&&◌, ◌||◌, List, [], ◌∷◌, ◌++◌, ◌==◌, Option, Some, None, nat_lt, bytes_eq, if◌then◌else◌, length, map}
use Rattle.std.specs.Char.{is_digit}
use Rattle.std.specs.List.{list_all}
use Rattle.std.specs.Str.Parse.{digits_value}
use Rattle.hesc_specs.specs.Text.Ascii.{tab, line_feed, space, slash, less_than, backslash, lower_x}
use Rattle.hesc_grammars.specs.ScriptStrings.{lower_u, script_escape}
use Rattle.hesc_grammars.specs.StyleStrings.{escaped_character, is_newline_or_nul}
use Rattle.hesc_grammars.specs.declared.step.Step.{Step}
use Rattle.hesc_grammars.specs.declared.step.Step.TheVariants as step
use Rattle.html_tokenizer.specs.declared.slot_place.SlotPlace.{SlotPlace}
use Rattle.html_tokenizer.specs.declared.states.Code.TheVariants.{Plain, Opaque}
use Rattle.html_tokenizer.specs.declared.elements.Content.{Content}
use Rattle.html_tokenizer.specs.Tokenizer.Actions.{CodeByte, StringByte, StringEnd, read_byte}
use Rattle.html_tokenizer.specs.Tokenizer.Code.{in_code_byte, is_script, less_byte}
use Rattle.html_tokenizer.specs.Tokenizer.Code.Comments.{ends_line}
use Rattle.html_tokenizer.specs.Tokenizer.Attributes.{reference_read}
use Rattle.html_tokenizer.specs.Tokenizer.States as state
use Rattle.html_tokenizer.specs.Tokenizer.States.{Attribute, at_value}
use Rattle.html_tokenizer.specs.Tokenizer.Tags.{exclamation_mark}
use Rattle.html_tokenizer.specs.Tokenizer.Transitions.{Transition, goes, moves, reconsumes, keeps}
use Rattle.html_tokenizer.specs.Tokenizer.Values.{begins_character, character_read}

-- a byte of a string, which its mark ends, `\` begins an escape in, and some bytes may not stand in
abbrev pub string_byte : (ℕ → Bool) → ℕ → SlotPlace → Content → Attribute → ℕ → Transition
string_byte breaks mark p content attribute b =
    if b == mark then goes (state.InCode Plain) content (StringEnd ∷ [])
    else (if b == backslash then begins_character p content attribute
    else (if b == less_than then moves (at_value (state.StringLess p) content attribute) []
    else (if breaks b then goes (state.InCode Opaque) content (StringEnd ∷ CodeByte b ∷ [])
    else keeps p content attribute b)))

abbrev pub script_string_byte : ℕ → SlotPlace → Content → Attribute → ℕ → Transition
script_string_byte = string_byte ends_line

abbrev pub style_string_byte : ℕ → SlotPlace → Content → Attribute → ℕ → Transition
style_string_byte = string_byte is_newline_or_nul

-- `<!` begins an escape (13.2.5.18) of a script, also in a string
abbrev pub begins_comment : Content → ℕ → Bool
begins_comment content b = b == exclamation_mark && is_script content.element

-- after a `<` of a string
abbrev pub string_less_byte : SlotPlace → Content → Attribute → Transition → ℕ → Transition
string_less_byte p content attribute again b =
    if b == slash then moves (at_value (state.ValueEndTag p []) content (reference_read attribute)) []
    else (if begins_comment content b then reconsumes (StringEnd ∷ []) (less_byte Opaque content b)
    else reconsumes (StringByte less_than ∷ []) again)

-- the bytes of an escape that is not read, before this one
abbrev pub gives_escape_up : Content → List ℕ → ℕ → Transition
gives_escape_up content word b = reconsumes (StringEnd ∷ CodeByte backslash ∷ map CodeByte word) (in_code_byte Opaque content b)

-- the character of an escape of exactly so many bytes after its `\`
abbrev pub escape_character : ℕ → Step → Option ℕ
escape_character count (step.Character more c next) = if more == count then Some c else None
escape_character count other = None

-- the character of an escape's bytes after its `\`
abbrev pub character_of_escape : List ℕ → Option ℕ
character_of_escape word =
    if bytes_eq word (slash ∷ []) then Some slash else escape_character (length word) (script_escape word)

-- the beginning of an escape by hex digits
abbrev pub begins_hex_escape : List ℕ → Bool
begins_hex_escape [] = false
begins_hex_escape (b ∷ digits) =
    ((b == lower_x && nat_lt (length digits) 2) || (b == lower_u && nat_lt (length digits) 4)) && list_all (λ d. is_digit d 16) digits

abbrev pub escape_or_more : SlotPlace → Content → Attribute → List ℕ → ℕ → Option ℕ → Transition
escape_or_more p content attribute word b (Some c) = character_read p content attribute (Some c)
escape_or_more p content attribute word b None =
    if begins_hex_escape (word ++ b ∷ []) then moves (at_value (state.Within p (word ++ b ∷ [])) content attribute) []
    else gives_escape_up content word b

-- an escape of a script goes up to the byte that completes it
abbrev pub script_escape_byte : SlotPlace → Content → Attribute → List ℕ → ℕ → Transition
script_escape_byte p content attribute word b =
    escape_or_more p content attribute word b (character_of_escape (word ++ b ∷ []))

-- the white space that may follow the digits of an escape
abbrev pub is_escape_space : ℕ → Bool
is_escape_space b = b == space || b == tab || b == line_feed

-- after the hex digits of an escape of a style
abbrev pub digits_read : SlotPlace → Content → Attribute → List ℕ → Transition
digits_read p content attribute digits =
    character_read p content attribute (Some (escaped_character (digits_value 16 digits)))

-- an escape of a style is one to six hex digits and at most one white space, or one byte that is no digit
abbrev pub style_escape_byte : SlotPlace → Content → Attribute → List ℕ → ℕ → Transition → Transition
style_escape_byte p content attribute [] b again =
    if is_digit b 16 then moves (at_value (state.Within p (b ∷ [])) content attribute) []
    else (if is_newline_or_nul b || b == less_than then gives_escape_up content [] b
    else moves (at_value (state.In p) content attribute) (read_byte p b ∷ []))
style_escape_byte p content attribute (d ∷ digits) b again =
    if is_digit b 16 && nat_lt (length (d ∷ digits)) 6
    then moves (at_value (state.Within p ((d ∷ digits) ++ b ∷ [])) content attribute) []
    else (if is_escape_space b then digits_read p content attribute (d ∷ digits)
    else reconsumes (digits_read p content attribute (d ∷ digits)).actions again)
