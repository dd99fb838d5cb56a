-- What a byte does in text and in the value of an attribute.
-- HTML Standard, 13.2.5.1 Data state, 13.2.5.2 RCDATA state, 13.2.5.9 to 13.2.5.11 and 13.2.5.35 to 13.2.5.39, where the bytes that
-- the standard calls errors have no reading.
pub mod LegacyNames
pub mod References
use Rattle.std.specs.Prelude.{ℕ, [], ◌∷◌, ◌==◌, Option, Some, None, if◌then◌else◌, encode_utf8, map}
use Rattle.std.specs.Char.{is_ascii_alphabetic}
use Rattle.hesc_specs.specs.Text.Ascii.{double_quote, single_quote, ampersand, slash, less_than, greater_than}
use Rattle.hesc_grammars.specs.Html.{is_unquoted_error}
use Rattle.html_tokenizer.specs.declared.slot_place.SlotPlace.{SlotPlace}
use Rattle.html_tokenizer.specs.declared.slot_place.SlotPlace.TheVariants.{Text, DoubleQuoted, SingleQuoted, Unquoted}
use Rattle.html_tokenizer.specs.declared.elements.Content.{Content}
use Rattle.html_tokenizer.specs.Tokenizer.Actions.{EmitByte, read_byte}
use Rattle.html_tokenizer.specs.Tokenizer.Attributes.{content_after, may_end_raw, reference_read}
use Rattle.html_tokenizer.specs.Tokenizer.States as state
use Rattle.html_tokenizer.specs.Tokenizer.States.{Attribute, Ordinary, at_value}
use Rattle.html_tokenizer.specs.Tokenizer.Tags.{is_space, opened}
use Rattle.html_tokenizer.specs.Tokenizer.Transitions.{Transition, goes, moves, refuses, reconsumes, keeps}

-- at a `&`, which may begin a reference, or a `\`, which begins an escape
abbrev pub begins_character : SlotPlace → Content → Attribute → Transition
begins_character p content attribute = moves (at_value (state.Within p []) content (reference_read attribute)) []

-- after a reference or an escape that is read as a character
abbrev pub character_read : SlotPlace → Content → Attribute → Option ℕ → Transition
character_read p content attribute None = refuses
character_read p content attribute (Some c) =
    moves (at_value (state.In p) content attribute) (map (read_byte p) (encode_utf8 c))

-- 13.2.5.1 Data state, 13.2.5.2 RCDATA state
abbrev pub text_byte : Content → Attribute → ℕ → Transition
text_byte content attribute b =
    if b == less_than then goes state.TagOpen content []
    else (if b == ampersand then begins_character Text content attribute
    else keeps Text content attribute b)

-- 13.2.5.9 RCDATA less-than sign state, but for `/`
abbrev pub rcdata_less_byte : Content → ℕ → Transition
rcdata_less_byte content b = reconsumes (EmitByte less_than ∷ []) (text_byte content Ordinary b)

-- 13.2.5.10 RCDATA end tag open state
abbrev pub rcdata_end_tag_open_byte : Content → ℕ → Transition
rcdata_end_tag_open_byte content b =
    if is_ascii_alphabetic b then goes (state.ValueEndTag Text (b ∷ [])) content []
    else reconsumes (EmitByte less_than ∷ EmitByte slash ∷ []) (text_byte content Ordinary b)

-- after a value, if the profile has it
abbrev pub ended : Option Content → (Content → Transition) → Transition
ended None next = refuses
ended (Some content) next = next content

-- 13.2.5.36 Attribute value (double-quoted) state, 13.2.5.37 Attribute value (single-quoted) state
abbrev pub quoted_byte : ℕ → SlotPlace → Content → Attribute → ℕ → Transition
quoted_byte mark p content attribute b =
    if b == mark then ended (content_after content attribute) (λ content. goes state.AfterValue content [])
    else (if b == ampersand then begins_character p content attribute
    else (if may_end_raw attribute b then refuses
    else keeps p content attribute b))

-- a byte where a value without quotes may begin or go on
abbrev pub unquoted_byte : Content → Attribute → ℕ → Transition
unquoted_byte content attribute b =
    if b == ampersand then begins_character Unquoted content attribute
    else (if is_unquoted_error b then refuses
    else keeps Unquoted content attribute b)

-- 13.2.5.38 Attribute value (unquoted) state
abbrev pub unquoted_value_byte : Content → Attribute → ℕ → Transition
unquoted_value_byte content attribute b =
    if is_space b then ended (content_after content attribute) (λ content. goes state.BeforeName content [])
    else (if b == greater_than then ended (content_after content attribute) opened
    else unquoted_byte content attribute b)

-- 13.2.5.35 Before attribute value state
abbrev pub before_value_byte : Content → Attribute → ℕ → Transition
before_value_byte content attribute b =
    if is_space b then moves (at_value state.BeforeValue content attribute) []
    else (if b == double_quote then moves (at_value (state.In DoubleQuoted) content attribute) []
    else (if b == single_quote then moves (at_value (state.In SingleQuoted) content attribute) []
    else (if b == greater_than then refuses
    else unquoted_byte content attribute b)))
