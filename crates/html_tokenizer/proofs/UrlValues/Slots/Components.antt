-- A component of a URL, and an address in one, stays in any value, and is read as it stands.
use Rattle.std.proofs.Common.{ℕ, ◌≡◌, Bool, true, false, List, [], ◌∷◌, ◌==◌, ◌&&◌, ◌||◌, map, refl, subst, arith}
use Rattle.std.specs.Char.{is_ascii_alphanumeric}
use Rattle.std.specs.List.{list_all}
use Rattle.std.proofs.lemmas.Bool.{and_parts, or_parts}
use Rattle.std.proofs.lemmas.Bool.Decides.{nat_tests}
use Rattle.hesc_specs.specs.Text.Ascii.{ampersand, less_than}
use Rattle.html_tokenizer.specs.declared.elements.Content.{Content}
use Rattle.html_tokenizer.specs.declared.slot_place.SlotPlace.{SlotPlace}
use Rattle.html_tokenizer.specs.declared.slot_place.SlotPlace.TheVariants.{Text}
use Rattle.html_tokenizer.specs.Tokenizer.Actions.{Action, ValueByte, read_byte}
use Rattle.html_tokenizer.specs.Tokenizer.Attributes.{value_byte_read}
use Rattle.html_tokenizer.specs.Tokenizer.Attributes.ListParts.{is_list_mark}
use Rattle.html_tokenizer.specs.Tokenizer.States.{Attribute, In, Tokenizer, at_value}
use Rattle.html_tokenizer.specs.Tokenizer.Tokenization.{consume}
use Rattle.html_tokenizer.specs.Tokenizer.Transitions.{moves}
use Rattle.html_tokenizer.specs.UrlValues.{is_url}
use Rattle.html_tokenizer.specs.Tokenizer.Stretches.{leaves_value}
use Rattle.html_tokenizer.proofs.Slots.Html.{ends_no_raw}
use Rattle.html_tokenizer.proofs.Stretches.{byte_kept}
use Rattle.html_tokenizer.proofs.Passing.{Passes, passes_none, passes_byte}
use Rattle.html_tokenizer.proofs.UrlValues.Attributes.{byte_settled, is_open, open_url_is}
use Rattle.html_tokenizer.proofs.UrlValues.Places.{is_value_place}
use Rattle.html_tokenizer.proofs.UrlValues.Rules.{reads_url}
use Rattle.html_tokenizer.proofs.UrlValues.Staying.{StaysUrl, stays_byte, stays_none}

-- a letter, a digit, or `-`, `.`, `_`, `~` or `%`; in an address `@` or `+`
abbrev pub is_written_byte : ℕ → Bool
is_written_byte b = is_ascii_alphanumeric b || b == 45 || b == 46 || b == 95 || b == 126 || b == 37 || (b == 64 || b == 43)

-- so it neither ends a value nor begins something in it
component_remains : (p : SlotPlace) (b : ℕ) → is_written_byte b ≡ true → leaves_value p b ≡ false
component_remains Text b is = grind (arith, nat_tests)
component_remains other b is = grind (arith, nat_tests)

pub component_stays : (p : SlotPlace) (content : Content) (attribute : Attribute) (bytes : List ℕ) →
    ((b : ℕ) → is_written_byte b ≡ true → value_byte_read attribute b ≡ attribute) → list_all is_written_byte bytes ≡ true →
    Passes (at_value (In p) content attribute) bytes (map (read_byte p) bytes) (at_value (In p) content attribute)
component_stays p content attribute [] settled all = passes_none
component_stays p content attribute (b ∷ bytes) settled all =
    let parts = and_parts (is_written_byte b) (list_all is_written_byte bytes) all in
    let other = or_parts (b == less_than) (b == ampersand) (component_remains Text b parts.0) in
    passes_byte (byte_kept p content attribute b (settled b parts.0) (component_remains p b parts.0) (ends_no_raw attribute b other.0)) (component_stays p content attribute bytes settled parts.1)

-- ---- and to a URL that is open it adds itself

-- nor does it cut a list
component_uncut : (listed : Bool) (b : ℕ) → is_written_byte b ≡ true → (listed && is_list_mark b) ≡ false
component_uncut true b is = grind (arith, nat_tests)
component_uncut false b is = refl

pub component_settled : (listed : Bool) (attribute : Attribute) (b : ℕ) → is_open listed attribute ≡ true → is_written_byte b ≡ true → value_byte_read attribute b ≡ attribute
component_settled listed attribute b url_open is = byte_settled listed attribute b url_open (component_uncut listed b is)

pub component_added : (listed : Bool) (p : SlotPlace) (content : Content) (attribute : Attribute) (bytes : List ℕ) → is_value_place p ≡ true →
    is_open listed attribute ≡ true → list_all is_written_byte bytes ≡ true → StaysUrl (at_value (In p) content attribute) bytes bytes (at_value (In p) content attribute)
component_added listed p content attribute [] place url_open all = stays_none
component_added listed p content attribute (b ∷ bytes) place url_open all =
    let parts = and_parts (is_written_byte b) (list_all is_written_byte bytes) all in
    let other = or_parts (b == less_than) (b == ampersand) (component_remains Text b parts.0) in
    let url : is_url attribute ≡ true = open_url_is listed attribute url_open in
    let here : Tokenizer = at_value (In p) content attribute in
    let reads : read_byte p ≡ ValueByte = (reads_url listed content attribute url_open p place).reads in
    stays_byte (b ∷ []) url url
    (subst (λ (read : ℕ → Action). consume here b ≡ moves here (read b ∷ [])) reads
    (byte_kept p content attribute b (component_settled listed attribute b url_open parts.0) (component_remains p b parts.0) (ends_no_raw attribute b other.0)))
    (component_added listed p content attribute bytes place url_open parts.1)
