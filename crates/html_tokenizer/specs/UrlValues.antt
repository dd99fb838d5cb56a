-- The URLs of a page: the values of the attributes that the tokenizer takes for URLs, and what markup adds to one.
use Rattle.std.specs.Prelude.{ℕ, Bool, true, false, ◌&&◌, ◌||◌, not, List, [], ◌∷◌, ◌++◌, ◌==◌, Option, Some, None, bytes_eq, codes, if◌then◌else◌}
use Rattle.std.specs.Char.{is_ascii_alphanumeric}
use Rattle.std.specs.List.{before_first, list_any}
use Rattle.std.specs.Option.{option_map}
use Rattle.hesc_specs.specs.Text.Ascii.{ampersand, double_quote, equals_sign, greater_than, semicolon, single_quote}
use Rattle.html_tokenizer.specs.declared.slot_place.SlotPlace.{SlotPlace}
use Rattle.html_tokenizer.specs.declared.slot_place.SlotPlace.TheVariants.{DoubleQuoted, SingleQuoted}
use Rattle.html_tokenizer.specs.Tokenizer.Actions.{Action, ValueByte}
use Rattle.html_tokenizer.specs.Tokenizer.Attributes.ListParts.{is_in_listed_url, is_list_mark}
use Rattle.html_tokenizer.specs.Tokenizer.States.{Attribute, FixedRawUrl, FixedUrl, Link, Listed, RawUrl, Tokenizer, Url}
use Rattle.html_tokenizer.specs.Tokenizer.Tags.{is_space}
use Rattle.html_tokenizer.specs.Tokenizer.Tokenization.{consume}
use Rattle.html_tokenizer.specs.Tokenizer.Values.References.{goes_on}

abbrev pub is_url : Attribute → Bool
is_url Url = true
is_url Link = true
is_url FixedUrl = true
is_url RawUrl = true
is_url FixedRawUrl = true
is_url (Listed part) = is_in_listed_url part
is_url other = false

-- the value is a URL, or a list of them
abbrev pub is_of_urls : Attribute → Bool
is_of_urls (Listed part) = true
is_of_urls other = is_url other

-- the bytes that actions append to the value of an attribute
abbrev pub value_bytes : List Action → List ℕ
value_bytes [] = []
value_bytes (ValueByte b ∷ actions) = b ∷ value_bytes actions
value_bytes (other ∷ actions) = value_bytes actions

-- the value so far of the URL that is open, after a byte more
abbrev pub url_after : Tokenizer → List ℕ → ℕ → List ℕ
url_after t value b = (if is_url t.attribute then value else []) ++ value_bytes (consume t b).actions

-- and after bytes
abbrev pub open_url : Tokenizer → List ℕ → List ℕ → List ℕ
open_url t value [] = value
open_url t value (b ∷ bytes) = open_url (consume t b).next (url_after t value b) bytes

-- at this byte the URL that is open ends
abbrev pub ends_url : Tokenizer → ℕ → Bool
ends_url t b = is_url t.attribute && not (is_url (consume t b).next.attribute)

-- of the bytes that are appended where a URL ends those that it holds: one of a list ends before white space and commas
abbrev pub last_bytes : Attribute → List ℕ → List ℕ
last_bytes (Listed part) bytes = before_first is_list_mark bytes
last_bytes other bytes = bytes

-- the URL that ends at this byte. Of a list it is the URL that 4.8.4.3.10 (Parsing a srcset attribute) has there, but where that holds a comma that is
-- none of those at its end, or a reference other than `&amp;`: then it is the front of it before the comma, or with the reference's character, and of
-- what stands behind it in the list nothing is told
abbrev pub ended_url : Tokenizer → List ℕ → ℕ → List ℕ
ended_url t value b = value ++ last_bytes t.attribute (value_bytes (consume t b).actions)

-- the URLs that end in the bytes, where this is the value so far of the one that is open
abbrev pub urls_from : Tokenizer → List ℕ → List ℕ → List (List ℕ)
urls_from t value [] = []
urls_from t value (b ∷ bytes) =
    (if ends_url t b then ended_url t value b ∷ [] else []) ++ urls_from (consume t b).next (url_after t value b) bytes

-- ---- the markup of a URL that holds a slot

-- a value at this place begins after the byte, and ends before it
abbrev pub begins_value : SlotPlace → ℕ → Bool
begins_value DoubleQuoted b = b == double_quote
begins_value SingleQuoted b = b == single_quote
begins_value other b = b == equals_sign || is_space b

abbrev pub ends_value : SlotPlace → ℕ → Bool
ends_value DoubleQuoted b = b == double_quote
ends_value SingleQuoted b = b == single_quote
ends_value other b = is_space b || b == greater_than

-- the same of a URL, by whether it is one of a list: that begins after white space or a comma, too, and ends before one
abbrev pub begins_url : Bool → SlotPlace → ℕ → Bool
begins_url false p b = begins_value p b
begins_url true p b = begins_value p b || is_list_mark b

abbrev pub closes_url : Bool → SlotPlace → ℕ → Bool
closes_url false p b = ends_value p b
closes_url true p b = ends_value p b || is_list_mark b

-- what stands after the last byte that passes the test, if there is one
abbrev pub after_last : (ℕ → Bool) → List ℕ → Option (List ℕ)
after_last is_mark [] = None
after_last is_mark (b ∷ bytes) =
    if list_any is_mark bytes then after_last is_mark bytes
    else (if is_mark b then Some bytes else None)

-- the bytes that markup adds to a URL, where these letters and digits stand after a `&`: it is a `&` itself before `amp;`, and where no
-- reference begins; what else a `;` ends or a `#` begins is not taken, and nor is what is open at the end, unless the value ends there
abbrev pub url_text_from : Bool → Option (List ℕ) → List ℕ → Option (List ℕ)
url_text_from is_ended None [] = Some []
url_text_from is_ended (Some word) [] = if is_ended then Some (ampersand ∷ word) else None
url_text_from is_ended None (b ∷ bytes) =
    if b == ampersand then url_text_from is_ended (Some []) bytes
    else option_map (λ text. b ∷ text) (url_text_from is_ended None bytes)
url_text_from is_ended (Some word) (b ∷ bytes) =
    if is_ascii_alphanumeric b then url_text_from is_ended (Some (word ++ b ∷ [])) bytes
    else (if b == semicolon && bytes_eq word (codes "amp") then option_map (λ text. ampersand ∷ text) (url_text_from is_ended None bytes)
    else (if b == semicolon || goes_on word b then None
    else (if b == ampersand then option_map (λ text. ampersand ∷ word ++ text) (url_text_from is_ended (Some []) bytes)
    else option_map (λ text. ampersand ∷ word ++ b ∷ text) (url_text_from is_ended None bytes))))

abbrev pub url_text : Bool → List ℕ → Option (List ℕ)
url_text is_ended markup = url_text_from is_ended None markup
