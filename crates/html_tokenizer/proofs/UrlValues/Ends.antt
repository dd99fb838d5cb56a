-- Where a URL ends.
use Rattle.std.proofs.Common.{ℕ, suc, ◌≡◌, Bool, true, false, List, [], ◌∷◌, ◌++◌, ◌==◌, refl, ap, ◌∙◌, ⊎_elim, arith}
use Rattle.std.specs.List.{before_first, list_any, position_or_len}
use Rattle.std.proofs.lemmas.Bool.{cases_Bool, false≢true, or_parts}
use Rattle.std.proofs.lemmas.Bool.Decides.{nat_tests}
use Rattle.hesc_specs.specs.Text.Ascii.{ampersand, double_quote, greater_than, single_quote}
use Rattle.html_tokenizer.specs.declared.elements.Content.{Content}
use Rattle.html_tokenizer.specs.declared.slot_place.SlotPlace.{SlotPlace}
use Rattle.html_tokenizer.specs.declared.slot_place.SlotPlace.TheVariants.{DoubleQuoted, SingleQuoted, Unquoted}
use Rattle.html_tokenizer.specs.declared.states.ListPart.{ListPart}
use Rattle.html_tokenizer.specs.Tokenizer.Attributes.ListParts.{is_in_listed_url, is_list_mark, list_read}
use Rattle.html_tokenizer.specs.Tokenizer.States.{Attribute, In, Listed, Tokenizer, at_value}
use Rattle.html_tokenizer.specs.Tokenizer.Tags.{is_space}
use Rattle.html_tokenizer.specs.Tokenizer.Tokenization.{consume}
use Rattle.html_tokenizer.specs.UrlValues.{closes_url, ends_value, is_of_urls, is_url, last_bytes, urls_from, value_bytes}
use Rattle.html_tokenizer.proofs.UrlValues.Appending.{urls_from-anew}
use Rattle.html_tokenizer.proofs.UrlValues.Attributes.{ends_settled, is_open, open_url_is, url_of_urls}
use Rattle.html_tokenizer.proofs.UrlValues.Places.{is_value_place}

-- the byte ends the URL, and what is held of a `&` before it is added to it
pub record Ends (t : Tokenizer) (b : ℕ) (added : List ℕ) : Type 0 where
  pub no_url : is_url (consume t b).next.attribute ≡ false
  pub adds : last_bytes t.attribute (value_bytes (consume t b).actions) ≡ added

-- ---- where the value ends

no_last : (attribute : Attribute) → last_bytes attribute [] ≡ []
no_last (Listed part) = refl
no_last other = refl

value_ends : (p : SlotPlace) (content : Content) (attribute : Attribute) (b : ℕ) → is_value_place p ≡ true →
    is_of_urls attribute ≡ true → ends_value p b ≡ true → Ends (at_value (In p) content attribute) b []
unfolding consume
value_ends DoubleQuoted content attribute b place is ends = record {
  no_url = rw (ends, ends_settled content attribute is) refl;
  adds = rw (ends, ends_settled content attribute is) (no_last attribute);
}
value_ends SingleQuoted content attribute b place is ends = record {
  no_url = rw (ends, ends_settled content attribute is) refl;
  adds = rw (ends, ends_settled content attribute is) (no_last attribute);
}
value_ends Unquoted content attribute b place is ends =
    ⊎_elim
    (λ (space : is_space b ≡ true). record {
      no_url = rw (space, ends_settled content attribute is) refl;
      adds = rw (space, ends_settled content attribute is) (no_last attribute);
    })
    (λ (none : is_space b ≡ false).
    let greater : (b == greater_than) ≡ true = rw none at ends in
    record {
      no_url = rw (none, greater, ends_settled content attribute is) refl;
      adds = rw (none, greater, ends_settled content attribute is) (no_last attribute);
    })
    (cases_Bool (is_space b))
value_ends other content attribute b place is ends = absurd (false≢true place)

-- ---- where a URL of a list does

-- a byte that cuts the list is none of the URL before it
mark_ends : (part : ListPart) (b : ℕ) → is_in_listed_url part ≡ true → is_list_mark b ≡ true → is_in_listed_url (list_read part b) ≡ false
mark_ends part b url_open mark = grind (arith, nat_tests)

mark_alone : (b : ℕ) → is_list_mark b ≡ true → before_first is_list_mark (b ∷ []) ≡ []
mark_alone b mark = rw mark refl

mark_kept : (b : ℕ) → is_list_mark b ≡ true → ((b == double_quote) ≡ false) × ((b == single_quote) ≡ false) × ((b == ampersand) ≡ false)
mark_kept b mark = (grind (arith, nat_tests), grind (arith, nat_tests), grind (arith, nat_tests))

list_ends : (p : SlotPlace) (content : Content) (part : ListPart) (b : ℕ) → is_value_place p ≡ true → is_in_listed_url part ≡ true →
    ends_value p b ≡ false → is_list_mark b ≡ true → Ends (at_value (In p) content (Listed part)) b []
unfolding consume
list_ends DoubleQuoted content part b place url_open inner mark =
    let kept = mark_kept b mark in
    record { no_url = rw (kept.0, kept.2) (mark_ends part b url_open mark); adds = rw (kept.0, kept.2) (mark_alone b mark) }
list_ends SingleQuoted content part b place url_open inner mark =
    let kept = mark_kept b mark in
    record { no_url = rw (kept.1, kept.2) (mark_ends part b url_open mark); adds = rw (kept.1, kept.2) (mark_alone b mark) }
list_ends Unquoted content part b place url_open inner mark =
    let ends = or_parts (is_space b) (b == greater_than) inner in
    let comma = comma_is b mark ends.0 in
    record {
      no_url = rw (ends.0, ends.1, comma) (mark_ends part 44 url_open refl);
      adds = rw (ends.0, ends.1, comma) refl;
    }
  where
    comma_is : (b : ℕ) → is_list_mark b ≡ true → is_space b ≡ false → b ≡ 44
    comma_is b mark none = grind (arith, nat_tests)
list_ends other content part b place url_open inner mark = absurd (false≢true place)

pub ends_at : (listed : Bool) (p : SlotPlace) (content : Content) (attribute : Attribute) (b : ℕ) → is_value_place p ≡ true →
    is_open listed attribute ≡ true → closes_url listed p b ≡ true → Ends (at_value (In p) content attribute) b []
ends_at false p content attribute b place is ends = value_ends p content attribute b place (url_of_urls attribute (open_url_is false attribute is)) ends
ends_at true p content (Listed part) b place is ends =
    ⊎_elim
    (λ (here : ends_value p b ≡ true). value_ends p content (Listed part) b place refl here)
    (λ (inner : ends_value p b ≡ false). list_ends p content part b place is inner (rw inner at ends))
    (cases_Bool (ends_value p b))
ends_at true p content other b place is ends = absurd (false≢true is)

-- so the URL is whole there
pub ends_whole : (t : Tokenizer) (value other added : List ℕ) (b : ℕ) (bytes : List ℕ) → is_url t.attribute ≡ true → Ends t b added →
    urls_from t value (b ∷ bytes) ≡ (value ++ added) ∷ urls_from (consume t b).next other bytes
ends_whole t value other added b bytes is ends =
    rw (is, ends.no_url, ends.adds)
    (ap (λ more. (value ++ added) ∷ more) (urls_from-anew (consume t b).next (value ++ value_bytes (consume t b).actions) other bytes ends.no_url))

-- ---- what is held before the byte is added to the URL

later_mark : (b : ℕ) (bytes : List ℕ) → is_list_mark b ≡ false → before_first is_list_mark (b ∷ bytes) ≡ b ∷ before_first is_list_mark bytes
later_mark b bytes none =
    let next : position_or_len is_list_mark (b ∷ bytes) ≡ suc (position_or_len is_list_mark bytes) = rw none (omega arith) in
    rw next refl

up_to_mark : (held bytes : List ℕ) → list_any is_list_mark held ≡ false → before_first is_list_mark (held ++ bytes) ≡ held ++ before_first is_list_mark bytes
up_to_mark [] bytes none = refl
up_to_mark (b ∷ held) bytes none =
    let parts = or_parts (is_list_mark b) (list_any is_list_mark held) none in
    later_mark b (held ++ bytes) parts.0 ∙ ap (λ more. b ∷ more) (up_to_mark held bytes parts.1)

pub last_held : (attribute : Attribute) (held bytes : List ℕ) → list_any is_list_mark held ≡ false →
    last_bytes attribute (held ++ bytes) ≡ held ++ last_bytes attribute bytes
last_held (Listed part) held bytes none = up_to_mark held bytes none
last_held other held bytes none = refl
