-- Parts of a form that is read: what is bound, names, and values without quote marks, which hold an item.
use Rattle.std.proofs.Common.{ℕ, suc, ◌≡◌, ◌==◌, ◌&&◌, if◌then◌else◌, ◌≢◌, ◌+◌, Bool, true, false, List, [], ◌∷◌, ◌++◌, Option, Some, None, length, take, encode_utf8, refl, sym, ap, ◌∙◌, ⊎_elim, arith, length-append}
use Rattle.std.specs.Char.{is_ascii_lowercase}
use Rattle.std.specs.List.{list_all, position_from, prefix_len}
use Rattle.std.proofs.lemmas.Bool.{cases_Bool}
use Rattle.std.proofs.lemmas.Str.{len_utf8_bounds, length-encode}
use Rattle.hesc_specs.specs.Text.Ascii.{ampersand, semicolon}
use Rattle.hesc_grammars.specs.declared.place.End.{End}
use Rattle.hesc_grammars.specs.declared.place.Place.TheVariants.{UnquotedAttribute}
use Rattle.hesc_grammars.specs.declared.step.Mode.TheVariants.{Empty, Plain}
use Rattle.hesc_grammars.specs.declared.step.Mode.{Mode}
use Rattle.hesc_grammars.specs.declared.step.Step.{Step}
use Rattle.hesc_grammars.specs.declared.step.Step.TheVariants.{Close, Byte, Character, Nothing}
use Rattle.hesc_grammars.specs.Html.{ends_unquoted, has_item, is_unquoted_error, unquoted_step}
use Rattle.hesc_grammars.specs.Places.{end_byte, reading, step_of}
use Rattle.hesc_grammars.specs.Reading.{after, reading_after, taken}
use Rattle.hesc_grammars.specs.References.{body_character, character_or_nothing, reference_of_length}
use Rattle.hesc_places.specs.Pages.FormTexts.{is_name}
use Rattle.hesc_places.specs.Pages.Parsers.{◌>>=◌, past_while, some_while}

-- where all is read, each part is
pub record IsBound {A B : Type 0} (found : Option A) (go_on : A → Option B) (all : B) : Type 0 where
  pub part : A
  pub is : found ≡ Some part
  pub others : go_on part ≡ Some all

pub bound : {A B : Type 0} (found : Option A) (go_on : A → Option B) (all : B) → (found >>= go_on) ≡ Some all → IsBound found go_on all
bound None go_on all told = absurd (cc)
bound (Some part) go_on all told = record { part = part; is = refl; others = told }

-- ---- names

all_letters : (bytes : List ℕ) → list_all is_ascii_lowercase (take (prefix_len is_ascii_lowercase bytes) bytes) ≡ true
all_letters [] = refl
all_letters (b ∷ bytes) =
    ⊎_elim
    (λ (letter : is_ascii_lowercase b ≡ true).
    let more : prefix_len is_ascii_lowercase (b ∷ bytes) ≡ suc (prefix_len is_ascii_lowercase bytes) = rw letter (omega arith) in
    rw (more, letter) (all_letters bytes))
    (λ (other : is_ascii_lowercase b ≡ false). rw other refl)
    (cases_Bool (is_ascii_lowercase b))

read_if : (none : Bool) (found name : List ℕ × List ℕ) → (if none then None else Some found) ≡ Some name → found ≡ name
read_if true found name told = absurd (cc)
read_if false found name told = cc

-- what passes a test at the front is not empty
pub some_read : (count : ℕ) (found name : List ℕ × List ℕ) → (if count == 0 then None else Some found) ≡ Some name → found ≡ name
some_read count found name told = read_if (count == 0) found name told

pub name_read : (bytes : List ℕ) (name : List ℕ × List ℕ) → some_while is_ascii_lowercase bytes ≡ Some name → is_name name.0 ≡ true
name_read [] name told = absurd (cc)
name_read (b ∷ bytes) name told =
    ⊎_elim
    (λ (letter : is_ascii_lowercase b ≡ true).
    let more : prefix_len is_ascii_lowercase (b ∷ bytes) ≡ suc (prefix_len is_ascii_lowercase bytes) = rw letter (omega arith) in
    let found : List ℕ × List ℕ = (take (prefix_len is_ascii_lowercase (b ∷ bytes)) (b ∷ bytes), past_while is_ascii_lowercase (b ∷ bytes)) in
    let same : found ≡ name = some_read (prefix_len is_ascii_lowercase (b ∷ bytes)) found name told in
    let first : take (prefix_len is_ascii_lowercase (b ∷ bytes)) (b ∷ bytes) ≡ b ∷ take (prefix_len is_ascii_lowercase bytes) bytes = rw more refl in
    let is : b ∷ take (prefix_len is_ascii_lowercase bytes) bytes ≡ name.0 = sym first ∙ ap (λ (x : List ℕ × List ℕ). x.0) same in
    rw (← is, letter) (all_letters bytes))
    (λ (other : is_ascii_lowercase b ≡ false).
    let none : None ≡ Some name = rw other at told in
    absurd (cc))
    (cases_Bool (is_ascii_lowercase b))

-- ---- values without quote marks

no_reference_closes : (more : ℕ) (c : Option ℕ) → character_or_nothing more c ≡ Close → ⊥
no_reference_closes more None is = cc
no_reference_closes more (Some c) is = cc

reference_goes_on : (bytes : List ℕ) (found : Option ℕ) → reference_of_length found bytes ≡ Close → ⊥
reference_goes_on bytes None is = cc
reference_goes_on bytes (Some n) is = no_reference_closes (n + 1) (body_character (take n bytes)) is

no_item_closes : (end b : ℕ) → (if b == end && has_item Empty then Close else Nothing) ≡ Close → ⊥
no_item_closes end b is =
    ⊎_elim
    (λ (here : (b == end) ≡ true). let clash : Nothing ≡ Close = rw here at is in cc)
    (λ (other : (b == end) ≡ false). let clash : Nothing ≡ Close = rw other at is in cc)
    (cases_Bool (b == end))

begins_with_item : (end b : ℕ) (bytes : List ℕ) → unquoted_step end Empty (b ∷ bytes) ≡ Close → ⊥
unfolding unquoted_step
begins_with_item end b bytes is =
    ⊎_elim
    (λ (ends : ends_unquoted b ≡ true). no_item_closes end b (rw ends at is))
    (λ (goes_on : ends_unquoted b ≡ false).
    ⊎_elim
    (λ (refers : (b == ampersand) ≡ true). reference_goes_on bytes (position_from (λ c. c == semicolon) 0 bytes) (rw (goes_on, refers) at is))
    (λ (other : (b == ampersand) ≡ false).
    ⊎_elim
    (λ (error : is_unquoted_error b ≡ true). let clash : Nothing ≡ Close = rw (goes_on, other, error) at is in cc)
    (λ (plain : is_unquoted_error b ≡ false). let clash : Byte 0 b Plain ≡ Close = rw (goes_on, other, plain) at is in cc)
    (cases_Bool (is_unquoted_error b)))
    (cases_Bool (b == ampersand)))
    (cases_Bool (ends_unquoted b))

longer : (value : List ℕ) (count : ℕ) (rest : Option (List ℕ × ℕ)) (found : List ℕ × ℕ) → length value ≢ 0 → after value count rest ≡ Some found → length found.0 ≢ 0
longer value count None found some told = absurd (cc)
longer value count (Some rest) found some told =
    let same : value ++ rest.0 ≡ found.0 = cc in
    λ none. some (omega (arith, length-append value rest.0, ap length same, none))

item_filled : (item : Step) (go_on : ℕ → Mode → Option (List ℕ × ℕ)) (found : List ℕ × ℕ) → (item ≡ Close → ⊥) → taken item go_on ≡ Some found → length found.0 ≢ 0
item_filled Close go_on found no_end told = absurd (no_end refl)
item_filled (Byte more value next) go_on found no_end told =
    longer (value ∷ []) 1 (go_on more next) found (λ none. let one : 1 ≡ 0 = none in omega (arith, one)) told
item_filled (Character more value next) go_on found no_end told =
    longer (encode_utf8 value) 1 (go_on more next) found (λ none. omega (arith, length-encode value, (len_utf8_bounds value).0, none)) told
item_filled Nothing go_on found no_end told = absurd (cc)

pub value_filled : (end : End) (bytes : List ℕ) (found : List ℕ × ℕ) → reading (UnquotedAttribute end) bytes ≡ Some found → length found.0 ≢ 0
value_filled end [] found told = absurd (cc)
value_filled end (b ∷ bytes) found told =
    item_filled (step_of (UnquotedAttribute end) Empty (b ∷ bytes)) (λ more next. reading_after (step_of (UnquotedAttribute end)) more next bytes) found
    (begins_with_item (end_byte end) b bytes) told
