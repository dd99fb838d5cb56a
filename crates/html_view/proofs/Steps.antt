-- Markup that was let go is not looked at.
use Rattle.std.proofs.Common.{ℕ, zero, suc, ◌≡◌, ◌∙◌, drop, ◌+◌, ◌<◌, ◌≤◌, ◌||◌, ◌==◌, Bool, true, false, List, [], ◌∷◌, ◌++◌, Option, Some, None, Result, Ok, Err, if◌then◌else◌, length, take, nat_lt, arith, refl, ap, ⊎_elim, length-append, ltb-true, lt-ltb}
use Rattle.std.specs.List.{list_any, position_or_len}
use Rattle.std.proofs.lemmas.Bool.{cases_Bool, false≢true}
use Rattle.std.proofs.lemmas.List.{take-append-le}
use Rattle.hesc_specs.specs.Text.Ascii.{semicolon}
use Rattle.html_tokenizer.specs.Declarations.{bang, comma, is_style_byte}
use Rattle.html_urls.specs.Bases.{goes_as, open_behind}
use Rattle.html_urls.specs.OpenParts.{after_markup, is_unfixed}
use Rattle.html_urls.specs.declared.base.BehindBase.{BehindBase}
use Rattle.html_urls.specs.declared.base.BehindBase.TheVariants.{Segment}
use Rattle.html_urls.specs.declared.open_part.OpenPart.{OpenPart}
use Rattle.html_template.specs.OpenUrls.{behind_comma, behind_part, ends_listed, first_slot, is_slash, part_markup, plain_text, url_length, url_markup, url_slot}
use Rattle.html_template.specs.OpenUrls as urls
use Rattle.html_template.specs.TemplateFaults.{slot_at}
use Rattle.html_template.specs.declared.faults.PartFault.{PartFault}
use Rattle.html_template.specs.declared.faults.PartFault.TheVariants.{AfterLink, AfterStyleValue, NotFixed, NotPlain}
use Rattle.html_template.specs.declared.open_url.OpenUrl.{OpenUrl}
use Rattle.html_template.specs.declared.open_url.OpenUrl.TheVariants.{Outside, Within, Listed, Whole, Front, Declaration}
use Rattle.html_template.specs.declared.open_url.PlacedSlot.{PlacedSlot}
use Rattle.html_tokenizer.specs.declared.reader.Standing.{Standing}
use Rattle.html_tokenizer.specs.declared.reader.Standing.TheVariants.{Stands, InUrl, InLink, InListedUrl, InDeclaration, InScript, InJson, Nowhere, Barred}
use Rattle.html_tokenizer.specs.declared.slot_place.SlotPlace.{SlotPlace}
use Rattle.html_tokenizer.specs.UrlValues.{after_last, begins_url, closes_url, ends_value}

-- where a URL ends in markup, it does so whatever follows
position_more : (test : ℕ → Bool) (front more : List ℕ) → position_or_len test front < length front →
    position_or_len test (front ++ more) ≡ position_or_len test front
position_more test [] more few = absurd (omega arith)
position_more test (b ∷ front) more few =
    ⊎_elim
    (λ (ends : test b ≡ true). rw ends refl)
    (λ (goes : test b ≡ false).
    let fewer : position_or_len test front < length front = grind (arith, goes, few) in
    rw goes (ap (λ n. 1 + n) (position_more test front more fewer)))
    (cases_Bool (test b))

abbrev refusal : PartFault → Result OpenUrl PartFault
refusal why = Err why

never_ends : (listed : Bool) (p : SlotPlace) (found : Option OpenPart) → behind_part listed p false found ≡ Ok Outside → ⊥
never_ends listed p None told = absurd (cc)
never_ends true p (Some found) told = absurd (cc)
never_ends false p (Some found) told = absurd (cc)

pub still_open : (listed : Bool) (p : SlotPlace) (open_part : OpenPart) (text : Option (List ℕ)) → urls.behind_slot listed p open_part false text ≡ Ok Outside → ⊥
still_open listed p open_part None told = absurd (cc)
still_open listed p open_part (Some text) told =
    ⊎_elim
    (λ (ends : is_unfixed open_part text ≡ true). let clash : refusal NotFixed ≡ Ok Outside = rw ends at told in cc)
    (λ (other : is_unfixed open_part text ≡ false). never_ends listed p (after_markup open_part text) (rw other at told))
    (cases_Bool (is_unfixed open_part text))

-- nor does one behind a base
pub base_open : (p : SlotPlace) (behind : BehindBase) (text : Option (List ℕ)) → urls.after_base p behind false text ≡ Ok Outside → ⊥
base_open p behind None told = absurd (cc)
base_open p behind (Some text) told =
    ⊎_elim
    (λ (goes : goes_as behind text ≡ true). by_slash (is_slash text) (rw goes at told))
    (λ (stops : goes_as behind text ≡ false). let clash : refusal AfterLink ≡ Ok Outside = rw stops at told in cc)
    (cases_Bool (goes_as behind text))
  where
    by_slash : (slash : Bool) → (if slash then Ok (Front p Segment) else behind_part false p false (after_markup (open_behind behind) text)) ≡ Ok Outside → ⊥
    by_slash true told = absurd (cc)
    by_slash false told = never_ends false p (after_markup (open_behind behind) text) told

-- what markup makes of a URL is told by what it adds to it, and whether the value ends in it
abbrev Made : Type 0
Made = Bool → Option (List ℕ) → Result OpenUrl PartFault

abbrev made_of : Bool → SlotPlace → Made → List ℕ → Result OpenUrl PartFault
made_of listed p made markup =
    made (nat_lt (url_length listed p markup) (length markup)) (plain_text (nat_lt (url_length listed p markup) (length markup)) (take (url_length listed p markup) markup))

as_before : (made : Made) (ended same : Bool) (text again : List ℕ) → same ≡ ended → again ≡ text →
    made ended (plain_text ended text) ≡ Ok Outside → made same (plain_text same again) ≡ Ok Outside
as_before made ended same text again is_same is_again told = rw (is_same, is_again) told

ended_in_value : (listed : Bool) (p : SlotPlace) (made : Made) → ((text : Option (List ℕ)) → made false text ≡ Ok Outside → ⊥) → (front more : List ℕ) →
    made_of listed p made front ≡ Ok Outside → made_of listed p made (front ++ more) ≡ Ok Outside
ended_in_value listed p made goes_on front more told =
    ⊎_elim
    (λ (ended : nat_lt (url_length listed p front) (length front) ≡ true).
    let few : url_length listed p front < length front = ltb-true (url_length listed p front) (length front) ended in
    let same : url_length listed p (front ++ more) ≡ url_length listed p front = position_more (closes_url listed p) front more few in
    let longer : length front ≤ length (front ++ more) = omega (arith, length-append front more) in
    let still : nat_lt (url_length listed p (front ++ more)) (length (front ++ more)) ≡ nat_lt (url_length listed p front) (length front) =
    rw (same, ended) (lt-ltb (url_length listed p front) (length (front ++ more)) (omega arith)) in
    let text : take (url_length listed p (front ++ more)) (front ++ more) ≡ take (url_length listed p front) front =
    rw same (take-append-le (url_length listed p front) front more (omega arith)) in
    as_before made (nat_lt (url_length listed p front) (length front)) (nat_lt (url_length listed p (front ++ more)) (length (front ++ more)))
    (take (url_length listed p front) front) (take (url_length listed p (front ++ more)) (front ++ more)) still text told)
    (λ (goes : nat_lt (url_length listed p front) (length front) ≡ false).
    absurd (goes_on (plain_text false (take (url_length listed p front) front)) (rw goes at told)))
    (cases_Bool (nat_lt (url_length listed p front) (length front)))

-- where markup ends a URL of a list, it does so whatever follows
few_bytes : (listed : Bool) (p : SlotPlace) (made : Made) → ((text : Option (List ℕ)) → made false text ≡ Ok Outside → ⊥) → (front : List ℕ) →
    made_of listed p made front ≡ Ok Outside → url_length listed p front < length front
few_bytes listed p made goes_on front told =
    ⊎_elim
    (λ (ended : nat_lt (url_length listed p front) (length front) ≡ true). ltb-true (url_length listed p front) (length front) ended)
    (λ (goes : nat_lt (url_length listed p front) (length front) ≡ false).
    absurd (goes_on (plain_text false (take (url_length listed p front) front)) (rw goes at told)))
    (cases_Bool (nat_lt (url_length listed p front) (length front)))

comma_more : (p : SlotPlace) (front more : List ℕ) → behind_comma p front ≡ true → behind_comma p (front ++ more) ≡ true
comma_more p [] more told = absurd (false≢true told)
comma_more p (b ∷ front) more told =
    ⊎_elim
    (λ (is : (b == comma) ≡ true). rw is (comma_more p front more (rw is at told)))
    (λ (other : (b == comma) ≡ false). rw other (rw other at told))
    (cases_Bool (b == comma))

cut_more : (p : SlotPlace) (n : ℕ) (front more : List ℕ) → n < length front → ends_listed p (drop n front) ≡ true → ends_listed p (drop n (front ++ more)) ≡ true
cut_more p n [] more few told = absurd (omega arith)
cut_more p zero (b ∷ front) more few told =
    ⊎_elim
    (λ (is : (b == comma) ≡ true). rw is (comma_more p front more (rw is at told)))
    (λ (other : (b == comma) ≡ false). rw other refl)
    (cases_Bool (b == comma))
cut_more p (suc n) (b ∷ front) more few told = cut_more p n front more (omega arith) told

ended_listed : (p : SlotPlace) (open_part : OpenPart) (front more : List ℕ) → url_markup (Listed p open_part) front ≡ Ok Outside →
    url_markup (Listed p open_part) (front ++ more) ≡ Ok Outside
ended_listed p open_part front more told =
    ⊎_elim
    (λ (cut : ends_listed p (drop (url_length true p front) front) ≡ true).
    let here : part_markup true p open_part front ≡ Ok Outside = rw cut at told in
    let few : url_length true p front < length front = few_bytes true p (urls.behind_slot true p open_part) (still_open true p open_part) front here in
    let same : url_length true p (front ++ more) ≡ url_length true p front = position_more (closes_url true p) front more few in
    let still : ends_listed p (drop (url_length true p (front ++ more)) (front ++ more)) ≡ true =
    ap (λ n. ends_listed p (drop n (front ++ more))) same ∙ cut_more p (url_length true p front) front more few cut in
    rw still (ended_in_value true p (urls.behind_slot true p open_part) (still_open true p open_part) front more here))
    (λ (other : ends_listed p (drop (url_length true p front) front) ≡ false).
    let clash : refusal NotPlain ≡ Ok Outside = rw other at told in absurd (cc))
    (cases_Bool (ends_listed p (drop (url_length true p front) front)))

ended_whole : (p : SlotPlace) (front more : List ℕ) → urls.behind_link p front ≡ Ok Outside → urls.behind_link p (front ++ more) ≡ Ok Outside
ended_whole p [] more told = absurd (cc)
ended_whole p (b ∷ front) more told = told

-- so a declaration
ended_declaration : (p : SlotPlace) (front more : List ℕ) → urls.behind_value p front ≡ Ok Outside → urls.behind_value p (front ++ more) ≡ Ok Outside
ended_declaration p [] more told = absurd (cc)
ended_declaration p (b ∷ front) more told =
    ⊎_elim
    (λ (ends : (b == semicolon || ends_value p b) ≡ true). rw ends refl)
    (λ (on : (b == semicolon || ends_value p b) ≡ false).
    let later : (if is_style_byte b || b == bang then urls.behind_value p front else Err AfterStyleValue) ≡ Ok Outside = rw on at told in
    ⊎_elim
    (λ (plain : (is_style_byte b || b == bang) ≡ true). rw (on, plain) (ended_declaration p front more (rw plain at later)))
    (λ (other : (is_style_byte b || b == bang) ≡ false). let clash : refusal AfterStyleValue ≡ Ok Outside = rw other at later in absurd (cc))
    (cases_Bool (is_style_byte b || b == bang)))
    (cases_Bool (b == semicolon || ends_value p b))

pub ended_more : (url : OpenUrl) (front more : List ℕ) → url_markup url front ≡ Ok Outside → url_markup url (front ++ more) ≡ Ok Outside
ended_more Outside front more told = refl
ended_more (Within p open_part) front more told = ended_in_value false p (urls.behind_slot false p open_part) (still_open false p open_part) front more told
ended_more (Listed p open_part) front more told = ended_listed p open_part front more told
ended_more (Whole p) front more told = ended_whole p front more told
ended_more (Front p behind) front more told = ended_in_value false p (urls.after_base p behind) (base_open p behind) front more told
ended_more (Declaration p) front more told = ended_declaration p front more told

-- a slot that finds where the value of its URL begins finds it behind more markup, too
has_mark : (test : ℕ → Bool) (markup text : List ℕ) → after_last test markup ≡ Some text → list_any test markup ≡ true
has_mark test [] text told = absurd (cc)
has_mark test (b ∷ markup) text told =
    ⊎_elim
    (λ (any : list_any test markup ≡ true). rw any (any_true (test b)))
    (λ (none : list_any test markup ≡ false).
    ⊎_elim
    (λ (here : test b ≡ true). rw here refl)
    (λ (not_here : test b ≡ false). let nothing : None ≡ Some text = rw (none, not_here) at told in absurd (cc))
    (cases_Bool (test b)))
    (cases_Bool (list_any test markup))
  where
    any_true : (c : Bool) → (c || true) ≡ true
    any_true true = refl
    any_true false = refl

pub any_more : (test : ℕ → Bool) (front markup : List ℕ) → list_any test markup ≡ true → list_any test (front ++ markup) ≡ true
any_more test [] markup any = any
any_more test (b ∷ front) markup any = rw (any_more test front markup any) (any_true (test b))
  where
    any_true : (c : Bool) → (c || true) ≡ true
    any_true true = refl
    any_true false = refl

last_more : (test : ℕ → Bool) (front markup text : List ℕ) → after_last test markup ≡ Some text → after_last test (front ++ markup) ≡ Some text
last_more test [] markup text told = told
last_more test (b ∷ front) markup text told =
    rw (any_more test front markup (has_mark test markup text told)) (last_more test front markup text told)

first_more : (listed : Bool) (p : SlotPlace) (is_followed : Bool) (slot : PlacedSlot) (front markup : List ℕ) (found : Option (List ℕ)) →
    after_last (begins_url listed p) markup ≡ found → first_slot listed p is_followed found ≡ Ok slot →
    first_slot listed p is_followed (after_last (begins_url listed p) (front ++ markup)) ≡ Ok slot
first_more listed p is_followed slot front markup None is told = absurd (cc)
first_more listed p is_followed slot front markup (Some text) is told = rw (last_more (begins_url listed p) front markup text is) told

url_more : (listed : Bool) (p : SlotPlace) (is_followed : Bool) (slot : PlacedSlot) (front markup : List ℕ) →
    url_slot listed p is_followed markup Outside ≡ Ok slot → url_slot listed p is_followed (front ++ markup) Outside ≡ Ok slot
url_more listed p is_followed slot front markup told = first_more listed p is_followed slot front markup (after_last (begins_url listed p) markup) refl told

pub slot_more : (standing : Standing) (slot : PlacedSlot) (front markup : List ℕ) →
    slot_at markup Outside standing ≡ Ok slot → slot_at (front ++ markup) Outside standing ≡ Ok slot
slot_more (Stands p) slot front markup told = told
slot_more (InUrl p) slot front markup told = url_more false p false slot front markup told
slot_more (InLink p) slot front markup told = url_more false p true slot front markup told
slot_more (InListedUrl p) slot front markup told = url_more true p false slot front markup told
slot_more (InDeclaration p) slot front markup told = told
slot_more InScript slot front markup told = told
slot_more InJson slot front markup told = told
slot_more Barred slot front markup told = absurd (cc)
slot_more Nowhere slot front markup told = absurd (cc)
