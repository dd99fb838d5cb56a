-- Texts that fill the parts behind a base fill the parts of the URL, of which the base is the first markup.
use Rattle.std.proofs.Common.{◌≡◌, ℕ, ◌+◌, Bool, true, false, List, [], ◌∷◌, ◌++◌, Some, Ok, IsOkAnd, refl, sym, ap, ◌∙◌, subst, append_assoc, append-nil, arith}
use Rattle.std.proofs.lemmas.Bool.Decides.{nat_tests}
use Rattle.std.proofs.lemmas.Bool.{cond-true}
use Rattle.html_urls.specs.declared.base.BehindBase.{BehindBase}
use Rattle.html_urls.specs.declared.open_part.OpenPart.{OpenPart}
use Rattle.html_urls.specs.declared.parts.UrlFault.TheVariants as fault
use Rattle.html_urls.specs.declared.parts.UrlSlot.{UrlSlot}
use Rattle.html_urls.specs.Bases.{FillBehind, goes_on_so, is_base, open_behind, slots_behind}
use Rattle.html_urls.specs.OpenParts.{after_markup, after_text, open_of}
use Rattle.html_urls.specs.Shapes.{front_of}
use Rattle.html_urls.specs.Slots.{FillParts, FillUrl, Given, Markup, Slot, Told, after_slots, first_slots, is_plain, later_slots, no_parts, slots_of, told_of}
use Rattle.html_urls.proofs.Bases.Ends.{IsBase, base_is, markup_joined}
use Rattle.html_urls.proofs.Bases.Opened.{opens}
use Rattle.html_urls.proofs.Bases.GoesAs.{behind_goes}
use Rattle.html_urls.proofs.Filled.Told.{later_markup, later_fixed, later_nothing, later_slot, placed_markup, told_slots}

-- the slots behind an open part are the same whatever number the first part has
pub any_number : (parts : List Given) (k n : ℕ) (p : OpenPart) (slots : List UrlSlot) → later_slots k p parts ≡ Ok slots → later_slots n p parts ≡ Ok slots
any_number [] k n p slots told = let (closed, none) = later_nothing k p slots told in rw closed (ap Ok (sym none))
any_number (Markup bytes ∷ parts) k n p slots told =
    let (q, plain, here, rest) = later_markup k p bytes parts slots told in
    rw (plain, later_fixed k p bytes parts slots told, here) (any_number parts (k + 1) (n + 1) q slots rest)
any_number (Slot at ∷ parts) k n p slots told =
    let (slot, more, here, rest, are) = later_slot k p at parts slots told in
    rw here (ap (after_slots (slot ∷ [])) (any_number parts (k + 1) (n + 1) (after_text p) more rest) ∙ ap Ok (sym are))

-- the parts behind the base, of which this markup was read
first_from : (behind : BehindBase) (text : List ℕ) (parts : List Given) (k n : ℕ) (done : List ℕ) (q : OpenPart) (slots : List UrlSlot) → IsBase behind text →
    goes_on_so behind (done ++ front_of parts) ≡ true → after_markup (open_behind behind) done ≡ Some q → later_slots k q parts ≡ Ok slots → first_slots n (text ++ done) parts ≡ Ok slots
first_from behind text [] k n done q slots base goes opened told = ap Ok (sym (later_nothing k q slots told).1)
first_from behind text (Markup bytes ∷ parts) k n done q slots base goes opened told =
    let (r, plain, is, rest) = later_markup k q bytes parts slots told in
    rw plain
    (ap (λ front. first_slots (n + 1) front parts) (append_assoc text done bytes)
    ∙ first_from behind text parts (k + 1) (n + 1) (done ++ bytes) r slots base (ap (goes_on_so behind) (append_assoc done bytes (front_of parts)) ∙ goes) (markup_joined (open_behind behind) q done bytes opened ∙ is) rest)
first_from behind text (Slot at ∷ parts) k n done q slots base goes opened told =
    let here : open_of (text ++ done) ≡ Some q = opens behind text done q base (ap (goes_on_so behind) (sym (append-nil done)) ∙ goes) opened in
    ap (λ o. told_of o (fault.NotFixed n) (λ p. later_slots n p (Slot at ∷ parts))) here ∙ any_number (Slot at ∷ parts) k n q slots told

-- markup that another part may follow may be the last one
pub plain_anywhere : (text : List ℕ) (is_last : Bool) → is_plain text false ≡ true → is_plain text is_last ≡ true
plain_anywhere text is_last plain = grind (arith, nat_tests)

-- the slots behind a base are those of the URL
pub slots_told : (behind : BehindBase) (text : List ℕ) (parts : List Given) (k : ℕ) (slots : List UrlSlot) → is_base behind text ≡ true → goes_on_so behind (front_of parts) ≡ true →
    later_slots k (open_behind behind) parts ≡ Ok slots → slots_of (Markup text ∷ parts) ≡ Ok slots
slots_told behind text parts k slots is goes told =
    let base = base_is behind text is in
    cond-true _ _ _ (plain_anywhere text (no_parts parts) base.plain)
    ∙ ap (λ front. first_slots 1 front parts) (sym (append-nil text))
    ∙ first_from behind text parts k 1 [] (open_behind behind) slots base goes refl told

pub fills : (behind : BehindBase) (text : List ℕ) (parts : List Given) (texts : List (List ℕ)) → is_base behind text ≡ true → FillBehind behind parts texts → FillUrl (Markup text ∷ parts) texts
fills behind text parts texts is full =
    let goes = behind_goes behind parts texts full in
    let told : slots_behind behind parts ≡ later_slots 0 (open_behind behind) parts = cond-true _ _ _ goes in
    let (slots, found, fill) = told_slots (slots_behind behind parts) parts texts full in
    subst (λ (t : Told). IsOkAnd t (FillParts (Markup text ∷ parts) texts)) (sym (slots_told behind text parts 0 slots is goes (sym told ∙ found))) (fill.0, placed_markup slots text parts ∙ ap (λ l. Markup text ∷ l) fill.1)
