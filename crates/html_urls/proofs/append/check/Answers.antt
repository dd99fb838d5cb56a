use Rattle.std.proofs.Common.{◌≡◌, ℕ, ◌+◌, List, [], ◌∷◌, length, Some, None, sym, ap, ◌∙◌, arith, inl, inr}
use Rattle.std.proofs.lemmas.Bool.{cases_Bool}
use Rattle.std.proofs.lemmas.List.{length-map}
use Rattle.html_urls.specs.declared.parts.UrlSlot.{UrlSlot}
use Rattle.html_urls.specs.declared.parts.UrlTextFault.{UrlTextFault}
use Rattle.html_urls.specs.declared.parts.UrlTextFault.TheVariants.{WrongText}
use Rattle.html_urls.specs.Slots.{FillSlots, may_fill, texts_of}
use Rattle.html_urls.specs.TextFaults.{first_refused}
use Rattle.html_urls.proofs.SlotsTaken.{given_fills}
use Rattle.html_urls.proofs.append.check.Goals as goal

some_none : (fault : UrlTextFault) → Some fault ≡ None → ⊥
some_none fault is = cc

all_fill : (number : ℕ) (slots : List UrlSlot) (texts : List (List ℕ)) → length slots ≡ length texts → first_refused number slots texts ≡ None → FillSlots slots texts
all_fill number [] [] same none = tt
all_fill number [] (text ∷ texts) same none = absurd (omega arith)
all_fill number (slot ∷ slots) [] same none = absurd (omega arith)
all_fill number (slot ∷ slots) (text ∷ texts) same none =
    elim (cases_Bool (may_fill slot text)) [ inl may ↦ (may, all_fill (number + 1) slots texts (omega arith) (rw may at none)) | inr refused ↦ absurd (some_none (WrongText number) (rw refused at none)) ]

pub returns-clause-fills : goal.returns-clause-fills
returns-clause-fills g c =
    let texts : List (List ℕ) = texts_of c.args.texts.now in
    let slots : List UrlSlot = c.in-Ok.slots.items in
    let refused : None ≡ first_refused 0 c.deref.result.now texts = c.in-None.ensures in
    let none : first_refused 0 slots texts ≡ None = ap (λ s. first_refused 0 s texts) (sym c.deref.ensures.value) ∙ sym refused in
    let count : length texts ≡ length c.args.texts.now = length-map {B = List ℕ} c.args.texts.now (λ text. text.now) in
    let same : length slots ≡ length texts = omega arith in
    given_fills c.args.parts.now texts slots c.in-Ok.ensures (all_fill 0 slots texts same none)
