-- Percent-encoded bytes are split as the bytes are.
use Rattle.std.proofs.Common.{◌≡◌, ◌≢◌, ℕ, ◌<◌, false, ◌==◌, List, [], ◌∷◌, ◌++◌, length, map, Option, Some, None, option_map, unwrap_or, All, sym, ap, ◌∙◌, subst, arith, inl, inr}
use Rattle.std.proofs.lemmas.Bool.{cases_Bool, cases_eq, cond-false, cond-true, eq-eqb, ne_eqb}
use Rattle.std.proofs.lemmas.List.Elements.{All-append, All-cons, All-head, All-nil, All-tail, All-weaker}
use Rattle.form_urlencoded.specs.Form.{onto_first, split}
use Rattle.percent_encoding.specs.declared.ascii_set.AsciiSet.{AsciiSet}
use Rattle.percent_encoding.specs.AsciiSet.{should_percent_encode}
use Rattle.percent_encoding.specs.Percent.{percent_encode, percent_encode_byte}
use Rattle.percent_encoding.proofs.PercentLemmas.{All-percent_encode_byte, IsEscapeByte, percent_encode-append, percent_encode-nil, percent_encode_escaped, percent_encode_kept}
use Rattle.url.specs.Input.{split_once}
use Rattle.html_urls.specs.Inputs.{IsNot}
use Rattle.html_urls.proofs.Splits.{split_clear, split_some}
use Rattle.html_urls.proofs.Shapes.Pieces.{onto_front, split_front}

abbrev Split : Type 0
Split = List ℕ × Option (List ℕ)

-- the set escapes no such separator, and no escape has one
pub record Divides (set : AsciiSet) (mark : ℕ) : Type 0 where
  pub kept : should_percent_encode set mark ≡ false
  pub other : (b : ℕ) → IsEscapeByte b → b ≢ mark

one_encoded : (set : AsciiSet) (mark : ℕ) → Divides set mark → (b : ℕ) → b ≢ mark → All (IsNot mark) (percent_encode set (b ∷ []))
one_encoded set mark divides b other =
    elim (cases_Bool (should_percent_encode set b)) [
      | inl escaped ↦ subst (All (IsNot mark)) (sym (percent_encode_escaped set b [] escaped))
          (All-append (IsNot mark) (percent_encode_byte b) (percent_encode set []) (All-weaker IsEscapeByte (IsNot mark) divides.other (percent_encode_byte b) (All-percent_encode_byte b)) (subst (All (IsNot mark)) (sym (percent_encode-nil set)) (All-nil (IsNot mark))))
      | inr kept ↦ subst (All (IsNot mark)) (sym (percent_encode_kept set b [] kept))
          (All-cons (IsNot mark) b (percent_encode set []) other (subst (All (IsNot mark)) (sym (percent_encode-nil set)) (All-nil (IsNot mark))))
    ]

onto_encoded : (set : AsciiSet) (b : ℕ) (l : List (List ℕ)) → 0 < length l → onto_front (percent_encode set (b ∷ [])) (map (percent_encode set) l) ≡ map (percent_encode set) (onto_first b l)
onto_encoded set b [] some = absurd (omega arith)
onto_encoded set b (piece ∷ more) some = ap (λ p. p ∷ map (percent_encode set) more) (sym (percent_encode-append set (b ∷ []) piece))

pub split_encoded : (set : AsciiSet) (mark : ℕ) → Divides set mark → (bytes : List ℕ) → split mark (percent_encode set bytes) ≡ map (percent_encode set) (split mark bytes)
unfolding split
split_encoded set mark divides [] = ap (split mark) (percent_encode-nil set) ∙ ap (λ p. p ∷ []) (sym (percent_encode-nil set))
split_encoded set mark divides (b ∷ bytes) =
    let later = split_encoded set mark divides bytes in
    elim (cases_eq b mark) [
      | inl here ↦ ap (split mark) (percent_encode_kept set b bytes (subst (λ x. should_percent_encode set x ≡ false) (sym here) divides.kept))
          ∙ cond-true _ _ _ (eq-eqb b mark here)
          ∙ (let first = sym (percent_encode-nil set) in λ i. first i ∷ later i)
          ∙ ap (map (percent_encode set)) (sym (cond-true (b == mark) ([] ∷ split mark bytes) (onto_first b (split mark bytes)) (eq-eqb b mark here)))
      | inr other ↦ ap (split mark) (percent_encode-append set (b ∷ []) bytes)
          ∙ split_front mark (percent_encode set (b ∷ [])) (percent_encode set bytes) (one_encoded set mark divides b other)
          ∙ ap (onto_front (percent_encode set (b ∷ []))) later
          ∙ onto_encoded set b (split mark bytes) (split_some mark bytes)
          ∙ ap (map (percent_encode set)) (sym (cond-false (b == mark) ([] ∷ split mark bytes) (onto_first b (split mark bytes)) (ne_eqb b mark other)))
    ]

pub split_once_encoded : (set : AsciiSet) (mark : ℕ) → Divides set mark → (bytes : List ℕ) → split_once mark (percent_encode set bytes) ≡ (percent_encode set (split_once mark bytes).0, option_map (percent_encode set) (split_once mark bytes).1)
unfolding split_once
split_once_encoded set mark divides [] = ap (split_once mark) (percent_encode-nil set) ∙ ap (λ l. (l, None)) (sym (percent_encode-nil set))
split_once_encoded set mark divides (b ∷ bytes) =
    let later = split_once_encoded set mark divides bytes in
    let halves : Split → Split = λ r. (percent_encode set r.0, option_map (percent_encode set) r.1) in
    elim (cases_eq b mark) [
      | inl here ↦ ap (split_once mark) (percent_encode_kept set b bytes (subst (λ x. should_percent_encode set x ≡ false) (sym here) divides.kept))
          ∙ cond-true _ _ _ (eq-eqb b mark here)
          ∙ ap (λ l. (l, Some (percent_encode set bytes))) (sym (percent_encode-nil set))
          ∙ ap halves (sym (cond-true (b == mark) ([], Some bytes) (b ∷ (split_once mark bytes).0, (split_once mark bytes).1) (eq-eqb b mark here)))
      | inr other ↦ ap (split_once mark) (percent_encode-append set (b ∷ []) bytes)
          ∙ split_clear mark (percent_encode set (b ∷ [])) (percent_encode set bytes) (one_encoded set mark divides b other)
          ∙ ap (λ (r : Split). (percent_encode set (b ∷ []) ++ r.0, r.1)) later
          ∙ ap (λ l. (l, option_map (percent_encode set) (split_once mark bytes).1)) (sym (percent_encode-append set (b ∷ []) (split_once mark bytes).0))
          ∙ ap halves (sym (cond-false (b == mark) ([], Some bytes) (b ∷ (split_once mark bytes).0, (split_once mark bytes).1) (ne_eqb b mark other)))
    ]

-- what is known of all bytes is known of those of each half and of each piece
pub all_halves : (P : ℕ → Type 0) (mark : ℕ) (bytes : List ℕ) → All P bytes → All P (split_once mark bytes).0 × All P (unwrap_or (split_once mark bytes).1 [])
unfolding split_once
all_halves P mark [] all = (All-nil P, All-nil P)
all_halves P mark (b ∷ bytes) all =
    let later = all_halves P mark bytes (All-tail P b bytes all) in
    elim (cases_Bool (b == mark)) [ inl here ↦ rw here (All-nil P, All-tail P b bytes all) | inr other ↦ rw other (All-cons P b (split_once mark bytes).0 (All-head P b bytes all) later.0, later.1) ]

all_onto : (P : ℕ → Type 0) (b : ℕ) (l : List (List ℕ)) → P b → All (All P) l → All (All P) (onto_first b l)
all_onto P b [] here all = All-cons (All P) (b ∷ []) [] (All-cons P b [] here (All-nil P)) (All-nil (All P))
all_onto P b (piece ∷ more) here all = All-cons (All P) (b ∷ piece) more (All-cons P b piece here (All-head (All P) piece more all)) (All-tail (All P) piece more all)

pub all_pieces : (P : ℕ → Type 0) (mark : ℕ) (bytes : List ℕ) → All P bytes → All (All P) (split mark bytes)
unfolding split
all_pieces P mark [] all = All-cons (All P) [] [] (All-nil P) (All-nil (All P))
all_pieces P mark (b ∷ bytes) all =
    let later = all_pieces P mark bytes (All-tail P b bytes all) in
    elim (cases_Bool (b == mark)) [ inl here ↦ rw here (All-cons (All P) [] (split mark bytes) (All-nil P) later) | inr other ↦ rw other (all_onto P b (split mark bytes) (All-head P b bytes all) later) ]
