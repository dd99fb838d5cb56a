-- The encoding of two texts that are joined, where the first has no `<` near its end.
use Rattle.std.proofs.Common.{ℕ, suc, ◌≡◌, ◌≢◌, ◌+◌, ◌-◌, ◌<◌, ◌≤◌, ◌&&◌, List, [], ◌∷◌, ◌++◌, ◌==◌, length, drop, refl, ap, ◌∙◌, arith, ne_eqb, inl, inr}
use Rattle.std.proofs.lemmas.Bool.Decides.{nat_tests}
use Rattle.std.proofs.lemmas.Bool.{cases_Bool, cases_lt}
use Rattle.std.proofs.lemmas.List.{length-drop, get_or-drop}
use Rattle.std.specs.Prelude.{slice_index}
use Rattle.hesc_specs.specs.Text.Ascii.{less_than}
use Rattle.hesc_specs.specs.Bodies.Encoding.{body_encoding, EndsWithoutLessThan}
use Rattle.hesc_specs.specs.Text.Elements.{element_name}
use Rattle.hesc_specs.specs.Bodies.Openings.{completes_opening, is_opening}
use Rattle.hesc_specs.specs.declared.elements.Element.{Element}

completes_opening-append : (element : Element) (a b : List ℕ) → length (element_name element) + 2 ≤ length a → completes_opening element (a ++ b) ≡ completes_opening element a
completes_opening-append element a b long = grind (arith, nat_tests)

-- no `<` stands among the last n bytes
HasNoneNearEnd : ℕ → List ℕ → Type 0
HasNoneNearEnd n text = (k : ℕ) → k < length text → length text ≤ k + n → slice_index text k ≢ less_than

is_opening-append : (element : Element) (c : ℕ) (a b : List ℕ) → HasNoneNearEnd (length (element_name element) + 2) (c ∷ a)
    → is_opening element (c ∷ (a ++ b)) ≡ is_opening element (c ∷ a)
unfolding HasNoneNearEnd
is_opening-append element c a b none =
    elim (cases_lt (length a) (length (element_name element) + 2)) [
      | inl short ↦ rw (ne_eqb c less_than (none 0 (omega arith) (omega arith))) refl
      | inr long ↦ ap (λ x. (c == less_than) && x) (completes_opening-append element a b long)
    ]

joined : (element : Element) (a b : List ℕ) → HasNoneNearEnd (length (element_name element) + 2) a → body_encoding element (a ++ b) ≡ body_encoding element a ++ body_encoding element b
unfolding HasNoneNearEnd
joined element [] b none = refl
joined element (c ∷ a) b none =
    let rest : body_encoding element (a ++ b) ≡ body_encoding element a ++ body_encoding element b =
    joined element a b (λ k below near. none (suc k) (omega arith) (omega arith)) in
    elim (cases_Bool (is_opening element (c ∷ a))) [
      | inl opens ↦ rw (is_opening-append element c a b none) (rw opens (rw rest refl))
      | inr plain ↦ rw (is_opening-append element c a b none) (rw plain (rw rest refl))
    ]

-- the encoding of joined texts is their encodings, joined
pub body_encoding-append : (element : Element) (a b : List ℕ) → EndsWithoutLessThan element a → body_encoding element (a ++ b) ≡ body_encoding element a ++ body_encoding element b
unfolding HasNoneNearEnd
body_encoding-append element a b none =
    joined element a b
    (λ k below near.
    let start : ℕ = length a - (length (element_name element) + 2) in
    let there : start + (k - start) ≡ k = omega arith in
    let byte : slice_index (drop start a) (k - start) ≡ slice_index a k = get_or-drop start a (k - start) 0 ∙ rw there refl in
    rw byte at (none (k - start) 0 (omega (arith, length-drop start a))))
