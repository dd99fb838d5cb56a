-- The `\` of an escaped opening, by its place, and the opening before it.
use Rattle.std.proofs.Common.{◌≡◌, ℕ, zero, suc, ◌+◌, ◌-◌, ◌≤◌, ◌<◌, true, List, [], ◌∷◌, length, drop, slice_index, refl, ap, ◌∙◌, arith, inl, inr}
use Rattle.std.proofs.lemmas.Bool.Decides.{nat_tests}
use Rattle.std.proofs.lemmas.Bool.{cases_lt, false_from_ne_true}
use Rattle.std.proofs.lemmas.List.{drop_all, drop_more}
use Rattle.hesc_specs.specs.Text.Ascii.{backslash, less_than}
use Rattle.hesc_specs.specs.Text.FirstPlace.{IsFirstAt}
use Rattle.hesc_specs.specs.Bodies.Changes.{body_decoding_changes}
use Rattle.hesc_specs.specs.Bodies.Openings.{completes_opening, drops_at, opens_escaped_at}
use Rattle.hesc_specs.specs.declared.elements.Element.{Element}
use Rattle.hesc_specs.proofs.Bodies.DecodingChanges.{escaped-bytes, next-body_decoding_changes, no-body_decoding_changes}

module _ (element : Element) (source : List ℕ) where
  -- a dropped byte is a `\` after a `<`
  pub dropped-bytes : (place : ℕ) → drops_at element source place ≡ true
      → (0 < place) × ((place < length source) × ((slice_index source (place - 1) ≡ less_than) × (slice_index source place ≡ backslash)))
  dropped-bytes place is = grind (arith, nat_tests, cases_lt, escaped-bytes, drop_all)

  pub drops-after_less : (place : ℕ) → 0 < place → place < length source → slice_index source (place - 1) ≡ less_than → slice_index source place ≡ backslash
      → drops_at element source place ≡ completes_opening element (drop (place + 1) source)
  drops-after_less zero some within less slash = absurd (omega (arith, some))
  drops-after_less (suc place) some within less slash =
      let before : suc place - 1 ≡ place = omega arith in
      let there : place + 1 ≡ suc place = omega arith in
      let first : slice_index source place ≡ less_than = rw before at less in
      let two : drop place source ≡ less_than ∷ backslash ∷ drop (suc place + 1) source =
      drop_more source place 0 (omega (arith, within)) ∙ rw (first, there) (ap (λ rest. less_than ∷ rest) (drop_more source (suc place) 0 within ∙ rw slash refl)) in
      rw two refl

  -- the escaped openings before
  module _ (from : ℕ) where
    pub first_opening : (place : ℕ) → IsFirstAt (drops_at element source) from (length source) (suc place) → suc place < length source → IsFirstAt (opens_escaped_at element source) (from - 1) (length source) place
    first_opening place first within = record {
      ordered = omega (arith, first.ordered);
      in_range = omega (arith, within);
      before = λ k after below. first.before (suc k) (omega (arith, after)) (omega (arith, below));
      found = λ _. first.found within;
    }

    pub none_left : from ≤ length source → IsFirstAt (drops_at element source) from (length source) (length source) → body_decoding_changes element source from ≡ []
    none_left ordered none =
        no-body_decoding_changes element source from (length source) ordered
        record {
          ordered = omega (arith, ordered);
          in_range = omega arith;
          before = λ k after below. elim (cases_lt (suc k) (length source)) [
            | inl within ↦ none.before (suc k) (omega (arith, after)) within
            | inr past ↦ false_from_ne_true _ (λ opens. absurd (omega (arith, past, (escaped-bytes element source k below opens).1.1)))
          ];
          found = λ below. absurd (omega (arith, below));
        } refl

    pub next_dropped : (place : ℕ) → IsFirstAt (drops_at element source) from (length source) place → place < length source → 0 < place
        → body_decoding_changes element source from ≡ record { start = place; end = place + 1; bytes = [] } ∷ body_decoding_changes element source (place + 1)
    next_dropped zero first within some = absurd (omega (arith, some))
    next_dropped (suc place) first within some =
        let there : place + 1 ≡ suc place = omega arith in
        rw there at (next-body_decoding_changes element source from place (omega (arith, first.ordered)) (omega (arith, within)) (first_opening place first within))
