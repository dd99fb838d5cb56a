-- The changes of what is decided of a body, each place judged by itself.
use Rattle.std.proofs.Common.{◌≡◌, ℕ, suc, ◌+◌, ◌<◌, true, false, List, [], ◌∷◌, length, drop, slice_index, refl, ◌∙◌, arith}
use Rattle.std.proofs.lemmas.Bool.{or_parts}
use Rattle.std.proofs.lemmas.List.{drop_more, length-drop}
use Rattle.std.proofs.Math.Bool.{or-true}
use Rattle.std.proofs.Math.Seq.{drop-length}
use Rattle.hesc_specs.specs.Text.Ascii.{backslash}
use Rattle.hesc_specs.specs.Text.FirstPlace.{IsFirstAt}
use Rattle.hesc_specs.specs.Bodies.DecidedChanges.{decided_changes}
use Rattle.hesc_specs.specs.Bodies.Openings.{is_opening}
use Rattle.hesc_specs.specs.Bodies.Sessions.{is_partial}
use Rattle.hesc_specs.specs.declared.elements.Element.{Element}
use Rattle.hesc_specs.proofs.Text.EachPlace.{skips}
use Rattle.html_escape.specs.DecidedPlaces.{decides_at}

module _ (element : Element) (text : List ℕ) where
  pub step : (k : ℕ) → k < length text → decides_at element text k ≡ false → decided_changes element text k ≡ decided_changes element text (k + 1)
  step k within is =
      let neither = or_parts (is_partial element (slice_index text k ∷ drop (k + 1) text)) (is_opening element (slice_index text k ∷ drop (k + 1) text)) (rw (drop_more text k 0 within) at is) in
      rw (drop_more text k 0 within) (rw (neither.0, neither.1) refl)

  pub none_left : (from : ℕ) → IsFirstAt (decides_at element text) from (length text) (length text) → decided_changes element text from ≡ []
  none_left from none = skips (decides_at element text) (decided_changes element text) (length text) step from (length text) none ∙ rw (drop-length text) refl

  module _ (place : ℕ) (within : place < length text) where
    pub partial-decides : is_partial element (drop place text) ≡ true → decides_at element text place ≡ true
    partial-decides partial = rw (drop_more text place 0 within) (rw (rw (drop_more text place 0 within) at partial) refl)

    pub last : is_partial element (drop place text) ≡ true
        → decided_changes element text place ≡ record { start = place; end = length text; bytes = [] } ∷ decided_changes element text (length text)
    last partial =
        let end : place + suc (length (drop (place + 1) text)) ≡ length text = omega (arith, length-drop (place + 1) text) in
        rw (drop_more text place 0 within) (rw (rw (drop_more text place 0 within) at partial, end, drop-length text) refl)

    module _ (decided : is_partial element (drop place text) ≡ false) (opens : is_opening element (drop place text) ≡ true) where
      pub opening-decides : decides_at element text place ≡ true
      opening-decides = rw (drop_more text place 0 within) (rw (rw (drop_more text place 0 within) at opens) (or-true _))

      pub next : decided_changes element text place ≡ record { start = place + 1; end = place + 1; bytes = backslash ∷ [] } ∷ decided_changes element text (place + 1)
      next = rw (drop_more text place 0 within) (rw (rw (drop_more text place 0 within) at decided, rw (drop_more text place 0 within) at opens) refl)
