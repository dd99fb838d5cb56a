-- Changes of a rule that judges each place by itself.
use Rattle.std.proofs.Common.{◌≡◌, ℕ, ◌+◌, ◌≤◌, ◌<◌, Bool, true, false, List, ◌∷◌, length, ◌∙◌, arith}
use Rattle.std.specs.Str.{IsCharBoundary}
use Rattle.hesc_specs.specs.Text.Changes.{Change}
use Rattle.hesc_specs.proofs.Text.EachPlace.{skips}
use Rattle.hesc_sinks.specs.declared.found.Found.{Found}
use Rattle.hesc_engine.specs.Next.{IsChangeAt, change_of}

-- what was found at a place is the first change from any place on from which none begins before
pub found-here : (source : List ℕ) (begins_at : ℕ → Bool) (changes_from : ℕ → List Change)
    → ((k : ℕ) → k < length source → begins_at k ≡ false → changes_from k ≡ changes_from (k + 1))
    → (place : ℕ) (found : Found) → begins_at place ≡ true → place ≤ found.start → found.start ≤ found.end → place < found.end → found.end ≤ length source
    → IsCharBoundary source found.start → IsCharBoundary source found.end → changes_from place ≡ change_of found ∷ changes_from found.end
    → IsChangeAt begins_at source changes_from place found
found-here source begins_at changes_from step place found begins after ordered moves within start end here = record {
  begins = begins;
  next = λ from boundary first. record {
    after = omega (arith, first.ordered, after);
    ordered = ordered;
    moves = omega (arith, first.ordered, moves);
    within = within;
    start_boundary = start;
    end_boundary = end;
    changes = skips begins_at changes_from (length source) step from place first ∙ here;
  };
}
