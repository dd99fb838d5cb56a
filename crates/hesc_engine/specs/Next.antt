-- What a found change says of a rule's changes.
use Rattle.std.specs.Prelude.{◌≡◌, ℕ, ◌<◌, ◌≤◌, Bool, true, List, ◌∷◌, length}
use Rattle.std.specs.Str.{IsCharBoundary}
use Rattle.hesc_specs.specs.Text.Changes.{Change}
use Rattle.hesc_specs.specs.Text.FirstPlace.{IsFirstAt}
use Rattle.hesc_sinks.specs.Text.{replacement_bytes}
use Rattle.hesc_sinks.specs.declared.found.Found.{Found}

abbrev pub change_of : Found → Change
change_of found = record { start = found.start; end = found.end; bytes = replacement_bytes found.replacement }

-- the found change is the first from this place on, and cuts the source between characters
pub record IsNext (source : List ℕ) (from : ℕ) (changes_from : ℕ → List Change) (found : Found) : Type 0 where
  pub after : from ≤ found.start
  pub ordered : found.start ≤ found.end
  pub moves : from < found.end
  pub within : found.end ≤ length source
  pub start_boundary : IsCharBoundary source found.start
  pub end_boundary : IsCharBoundary source found.end
  pub changes : changes_from from ≡ change_of found ∷ changes_from found.end

-- a change begins at the place, and the found one is the first from any place on from which none begins before
pub record IsChangeAt (begins_at : ℕ → Bool) (source : List ℕ) (changes_from : ℕ → List Change) (place : ℕ) (found : Found) : Type 0 where
  pub begins : begins_at place ≡ true
  pub next : (from : ℕ) → IsCharBoundary source from → IsFirstAt begins_at from (length source) place → IsNext source from changes_from found
