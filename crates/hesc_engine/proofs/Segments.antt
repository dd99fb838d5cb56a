-- The parts that a segment stands for, one after another.
use Rattle.std.proofs.Common.{◌≡◌, ℕ, List, [], ◌∷◌, ◌++◌, refl, sym, ◌∙◌, ap, append_assoc}
use Rattle.std.specs.Prelude.{slice_range}
use Rattle.hesc_specs.specs.Text.Changes.{Change, applied}
use Rattle.hesc_specs.specs.Text.Parts.{Part, joined, renewed}
use Rattle.hesc_engine.specs.Pieces.{kept_unless_empty, stretch_of}
use Rattle.hesc_sinks.specs.Text.{replacement_bytes, segment_bytes}
use Rattle.hesc_sinks.specs.declared.found.Found.{Found}
use Rattle.hesc_sinks.specs.declared.segment.Segment.{Segment}
use Rattle.hesc_engine.specs.Next.{IsNext}

joined-renewed : (new : List ℕ) (later : List Part) → joined (renewed new ++ later) ≡ new ++ joined later
joined-renewed [] later = refl
joined-renewed (b ∷ bytes) later = refl

joined-parts : (start : ℕ) (kept new : List ℕ) (later : List Part) → joined (kept_unless_empty start kept ++ (renewed new ++ later)) ≡ (kept ++ new) ++ joined later
joined-parts start [] new later = joined-renewed new later
joined-parts start (b ∷ bytes) new later =
    ap (λ (rest : List ℕ). (b ∷ bytes) ++ rest) (joined-renewed new later) ∙ sym (append_assoc (b ∷ bytes) new (joined later))

pub joined-segment : (segment : Segment) (later : List Part) → joined (stretch_of segment ++ (renewed (replacement_bytes segment.new) ++ later)) ≡ segment_bytes segment ++ joined later
joined-segment segment later = joined-parts segment.start segment.kept.now (replacement_bytes segment.new) later

-- the source from a place on, with the changes made, begins with the bytes of the segment of the first change
pub applied-next : (source : List ℕ) (from : ℕ) (changes_from : ℕ → List Change) (found : Found) (kept new : List ℕ) → IsNext source from changes_from found → kept ≡ slice_range source from found.start → new ≡ replacement_bytes found.replacement
    → applied source from (changes_from from) ≡ (kept ++ new) ++ applied source found.end (changes_from found.end)
applied-next source from changes_from found kept new next is becomes =
    rw (is, becomes) (ap (applied source from) next.changes ∙ sym (append_assoc (slice_range source from found.start) (replacement_bytes found.replacement) (applied source found.end (changes_from found.end))))
