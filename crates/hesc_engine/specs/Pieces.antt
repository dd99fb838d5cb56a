-- The parts that pieces stand for, and those that are still to come.
use Rattle.std.specs.Prelude.{◌≡◌, ℕ, ◌+◌, ◌-◌, List, [], ◌∷◌, ◌++◌, Option, Some, None, length, if◌then◌else◌}
use Rattle.hesc_specs.specs.Text.Parts.{Part, kept, fresh, parts}
use Rattle.hesc_sinks.specs.Text.{replacement_bytes}
use Rattle.hesc_sinks.specs.declared.found.Replacement.{Replacement}
use Rattle.hesc_engine.specs.declared.pieces.Piece.{Piece}
use Rattle.hesc_engine.specs.declared.pieces.Piece.TheVariants.{Kept, New}
use Rattle.hesc_engine.specs.declared.pieces.Pieces.{Pieces}
use Rattle.hesc_sinks.specs.declared.segment.Segment.{Segment}
use Rattle.hesc_engine.specs.declared.rule.Rule.{Ghosts}

-- a stretch with the place where it starts, unless it is empty
abbrev pub kept_unless_empty : ℕ → List ℕ → List Part
kept_unless_empty start [] = []
kept_unless_empty start (b ∷ bytes) = kept start (b ∷ bytes) ∷ []

abbrev pub part_of : Piece → Part
part_of (Kept start text) = kept start text.now
part_of (New replacement) = fresh (replacement_bytes replacement)

abbrev pub pending_parts : Option Replacement → List Part
pending_parts None = []
pending_parts (Some replacement) = fresh (replacement_bytes replacement) ∷ []

abbrev pub parts_left : {R : Type 0} {rules : Ghosts R} → Pieces R rules → List Part
parts_left {rules = rules} pieces =
    pending_parts pieces.pending ++ (if pieces.is_done then [] else parts pieces.text.now pieces.from (rules.changes_from pieces.rule.now pieces.text.now pieces.from))

-- nothing is left of the segment that was handed out last
abbrev pub IsAtSegment : {R : Type 0} {rules : Ghosts R} → Pieces R rules → Type 0
IsAtSegment pieces = pieces.pending ≡ None

-- the stretch of a segment, unless it is empty
abbrev pub stretch_of : Segment → List Part
stretch_of segment = kept_unless_empty segment.start segment.kept.now

-- more than the segments that pieces still have: a change ends after its place
abbrev pub segments_left : {R : Type 0} {rules : Ghosts R} → Pieces R rules → ℕ
segments_left pieces = if pieces.is_done then 0 else (length pieces.text.now - pieces.from) + 1
