-- A changed source in parts: the stretches that are kept, and what is new.
use Rattle.std.specs.Prelude.{ℕ, List, [], ◌∷◌, ◌++◌, length, slice_range, nat_lt, if◌then◌else◌}
use Rattle.std.specs.List.{flat_map}
use Rattle.hesc_specs.specs.Text.Changes.{Change}

-- a stretch of the source, with the place where it starts there, or bytes that stand for others
pub data Part : Type 0 where
  kept : ℕ → List ℕ → Part
  fresh : List ℕ → Part

abbrev pub part_bytes : Part → List ℕ
part_bytes (kept start bytes) = bytes
part_bytes (fresh bytes) = bytes

-- the stretch from start to end, unless it is empty
abbrev pub stretch : List ℕ → ℕ → ℕ → List Part
stretch source start end = if nat_lt start end then kept start (slice_range source start end) ∷ [] else []

-- the new bytes, unless there are none
abbrev pub renewed : List ℕ → List Part
renewed [] = []
renewed (b ∷ bytes) = fresh (b ∷ bytes) ∷ []

-- the parts of a source from a place on: the stretches before, between and after the changes, and what the changes put there
abbrev pub parts : List ℕ → ℕ → List Change → List Part
parts source from [] = stretch source from (length source)
parts source from (c ∷ cs) = stretch source from c.start ++ (renewed c.bytes ++ parts source c.end cs)

-- the parts, one after another
abbrev pub joined : List Part → List ℕ
joined all = flat_map part_bytes all
