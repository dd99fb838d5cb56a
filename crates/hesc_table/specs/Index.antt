-- What an index of names holds, and the row that it gives for a name.
use Rattle.std.specs.Prelude.{ℕ, suc, ◌+◌, ◌-◌, ◌*◌, ◌/◌, ◌%◌, ◌^◌, Bool, true, false, not, ◌&&◌, ◌||◌, ◌==◌, List, [], ◌∷◌, Option, Some, None, length, take, drop, nat_le, slice_index, if◌then◌else◌}
use Rattle.std.specs.Int.{w16, w32, w64, from_le_bytes}
use Rattle.std.specs.Int.Bits.{bit_and}
use Rattle.std.specs.Option.{option_map}
use Rattle.hesc_specs.specs.References.Rows.{Row}
use Rattle.hesc_table.specs.declared.index.NameIndex.{NameIndex}

-- the seed of each group of hashes
abbrev pub seeds_of : NameIndex → List ℕ
seeds_of index = index.seeds.now

-- the row in each slot
abbrev pub slots_of : NameIndex → List ℕ
slots_of index = index.slots.now

-- the first and the last eight bytes of a name as numbers, or four, or two
abbrev pub ends_of : List ℕ → Option (ℕ × ℕ)
ends_of name =
    if nat_le 8 (length name) then Some (from_le_bytes w64 (take 8 name), from_le_bytes w64 (drop (length name - 8) name))
    else (if nat_le 4 (length name) then Some (from_le_bytes w32 (take 4 name), from_le_bytes w32 (drop (length name - 4) name))
    else (if nat_le 2 (length name) then Some (from_le_bytes w16 (take 2 name), from_le_bytes w16 (drop (length name - 2) name))
    else None))

-- the hash of a name: of its ends and its length, scattered by 2^64 over the golden ratio
abbrev pub hash_of : List ℕ → Option ℕ
hash_of name =
    option_map (λ ends. (((ends.0 + (ends.1 * 0x9E3779B97F4A7C15) % 2 ^ 64) % 2 ^ 64 + length name) % 2 ^ 64 * 0x9E3779B97F4A7C15) % 2 ^ 64) (ends_of name)

-- the entry that a hash falls on
abbrev pub place_of : List ℕ → ℕ → ℕ
place_of entries hash = slice_index entries (bit_and (hash / 2 ^ 48) (length entries - 1))

-- the row that seeds and slots give for a name
abbrev pub candidate_of : List ℕ → List ℕ → List ℕ → Option ℕ
candidate_of seeds slots name =
    if length seeds == 0 || length slots == 0 then None
    else option_map (λ hash. place_of slots ((hash * place_of seeds hash) % 2 ^ 64)) (hash_of name)

abbrev pub is_candidate : Option ℕ → ℕ → Bool
is_candidate None i = false
is_candidate (Some k) i = k == i

-- each row, which has this number, is what they give for its name, and so are those after it
abbrev pub are_candidates : List ℕ → List ℕ → ℕ → List Row → Bool
are_candidates seeds slots i [] = true
are_candidates seeds slots i (row ∷ rows) = is_candidate (candidate_of seeds slots row.0) i && are_candidates seeds slots (suc i) rows

-- an index gives each of the rows for its name
abbrev pub is_whole : NameIndex → List Row → Bool
is_whole index rows = are_candidates (seeds_of index) (slots_of index) 0 rows

-- what is known of a table's index: where it is complete, it gives each row for its name
unfoldable pub is_index_of : Bool → NameIndex → List Row → Bool
is_index_of is_complete index rows = not is_complete || is_whole index rows
