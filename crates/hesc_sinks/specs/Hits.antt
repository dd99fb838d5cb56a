-- Texts in which bytes that are sought are replaced by those of a table.
use Rattle.std.specs.Prelude.{◌≡◌, ◌≤◌, ◌<◌, ◌+◌, ℕ, Bool, List, ◌++◌, drop, length, map, slice_index, slice_range, take}
use Rattle.std.specs.Simd.Lanes.{mask_l}
use Rattle.std.specs.Str.{IsCharBoundary, IsUtf8}
use Rattle.hesc_specs.specs.Text.FirstPlace.{IsFirstPlace}
use Rattle.hesc_sinks.specs.AsciiRows.{HasText, Rows, text_at}
use Rattle.hesc_sinks.specs.Stores.{Stored}
use Rattle.hesc_sinks.specs.Took.{Seen, TookAll}
use Rattle.hesc_sinks.specs.declared.ascii_texts.AsciiTexts.{AsciiTexts}

abbrev pub ascii_rows : AsciiTexts → Rows
ascii_rows texts = texts.rows.now

-- bit k of the hits tells whether byte k from a place on is sought, of some bytes
pub record AreHits (is_sought : ℕ → Bool) (source : List ℕ) (from hits : ℕ) : Type 0 where
  pub count : ℕ
  pub few : count ≤ 64
  pub is_mask : hits ≡ mask_l (map is_sought (take count (drop from source)))

-- what becomes of a source from each place on: the first byte that is sought is replaced by its text, where it has one
pub record Replaces (rows : Rows) (is_sought : ℕ → Bool) (source : List ℕ) (image_from : ℕ → List ℕ) : Type 0 where
  pub at_first : (from place : ℕ) → IsCharBoundary source from → IsFirstPlace is_sought source from place → place < length source → slice_index source place < 128
      → HasText rows (slice_index source place) → image_from from ≡ slice_range source from place ++ (text_at rows (slice_index source place) ++ image_from (place + 1))

-- whatever becomes of a source from a place on by the rows is these bytes, and then what becomes of it from a later place on
abbrev pub BeginsImages : Rows → List ℕ → ℕ → ℕ → ℕ → List ℕ → Type 0
BeginsImages rows source from hits later put =
    (is_sought : ℕ → Bool) (image_from : ℕ → List ℕ) → AreHits is_sought source from hits → Replaces rows is_sought source image_from → image_from from ≡ put ++ image_from later

-- such bytes were taken
pub record TookHits (rows : Rows) (source : List ℕ) (from hits later : ℕ) (old new : Seen) : Type 0 where
  pub put : List ℕ
  pub took : TookAll old new put
  pub image : BeginsImages rows source from hits later put

-- such bytes were stored in a room, from a place up to an end
pub record StoredHits (rows : Rows) (source : List ℕ) (from hits later : ℕ) (old new : List ℕ) (place end : ℕ) : Type 0 where
  pub put : List ℕ
  pub stored : Stored old new place put end
  pub utf8 : IsUtf8 put
  pub image : BeginsImages rows source from hits later put
