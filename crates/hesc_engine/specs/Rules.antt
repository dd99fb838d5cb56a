-- What holds of the bytes that a rule seeks, of its table, and of its changes.
use Rattle.std.specs.Prelude.{◌≡◌, ◌<◌, ◌+◌, ℕ, Bool, true, List, [], length, slice_index}
use Rattle.std.specs.Str.{IsCharBoundary, IsUtf8}
use Rattle.hesc_specs.specs.Text.Changes.{Change}
use Rattle.hesc_specs.specs.Text.FirstPlace.{IsFirstAt}
use Rattle.hesc_sinks.specs.AsciiRows.{HasText, Rows, text_at}
use Rattle.hesc_sinks.specs.Text.{replacement_bytes}
use Rattle.hesc_sinks.specs.declared.found.Replacement.{Replacement}
use Rattle.hesc_engine.specs.Next.{IsChangeAt}

-- a change begins at a byte that is sought
abbrev pub BeginsAtSought : (List ℕ → ℕ → Bool) → (ℕ → Bool) → Type 0
BeginsAtSought begins_at is_sought =
    (source : List ℕ) (place : ℕ) → begins_at source place ≡ true → (place < length source) × (is_sought (slice_index source place) ≡ true)

-- where no change begins, there is none
abbrev pub EndsWhereNoneBegins : (List ℕ → ℕ → Bool) → (List ℕ → ℕ → List Change) → Type 0
EndsWhereNoneBegins begins_at changes_from =
    (source : List ℕ) → IsUtf8 source → (from : ℕ) → IsCharBoundary source from → IsFirstAt (begins_at source) from (length source) (length source) → changes_from source from ≡ []

-- a sought byte with a text in the table becomes it
abbrev pub ReplacesByRows : Rows → (List ℕ → ℕ → Bool) → (ℕ → Bool) → (List ℕ → ℕ → List Change) → Type 0
ReplacesByRows rows begins_at is_sought changes_from =
    (source : List ℕ) → IsUtf8 source → (place : ℕ) → place < length source → is_sought (slice_index source place) ≡ true → HasText rows (slice_index source place)
    → (replacement : Replacement) → replacement_bytes replacement ≡ text_at rows (slice_index source place)
    → IsChangeAt (begins_at source) source (changes_from source) place record { start = place; end = place + 1; replacement = replacement }
