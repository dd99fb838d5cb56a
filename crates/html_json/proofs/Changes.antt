-- The changes of the encoders: which comes first, and when none is left.
use Rattle.std.proofs.Common.{◌≡◌, ℕ, ◌+◌, ◌<◌, List, [], Bool, true, false, length, refl, ◌∙◌, ◌==◌, arith, inl, inr}
use Rattle.std.specs.Prelude.{slice_index}
use Rattle.std.specs.Str.{IsUtf8}
use Rattle.std.proofs.lemmas.Bool.{cases_lt, eqb-true}
use Rattle.std.proofs.lemmas.List.{drop_all, drop_more}
use Rattle.std.proofs.lemmas.Str.{IsCharBoundary-after_ascii, IsCharBoundary-before_ascii}
use Rattle.std.proofs.Math.Seq.{drop-length}
use Rattle.hesc_specs.specs.Text.Ascii.{less_than}
use Rattle.hesc_specs.specs.Text.FirstPlace.{IsFirstAt}
use Rattle.hesc_specs.proofs.Text.EachPlace.{skips}
use Rattle.hesc_engine.specs.Next.{IsChangeAt}
use Rattle.hesc_engine.specs.Text.{replacement_bytes}
use Rattle.hesc_sinks.specs.declared.found.Replacement.{Replacement}
use Rattle.html_json.specs.Bytes.{byte_changes, byte_changes_at}
use Rattle.html_json.specs.Encoding.{is_less, json_image, less_than_escape}

-- a change begins at a byte of the test alone
pub begins_sought : (is_changed : ℕ → Bool) (source : List ℕ) (place : ℕ) → byte_changes_at is_changed source place ≡ true
    → (place < length source) × (is_changed (slice_index source place) ≡ true)
begins_sought is_changed source place begins =
    elim (cases_lt place (length source)) [
      | inl within ↦ (within, rw (drop_more source place 0 within) at begins)
      | inr past ↦ let clash : false ≡ true = rw (drop_all place source past) at begins in absurd (cc)
    ]

-- one byte further, where none begins
kept_one : (is_changed : ℕ → Bool) (image : ℕ → List ℕ) (source : List ℕ) (k : ℕ) → k < length source → byte_changes_at is_changed source k ≡ false
    → byte_changes is_changed image source k ≡ byte_changes is_changed image source (k + 1)
kept_one is_changed image source k within none =
    let other : is_changed (slice_index source k) ≡ false = rw (drop_more source k 0 within) at none in
    rw (drop_more source k 0 within, other) refl

-- none is left where none begins any more
pub ends : (is_changed : ℕ → Bool) (image : ℕ → List ℕ) (source : List ℕ) (from : ℕ)
    → IsFirstAt (byte_changes_at is_changed source) from (length source) (length source) → byte_changes is_changed image source from ≡ []
ends is_changed image source from none =
    skips (byte_changes_at is_changed source) (byte_changes is_changed image source) (length source) (kept_one is_changed image source) from (length source) none
    ∙ rw (drop-length source) refl

-- the first is that of the first byte of the test, which is one of ASCII
pub found_at : (is_changed : ℕ → Bool) (image : ℕ → List ℕ) (source : List ℕ) → IsUtf8 source → (place : ℕ) → place < length source
    → is_changed (slice_index source place) ≡ true → slice_index source place < 128
    → (replacement : Replacement) → replacement_bytes replacement ≡ image (slice_index source place)
    → IsChangeAt (byte_changes_at is_changed source) source (byte_changes is_changed image source) place
    record { start = place; end = place + 1; replacement = replacement }
found_at is_changed image source utf8 place within hit ascii replacement is =
    record {
      begins = rw (drop_more source place 0 within) hit;
      next = λ from boundary first. record {
        after = first.ordered;
        ordered = omega arith;
        moves = omega (arith, first.ordered);
        within = omega arith;
        start_boundary = IsCharBoundary-before_ascii source place within ascii;
        end_boundary = IsCharBoundary-after_ascii source place utf8 within ascii;
        changes = skips (byte_changes_at is_changed source) (byte_changes is_changed image source) (length source) (kept_one is_changed image source) from place first
            ∙ rw (drop_more source place 0 within, hit, is) refl;
      };
    }

-- the first is that of the first `<`
pub found_here : (source : List ℕ) → IsUtf8 source → (place : ℕ) → place < length source → (slice_index source place == less_than) ≡ true
    → (replacement : Replacement) → replacement_bytes replacement ≡ less_than_escape
    → IsChangeAt (byte_changes_at is_less source) source (byte_changes is_less json_image source) place
    record { start = place; end = place + 1; replacement = replacement }
found_here source utf8 place within hit replacement is =
    found_at is_less json_image source utf8 place within hit (rw (eqb-true (slice_index source place) less_than hit) (omega arith)) replacement (rw hit is)
