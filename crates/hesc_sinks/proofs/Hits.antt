-- Hits of a text, replaced one after another: what was stored so far, and one hit more.
use Rattle.std.proofs.Common.{◌≡◌, ℕ, ◌+◌, ◌-◌, ◌/◌, ◌^◌, ◌≤◌, ◌<◌, Bool, List, ◌++◌, ◌∙◌, append_assoc, ap, sym, subst, length, length-take, map, take, drop, arith}
use Rattle.std.proofs.lemmas.List.{drop-drop, drop-take, take-take}
use Rattle.std.proofs.lemmas.Nat.{shr-shr}
use Rattle.std.proofs.lemmas.Str.{IsCharBoundary-after_ascii, IsCharBoundary-before_ascii, IsUtf8-append, IsUtf8-between}
use Rattle.std.specs.Int.Count.{count_trailing_zeros}
use Rattle.std.specs.Prelude.{slice_index, slice_range}
use Rattle.std.specs.Simd.Lanes.{mask_l}
use Rattle.std.specs.Str.{IsCharBoundary, IsUtf8}
use Rattle.hesc_scan.proofs.ChunkSearch.{first_by_part, inside_by_part}
use Rattle.hesc_scan.proofs.Masks.{mask_l-drop}
use Rattle.hesc_specs.specs.Text.FirstPlace.{IsFirstPlace}
use Rattle.hesc_sinks.proofs.Stores.{stored_then}
use Rattle.hesc_sinks.specs.AsciiRows.{HasText, Rows, text_at}
use Rattle.hesc_sinks.specs.Hits.{AreHits, BeginsImages, StoredHits}
use Rattle.hesc_sinks.specs.Stores.{Stored}

-- the hits from a place on: where the first of them is, and those after it
module _ (is_sought : ℕ → Bool) (source : List ℕ) (from hits count : ℕ) (within : from ≤ length source) (are : AreHits is_sought source from hits) (some : 0 < hits) (counted : count ≡ count_trailing_zeros 64 hits) where
  abbrev part : List ℕ
  part = take are.count (drop from source)

  masks_part : hits ≡ mask_l (map is_sought (take are.count part))
  masks_part = are.is_mask ∙ ap (λ l. mask_l (map is_sought l)) (sym (take-take are.count are.count (drop from source) (omega arith)))

  inside_part : count < length part
  inside_part = omega (arith, counted, inside_by_part is_sought part 0 0 are.count hits are.few (omega arith) (omega arith) (λ k from_k below. absurd (omega arith)) masks_part some)

  pub first_hit : IsFirstPlace is_sought source from (from + count)
  first_hit = subst (λ n. IsFirstPlace is_sought source from (from + n)) (sym counted) (first_by_part is_sought source from from are.count hits are.few within (omega arith) (λ k from_k below. absurd (omega arith)) are.is_mask some)

  pub hits_after : AreHits is_sought source (from + (count + 1)) (hits / 2 ^ count / 2)
  hits_after =
      let left : ℕ = are.count - (count + 1) in
      let whole : are.count ≡ (count + 1) + left = omega (arith, inside_part, length-take are.count (drop from source)) in
      record {
        count = left;
        few = omega (arith, are.few);
        is_mask =
            shr-shr hits count 1
            ∙ ap (λ n. n / 2 ^ (count + 1)) are.is_mask
            ∙ mask_l-drop is_sought part (count + 1) (omega (arith, inside_part))
            ∙ ap (λ n. mask_l (map is_sought (drop (count + 1) (take n (drop from source))))) whole
            ∙ ap (λ l. mask_l (map is_sought l)) (drop-take (count + 1) left (drop from source) ∙ ap (take left) (drop-drop (count + 1) from source));
      }

-- some hits, and then others that are left of them
pub stored_hits_then : (rows : Rows) (source : List ℕ) (from hits reached left later : ℕ) (old mid new : List ℕ) (place middle end : ℕ)
    → ((is_sought : ℕ → Bool) → AreHits is_sought source from hits → AreHits is_sought source reached left)
    → StoredHits rows source from hits reached old mid place middle → StoredHits rows source reached left later mid new middle end → StoredHits rows source from hits later old new place end
stored_hits_then rows source from hits reached left later old mid new place middle end rest first second = record {
  put = first.put ++ second.put;
  stored = stored_then _ _ _ _ _ _ _ _ first.stored second.stored;
  utf8 = IsUtf8-append _ _ first.utf8 second.utf8;
  image = λ is_sought image_from are replaces.
      first.image is_sought image_from are replaces
      ∙ ap (λ l. first.put ++ l) (second.image is_sought image_from (rest is_sought are) replaces)
      ∙ sym (append_assoc first.put second.put (image_from later));
}

-- so much of a text was stored from a place of a room on, and these of its hits are left
pub record Storing (rows : Rows) (source : List ℕ) (from hits reached left : ℕ) (old new : List ℕ) (place end : ℕ) : Type 0 where
  pub stored : StoredHits rows source from hits reached old new place end
  pub ordered : from ≤ reached
  pub boundary : IsCharBoundary source reached
  pub rest : (is_sought : ℕ → Bool) → AreHits is_sought source from hits → AreHits is_sought source reached left

-- the same after the stretch up to the first hit that is left, and the text in the place of its byte
module _ (rows : Rows) (source : List ℕ) (from hits reached left count : ℕ) (old mid new small : List ℕ) (place middle end : ℕ) (storing : Storing rows source from hits reached left old mid place middle)
    (text : IsUtf8 source) (some : 0 < left) (counted : count ≡ count_trailing_zeros 64 left) (inside : reached + count < length source) (ascii : slice_index source (reached + count) < 128)
    (has : HasText rows (slice_index source (reached + count))) (is_text : small ≡ text_at rows (slice_index source (reached + count))) (small_utf8 : IsUtf8 small)
    (stores : Stored mid new middle (take count (drop reached source) ++ small) end) where
  same_place : (reached + count) + 1 ≡ reached + (count + 1)
  same_place = omega arith

  same_stretch : slice_range source reached (reached + count) ≡ take count (drop reached source)
  same_stretch = ap (λ n. take n (drop reached source)) (omega arith)

  stretch_utf8 : IsUtf8 (take count (drop reached source))
  stretch_utf8 = subst IsUtf8 same_stretch (IsUtf8-between source reached (reached + count) text (omega arith) storing.boundary (IsCharBoundary-before_ascii source (reached + count) inside ascii))

  image_more : BeginsImages rows source from hits (reached + (count + 1)) (storing.stored.put ++ (take count (drop reached source) ++ small))
  image_more is_sought image_from are replaces =
      let first = first_hit is_sought source reached left count storing.boundary.0 (storing.rest is_sought are) some counted in
      let later : List ℕ = image_from (reached + (count + 1)) in
      let next : image_from reached ≡ (take count (drop reached source) ++ small) ++ later =
      replaces.at_first reached (reached + count) storing.boundary first inside ascii has
      ∙ (λ i. same_stretch i ++ (sym is_text i ++ image_from (same_place i)))
      ∙ sym (append_assoc (take count (drop reached source)) small later) in
      storing.stored.image is_sought image_from are replaces
      ∙ ap (λ l. storing.stored.put ++ l) next
      ∙ sym (append_assoc storing.stored.put (take count (drop reached source) ++ small) later)

  pub storing_more : Storing rows source from hits (reached + (count + 1)) (left / 2 ^ count / 2) old new place end
  storing_more = record {
    stored = record {
      put = storing.stored.put ++ (take count (drop reached source) ++ small);
      stored = stored_then _ _ _ _ _ _ _ _ storing.stored.stored stores;
      utf8 = IsUtf8-append _ _ storing.stored.utf8 (IsUtf8-append _ _ stretch_utf8 small_utf8);
      image = image_more;
    };
    ordered = omega (arith, storing.ordered);
    boundary = subst (IsCharBoundary source) same_place (IsCharBoundary-after_ascii source (reached + count) text inside ascii);
    rest = λ is_sought are. hits_after is_sought source reached left count storing.boundary.0 (storing.rest is_sought are) some counted;
  }
