-- Lanes that tell which bytes are percent-encoded.
use Rattle.std.proofs.Common.{count_ones, ◌≡◌, ◌↔◌, ℕ, ◌+◌, ◌-◌, ◌/◌, ◌%◌, ◌^◌, ◌≤◌, ◌<◌, Bool, true, false, ◌==◌, bit_and, eqb, cond, List, [], ◌∷◌, ◌++◌, drop, get_or, length, length-take-le, map, replicate, take, take_all, take-append-drop, refl, sym, subst, ap, ◌∙◌, w8, arith}
use Rattle.std.proofs.lemmas.Bool.Decides.{nat_tests}
use Rattle.std.proofs.lemmas.Bool.{agree_below, agree_below_at}
use Rattle.std.proofs.lemmas.List.{drop-drop, drop-take, drop_at, length-drop, length-map, length-take, take-take, take_at, take_rest}
use Rattle.std.proofs.lemmas.List.Elements.{All-append, All-drop, All-from_get_or, All-head, All-tail, All-take}
use Rattle.std.proofs.lemmas.Simd.{map-map, mask_l-mod, none_from_empty_mask, ones-mask_l, swz_l, tops_compared, zip2_of_maps, zip2_splat}
use Rattle.hesc_scan.proofs.LaneLemmas.{same_below}
use Rattle.std.proofs.lemmas.List.Sums.{count_by-le-length, sum_by-take-drop}
use Rattle.std.specs.Simd.Lanes.{Each1, mask_l, top, zip2}
use Rattle.percent_encoding.specs.AsciiSet.{should_percent_encode}
use Rattle.html_urls.specs.declared.component.unreserved.TheConstants.{GROUPS_BY_LOW_HALF, GROUP_BY_HIGH_HALF}
use Rattle.html_urls.proofs.Components.{unreserved_parts}
use Rattle.html_urls.proofs.Encoded.Halves.{by_high_half, by_low_half, down}
use Rattle.html_urls.specs.Components.{IsUnreservedText, encoded_count, is_encoded}

mask_none : (v : List ℕ) → IsUnreservedText v → mask_l (map is_encoded v) ≡ 0
mask_none [] kept = refl
mask_none (b ∷ v) kept =
    let here : is_encoded b ≡ false = All-head (λ k. is_encoded k ≡ false) b v kept in
    let later : mask_l (map is_encoded v) ≡ 0 = mask_none v (All-tail (λ k. is_encoded k ≡ false) b v kept) in
    ap (λ (p : Bool). mask_l (p ∷ map is_encoded v)) here ∙ omega (arith, later)

-- the groups that the halves of a byte have in common
abbrev shared : ℕ → ℕ
shared b = bit_and (get_or GROUPS_BY_LOW_HALF (b % 16) 0) (get_or GROUP_BY_HIGH_HALF (b / 16) 0)

shared_checked : agree_below (λ b. shared b == 0) is_encoded 256 ≡ true
unfolding should_percent_encode
shared_checked = refl

pub groups_shared : (v : List ℕ) → length v ≡ 16 → Each1 (λ b. b < 256) v
    → map (λ groups. groups == 0) (zip2 bit_and (swz_l w8 16 GROUPS_BY_LOW_HALF 0 (zip2 bit_and v (replicate 16 15))) (swz_l w8 16 GROUP_BY_HIGH_HALF 0 (zip2 down v (replicate 16 4)))) ≡ map is_encoded v
groups_shared v long below =
    ap (map (λ groups. groups == 0)) (zip2_of_maps bit_and _ _ v (by_low_half GROUPS_BY_LOW_HALF v refl long) (by_high_half GROUP_BY_HIGH_HALF v refl long))
    ∙ map-map (λ groups. groups == 0) shared v
    ∙ same_below (λ b. shared b == 0) is_encoded v below (λ b lt. agree_below_at (λ k. shared k == 0) is_encoded 256 b shared_checked lt)

-- the lanes without a shared group, compared
pub groups_compared : (v groups : List ℕ) → length v ≡ 16 → map (λ g. g == 0) groups ≡ map is_encoded v → map (top 7) (zip2 (λ a b. cond (eqb a b) 255 0) groups (replicate 16 0)) ≡ map is_encoded v
groups_compared v groups long are =
    let sixteen : length groups ≡ 16 = sym (length-map groups (λ g. g == 0)) ∙ ap length are ∙ length-map v is_encoded ∙ long in
    tops_compared w8 eqb groups (replicate 16 0) ∙ zip2_splat eqb groups 16 0 sixteen ∙ are

pub groups_mask : (v groups : List ℕ) → length v ≡ 16 → map (λ g. g == 0) groups ≡ map is_encoded v → mask_l (map (top 7) (zip2 (λ a b. cond (eqb a b) 255 0) groups (replicate 16 0))) % 2 ^ 64 ≡ mask_l (map is_encoded v)
groups_mask v groups long are = ap (λ l. mask_l l % 2 ^ 64) (groups_compared v groups long are) ∙ mask_l-mod (map is_encoded v) 64 (omega (arith, long, length-map v is_encoded))

-- no bit is set where no lane is encoded
pub unreserved_mask : (v : List ℕ) → (mask_l (map is_encoded v) ≡ 0) ↔ IsUnreservedText v
unreserved_mask v = (
  λ none. All-from_get_or (λ k. is_encoded k ≡ false) v 0 (λ i within. none_from_empty_mask is_encoded v 0 (length v) 0 (omega arith) (ap (λ l. mask_l (map is_encoded l)) (take_all (length v) v (omega arith)) ∙ none) i (omega arith) (omega arith)),
  λ kept. mask_none v kept,
)

-- the first bytes and the last ones, which together are all
pub unreserved_ends : (bytes front back : List ℕ) (n m : ℕ) → m ≤ n → front ≡ take n bytes → back ≡ drop m bytes → (IsUnreservedText front × IsUnreservedText back) ↔ IsUnreservedText bytes
unreserved_ends bytes front back n m within is_front is_back = (
  λ both.
      let later : IsUnreservedText (drop n bytes) = subst IsUnreservedText (drop-drop (n - m) m bytes ∙ ap (λ k. drop k bytes) (omega arith)) (All-drop (λ k. is_encoded k ≡ false) (n - m) (drop m bytes) (subst IsUnreservedText is_back both.1)) in
      subst IsUnreservedText (take-append-drop n bytes) (All-append (λ k. is_encoded k ≡ false) (take n bytes) (drop n bytes) (subst IsUnreservedText is_front both.0) later),
  λ kept. (subst IsUnreservedText (sym is_front) (All-take (λ k. is_encoded k ≡ false) n bytes kept), subst IsUnreservedText (sym is_back) (All-drop (λ k. is_encoded k ≡ false) m bytes kept)),
)

pub unreserved_by_sixteen : (bytes : List ℕ) (first last : ℕ) → 16 ≤ length bytes → length bytes ≤ 32 → first ≡ mask_l (map is_encoded (take 16 (drop 0 bytes))) → last ≡ mask_l (map is_encoded (take 16 (drop (length bytes - 16) bytes)))
    → ((first ≡ 0) × (last ≡ 0)) ↔ IsUnreservedText bytes
unreserved_by_sixteen bytes first last one both is_first is_last =
    let back : List ℕ = drop (length bytes - 16) bytes in
    let is_back : last ≡ mask_l (map is_encoded back) = is_last ∙ ap (λ l. mask_l (map is_encoded l)) (take_all 16 back (omega (arith, length-drop (length bytes - 16) bytes))) in
    let ends = unreserved_ends bytes (take 16 bytes) back 16 (length bytes - 16) (omega arith) refl refl in (
      λ none. ends.0 ((unreserved_mask (take 16 bytes)).0 (sym is_first ∙ none.0), (unreserved_mask back).0 (sym is_back ∙ none.1)),
      λ kept. (is_first ∙ (unreserved_mask (take 16 bytes)).1 (ends.1 kept).0, is_back ∙ (unreserved_mask back).1 (ends.1 kept).1),
    )

pub unreserved_by_eight : (bytes back lanes : List ℕ) (mask : ℕ) → 8 ≤ length bytes → length bytes ≤ 16 → back ≡ drop (length bytes - 8) bytes → lanes ≡ take 8 bytes ++ back → mask ≡ mask_l (map is_encoded lanes) → (mask ≡ 0) ↔ IsUnreservedText bytes
unreserved_by_eight bytes back lanes mask one both is_back are is =
    let ends = unreserved_ends bytes (take 8 bytes) back 8 (length bytes - 8) (omega arith) refl is_back in
    let long = length-take-le 8 bytes one in
    let parts = unreserved_parts lanes (take 8 bytes) back 8 (sym (ap (take 8) are ∙ take_at (take 8 bytes) back 8 long)) (sym (ap (drop 8) are ∙ drop_at (take 8 bytes) back 8 long)) in (
      λ none. ends.0 (parts.0 ((unreserved_mask lanes).0 (sym is ∙ none))),
      λ kept. is ∙ (unreserved_mask lanes).1 (parts.1 (ends.1 kept)),
    )

-- ---- counting

pub count_of_mask : (bytes : List ℕ) (place n mask : ℕ) → mask ≡ mask_l (map is_encoded (take n (drop place bytes))) → count_ones mask ≡ encoded_count (take n (drop place bytes))
count_of_mask bytes place n mask is = ap count_ones is ∙ ones-mask_l is_encoded (take n (drop place bytes))

-- so many bytes more
pub counted_more : (bytes : List ℕ) (place n : ℕ) → encoded_count (take (place + n) bytes) ≡ encoded_count (take place bytes) + encoded_count (take n (drop place bytes))
counted_more bytes place n =
    sym (sum_by-take-drop (λ b. cond (is_encoded b) 1 0) (take (place + n) bytes) place) ∙ ap (λ l. encoded_count l + encoded_count (drop place (take (place + n) bytes))) (take-take place (place + n) bytes (omega arith)) ∙ ap (λ l. encoded_count (take place bytes) + encoded_count l) (drop-take place n bytes)

pub count_is_within : (bytes : List ℕ) (place n : ℕ) → encoded_count (take n (drop place bytes)) ≤ n
count_is_within bytes place n = omega (arith, count_by-le-length is_encoded (take n (drop place bytes)), length-take n (drop place bytes))

pub counted_whole : (bytes : List ℕ) (place front back : ℕ) → front ≡ encoded_count (take place bytes) → back ≡ encoded_count (take (length bytes - place) (drop place bytes)) → front + back ≡ encoded_count bytes
counted_whole bytes place front back is_front is_back = grind (arith, nat_tests, take_rest, sum_by-take-drop, cond)
