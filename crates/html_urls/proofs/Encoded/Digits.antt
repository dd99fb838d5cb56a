-- Sixteen bytes in lanes: their digits, and what is stored where all are encoded.
use Rattle.std.proofs.Common.{◌≡◌, ℕ, zero, suc, ◌+◌, ◌*◌, ◌/◌, ◌%◌, ◌^◌, ◌≤◌, ◌<◌, Bool, true, false, ◌==◌, cond, List, [], ◌∷◌, ◌++◌, count_ones, drop, get_or, length, length-append, length-take-le, map, replicate, take, take_all, refl, sym, ap, ◌∙◌, subst, bit_and, w8, arith, inl, inr}
use Rattle.std.proofs.lemmas.Bool.Decides.{nat_tests}
use Rattle.std.proofs.lemmas.Bool.{agree_below, agree_below_at, cases_Bool, eqb-true}
use Rattle.std.proofs.Math.Nat.{pow-suc}
use Rattle.std.proofs.Math.Seq.{drop-cons}
use Rattle.std.proofs.lemmas.List.{length-drop, nil_from_length, take_at}
use Rattle.std.proofs.lemmas.Nat.{one_shl}
use Rattle.std.proofs.lemmas.Simd.{ones-mask_l, swz_l}
use Rattle.hesc_scan.proofs.LaneLemmas.{same_below}
use Rattle.hesc_scan.proofs.Masks.{mask_l-take}
use Rattle.hesc_sinks.specs.Stores.{Stored}
use Rattle.hesc_sinks.proofs.Stores.{stored_first, stored_then}
use Rattle.std.specs.Simd.Lanes.{Each1, mask_l, pick_l, put_chunk, zip2}
use Rattle.percent_encoding.specs.Percent.{percent_encode_byte}
use Rattle.percent_encoding.proofs.PercentLemmas.{percent_encode-nil, percent_encode_escaped, percent_encode_kept}
use Rattle.html_urls.specs.declared.component.TheConstants.{COMPONENT}
use Rattle.html_urls.specs.Components.{component, encoded_count, is_encoded}
use Rattle.html_urls.proofs.Encoded.Blocks.{stored_row}
use Rattle.html_urls.proofs.Encoded.Halves.{by_high_half, by_low_half, down}
use Rattle.html_urls.proofs.Components.{component_length_is, encoded_parts}
use Rattle.html_urls.specs.Components.Lanes.{high_digit, low_digit, with_signs}

-- ---- digits

abbrev DIGITS : List ℕ
DIGITS = 48 ∷ 49 ∷ 50 ∷ 51 ∷ 52 ∷ 53 ∷ 54 ∷ 55 ∷ 56 ∷ 57 ∷ 65 ∷ 66 ∷ 67 ∷ 68 ∷ 69 ∷ 70 ∷ []

high_checked : agree_below (λ b. get_or DIGITS (b / 16) 0 == high_digit b) (λ b. true) 256 ≡ true
high_checked = refl

low_checked : agree_below (λ b. get_or DIGITS (b % 16) 0 == low_digit b) (λ b. true) 256 ≡ true
low_checked = refl

pub high_digits : (v : List ℕ) → length v ≡ 16 → Each1 (λ b. b < 256) v → swz_l w8 16 DIGITS 0 (zip2 down v (replicate 16 4)) ≡ map high_digit v
high_digits v long below =
    by_high_half DIGITS v refl long ∙ same_below _ high_digit v below (λ b lt. eqb-true _ _ (agree_below_at (λ k. get_or DIGITS (k / 16) 0 == high_digit k) (λ k. true) 256 b high_checked lt))

pub low_digits : (v : List ℕ) → length v ≡ 16 → Each1 (λ b. b < 256) v → swz_l w8 16 DIGITS 0 (zip2 bit_and v (replicate 16 15)) ≡ map low_digit v
low_digits v long below = grind (arith, nat_tests, by_low_half, same_below, agree_below_at, low_checked)

-- ---- sixteen lanes, one by one

abbrev pub spelled_from : List ℕ → ℕ → ℕ → List ℕ
spelled_from v k zero = []
spelled_from v k (suc n) = get_or v k 0 ∷ spelled_from v (suc k) n

pub spelled_is : (v : List ℕ) (k n : ℕ) → k + n ≡ length v → drop k v ≡ spelled_from v k n
spelled_is v k zero long = nil_from_length (drop k v) (omega (arith, length-drop k v))
spelled_is v k (suc n) long = drop-cons v k 0 (omega arith) ∙ ap (λ l. get_or v k 0 ∷ l) (spelled_is v (suc k) n (omega arith))

abbrev pub spelled : List ℕ → List ℕ
spelled v = spelled_from v 0 16

-- what holds of sixteen lanes, one by one
pub by_lanes : (P : List ℕ → Type 0) (v : List ℕ) → length v ≡ 16 → P (spelled v) → P v
by_lanes P v long here = subst P (sym (spelled_is v 0 16 (sym long))) here

-- ---- a byte more

-- what stands for a byte, encoded or not
abbrev pub shown : Bool → ℕ → List ℕ
shown true b = 37 ∷ high_digit b ∷ low_digit b ∷ []
shown false b = b ∷ []

pub component-cons : (b : ℕ) (bytes : List ℕ) → component (b ∷ bytes) ≡ shown (is_encoded b) b ++ component bytes
unfolding percent_encode_byte
component-cons b bytes = grind (arith, nat_tests, percent_encode_escaped, percent_encode_kept)

-- ---- storing

-- the component of all lanes is stored, and that of the first is wanted
pub stored_lanes : (w bytes old new : List ℕ) (place end count mask : ℕ) → length w ≡ 16 → take count w ≡ take count bytes → count ≤ 16 → place ≤ length old → mask ≡ mask_l (map is_encoded w) → Stored old new place (component w) end
    → Stored old new place (component (take count bytes)) (place + count + 2 * count_ones (mask % (1 * 2 ^ count % 2 ^ 64)))
stored_lanes w bytes old new place end count mask long same few within is stored =
    let made : List ℕ = component (take count w) in
    let later : List ℕ = component (drop count w) in
    let whole : component w ≡ made ++ later = encoded_parts COMPONENT w (take count w) (drop count w) count refl refl in
    let ones : count_ones (mask % (1 * 2 ^ count % 2 ^ 64)) ≡ encoded_count (take count w) =
    ap (λ n. count_ones (mask % n)) (one_shl count 64 (omega arith))
    ∙ ap (λ n. count_ones (n % 2 ^ count)) is
    ∙ ap count_ones (mask_l-take is_encoded w count (omega (arith, long)))
    ∙ ones-mask_l is_encoded (take count w) in
    let far : place + length made ≡ place + count + 2 * count_ones (mask % (1 * 2 ^ count % 2 ^ 64)) = omega (arith, ones, component_length_is (take count w), length-take-le count w (omega (arith, long))) in
    let all : Stored old new place (take (length (component w)) (component w)) end = subst (λ l. Stored old new place l end) (sym (take_all (length (component w)) (component w) (omega arith))) stored in
    let first : Stored old new place (take (length made) (component w)) (place + length made) =
    stored_first old new (component w) place (length (component w)) (length made) end (omega (arith, ap length whole, length-append made later)) (omega arith) within all in
    let wanted : take (length made) (component w) ≡ component (take count bytes) = ap (take (length made)) whole ∙ take_at made later (length made) refl ∙ ap component same in
    subst (Stored old new place (component (take count bytes))) far (subst (λ l. Stored old new place l (place + length made)) wanted first)

-- ---- where all lanes are encoded

abbrev escapes : List ℕ → List ℕ
escapes [] = []
escapes (b ∷ v) = shown true b ++ escapes v

all_encoded : (v : List ℕ) → mask_l (map is_encoded v) + 1 ≡ 2 ^ length v → component v ≡ escapes v
all_encoded [] full = percent_encode-nil COMPONENT
all_encoded (b ∷ v) full =
    let double : 2 ^ suc (length v) ≡ 2 ^ length v * 2 = pow-suc 2 (length v) in
    elim (cases_Bool (is_encoded b)) [
      | inl escaped ↦ let now : 1 + 2 * mask_l (map is_encoded v) + 1 ≡ 2 ^ suc (length v) = ap (λ (p : Bool). cond p 1 0 + 2 * mask_l (map is_encoded v) + 1) (sym escaped) ∙ full in
          component-cons b v ∙ ap (λ p. shown p b ++ component v) escaped ∙ ap (λ l. shown true b ++ l) (all_encoded v (omega (arith, now, double)))
      | inr plain ↦ let now : 0 + 2 * mask_l (map is_encoded v) + 1 ≡ 2 ^ suc (length v) = ap (λ (p : Bool). cond p 1 0 + 2 * mask_l (map is_encoded v) + 1) (sym plain) ∙ full in
          absurd (omega (arith, now, double))
    ]

abbrev EARLY : List ℕ
EARLY = 0 ∷ 16 ∷ 1 ∷ 17 ∷ 2 ∷ 18 ∷ 3 ∷ 19 ∷ 4 ∷ 20 ∷ 5 ∷ 21 ∷ 6 ∷ 22 ∷ 7 ∷ 23 ∷ []

abbrev LATE : List ℕ
LATE = 8 ∷ 24 ∷ 9 ∷ 25 ∷ 10 ∷ 26 ∷ 11 ∷ 27 ∷ 12 ∷ 28 ∷ 13 ∷ 29 ∷ 14 ∷ 30 ∷ 15 ∷ 31 ∷ []

abbrev both_signed : List ℕ → List ℕ → List ℕ
both_signed high low = with_signs (pick_l 0 (high ++ low) EARLY) ++ with_signs (pick_l 0 (high ++ low) LATE)

pub stored_escapes : (v high low old mid new : List ℕ) (place middle end : ℕ) → length v ≡ 16 → mask_l (map is_encoded v) ≡ 65535 → high ≡ map high_digit v → low ≡ map low_digit v
    → Stored old mid place (with_signs (pick_l 0 (high ++ low) EARLY)) middle → Stored mid new middle (with_signs (pick_l 0 (high ++ low) LATE)) end → Stored old new place (component v) end
stored_escapes v high low old mid new place middle end long full is_high is_low one two =
    let all : component v ≡ escapes v = all_encoded v (ap (λ n. n + 1) full ∙ ap (λ n. 2 ^ n) (sym long)) in
    let made : both_signed high low ≡ escapes v = (λ i. both_signed (is_high i) (is_low i)) ∙ by_lanes (λ l. both_signed (map high_digit l) (map low_digit l) ≡ escapes l) v long refl in
    subst (λ l. Stored old new place l end) (made ∙ sym all) (stored_then old mid new _ _ place middle end one two)

signs_stored : (digits old : List ℕ) (place : ℕ) → place + 24 ≤ length old
    → Stored old (put_chunk (place + 16) (put_chunk place old (take 16 (with_signs digits))) (drop 16 (with_signs digits))) place (with_signs digits) (place + 24)
signs_stored digits old place within =
    let mid = put_chunk place old (take 16 (with_signs digits)) in
    let one = stored_row old (take 16 (with_signs digits)) (take 16 (with_signs digits)) place 16 16 refl refl (omega arith) (omega arith) in
    let two = stored_row mid (drop 16 (with_signs digits)) (drop 16 (with_signs digits)) (place + 16) 8 8 refl refl (omega arith) (omega (arith, one.long)) in
    subst (Stored old (put_chunk (place + 16) mid (drop 16 (with_signs digits))) place (with_signs digits)) (omega arith) (stored_then old mid _ _ _ place (place + 16) (place + 16 + 8) one two)

abbrev picked_signs : List ℕ → List ℕ → List ℕ
picked_signs digits places = pick_l 0 (digits ++ replicate 16 37) places

abbrev FRONT : List ℕ
FRONT = 16 ∷ 0 ∷ 1 ∷ 16 ∷ 2 ∷ 3 ∷ 16 ∷ 4 ∷ 5 ∷ 16 ∷ 6 ∷ 7 ∷ 16 ∷ 8 ∷ 9 ∷ 16 ∷ []

abbrev REST : List ℕ
REST = 10 ∷ 11 ∷ 16 ∷ 12 ∷ 13 ∷ 16 ∷ 14 ∷ 15 ∷ []

pub stored_signs : (digits old : List ℕ) (place : ℕ) → length digits ≡ 16 → place + 24 ≤ length old
    → Stored old (put_chunk (place + 16) (put_chunk place old (picked_signs digits FRONT)) (picked_signs digits REST)) place (with_signs digits) (place + 24)
stored_signs digits old place long within =
    by_lanes (λ l. Stored old (put_chunk (place + 16) (put_chunk place old (picked_signs l FRONT)) (picked_signs l REST)) place (with_signs l) (place + 24)) digits long (signs_stored (spelled digits) old place within)
