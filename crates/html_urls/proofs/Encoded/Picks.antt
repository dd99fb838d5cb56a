-- The component of eight bytes, as the row of their mask picks it.
use Rattle.std.proofs.Common.{◌≡◌, ℕ, zero, suc, ◌+◌, ◌*◌, ◌/◌, ◌%◌, ◌^◌, ◌≤◌, ◌<◌, Bool, true, false, true≢false, ◌&&◌, ◌||◌, ◌==◌, leb, nat_lt, cond, List, [], ◌∷◌, ◌++◌, count_ones, drop, get_or, length, length-append, length-take-le, map, replicate, take, take-append-drop, take_all, refl, sym, ap, ◌∙◌, subst, w8, arith, T, eqb, ltb, inl, inr}
use Rattle.std.proofs.lemmas.Bool.Decides.{nat_tests}
use Rattle.std.specs.Prelude.{max, nat_le}
use Rattle.std.specs.List.{AllPass, list_all}
use Rattle.std.specs.Str.{bytes_eq}
use Rattle.std.specs.Fmt.{digit_glyph}
use Rattle.std.proofs.lemmas.Bool.{agree_below, agree_below_at, and_parts, cases_lt, leb-true}
use Rattle.std.proofs.lemmas.List.{drop-drop, length-drop, length-map, map-append, take-map}
use Rattle.std.proofs.lemmas.List.Elements.{All-drop, All-take}
use Rattle.std.proofs.lemmas.List.Sums.{AllPass-from_list_all}
use Rattle.std.proofs.lemmas.Nat.{ones-le}
use Rattle.std.proofs.lemmas.Simd.{Each1-from_get_or, SwzOk, SwzOk-from_Each1, length-chunk, length-put_chunk, length-swz_l, map-map, mask_l-lt, swz_l}
use Rattle.std.proofs.lemmas.Slice.Eq.{bytes_eq-Decides}
use Rattle.std.proofs.Math.Nat.{max-eq_right}
use Rattle.std.proofs.Math.Seq.{take-add}
use Rattle.std.specs.Simd.Lanes.{mask_l, pick_l, put_chunk, top, zip2}
use lib.Lanes.{sel_l}
use Rattle.percent_encoding.specs.AsciiSet.{should_percent_encode}
use Rattle.percent_encoding.proofs.PercentLemmas.{percent_encode-append, percent_encode-nil}
use Rattle.hesc_scan.proofs.Masks.{mask_l-drop, mask_l-take}
use Rattle.hesc_sinks.specs.Stores.{Stored}
use Rattle.hesc_sinks.proofs.Stores.{stored_first, stored_then}
use Rattle.html_urls.specs.declared.component.TheConstants.{COMPONENT}
use Rattle.html_urls.specs.declared.component.picks.TheConstants.{PICKS}
use Rattle.html_urls.specs.Components.{component, is_encoded}
use Rattle.html_urls.specs.Components.Lanes.{head_of, high_digit, is_pick, lanes_of, low_digit, picked_from, picks_at}
use Rattle.html_urls.proofs.Components.{length-component}
use Rattle.html_urls.proofs.Encoded.Blocks.{stored_row}
use Rattle.html_urls.proofs.Encoded.Digits.{by_lanes, component-cons, shown, spelled_from, spelled_is}
use Rattle.html_urls.proofs.Encoded.Halves.{looked_up}
use Rattle.html_urls.proofs.Encoded.Lanes.{groups_compared}

-- ---- the table

picks_checked : list_all is_pick PICKS.now ≡ true
picks_checked = refl

pub picks_pass : (place : ℕ) (picks : List ℕ) → picks ≡ picks_at place → AllPass is_pick picks
picks_pass place picks are =
    let pass = λ (k : ℕ). is_pick k ≡ true in
    subst (AllPass is_pick) (sym are) (All-take pass 16 (drop place PICKS.now) (All-drop pass place PICKS.now (AllPass-from_list_all is_pick PICKS.now picks_checked)))

-- a pick is what a look-up by lanes takes
pick_ok : (k : ℕ) → is_pick k ≡ true → T (leb 128 k || ltb k 16)
pick_ok k pass = grind (arith, nat_tests)

pub picks_ok : (picks : List ℕ) → length picks ≡ 16 → AllPass is_pick picks → SwzOk w8 16 16 0 picks
picks_ok picks long pass =
    SwzOk-from_Each1 w8 16 1 16 0 picks refl (omega (arith, long)) (Each1-from_get_or (λ k. T (leb 128 k || ltb k 16)) picks 0 (λ i within. pick_ok (get_or picks i 0) (pass i 0 within)))

-- the lanes of the bytes from one on: of a byte that is encoded none, its own and that of its low digit, and of another its own
abbrev row_from : ℕ → List Bool → List ℕ
row_from k [] = []
row_from k (true ∷ flags) = 128 ∷ k ∷ (k + 8) ∷ row_from (suc k) flags
row_from k (false ∷ flags) = k ∷ row_from (suc k) flags

abbrev row_of : ℕ → List ℕ
row_of mask = take 32 (drop (32 * mask) PICKS.now)

-- the row that the table has begins so
abbrev begins : List Bool → Bool
begins flags = bytes_eq (take (8 + 2 * count_ones (mask_l flags)) (row_of (mask_l flags))) (row_from 0 flags)

-- a test of all lists of so many flags
abbrev of_all : ℕ → (List Bool → Bool) → Bool
of_all zero test = test []
of_all (suc n) test = of_all n (λ flags. test (true ∷ flags)) && of_all n (λ flags. test (false ∷ flags))

of_each : (n : ℕ) (test : List Bool → Bool) (flags : List Bool) → length flags ≡ n → of_all n test ≡ true → test flags ≡ true
of_each zero test [] long all = all
of_each zero test (flag ∷ flags) long all = absurd (omega (arith, long))
of_each (suc n) test [] long all = absurd (omega (arith, long))
of_each (suc n) test (true ∷ flags) long all = of_each n (λ l. test (true ∷ l)) flags (omega (arith, long)) (and_parts _ _ all).0
of_each (suc n) test (false ∷ flags) long all = of_each n (λ l. test (false ∷ l)) flags (omega (arith, long)) (and_parts _ _ all).1

rows_checked : of_all 8 begins ≡ true
unfolding lib.Count.ones
rows_checked = refl

row_begins : (flags : List Bool) → length flags ≡ 8 → take (8 + 2 * count_ones (mask_l flags)) (row_of (mask_l flags)) ≡ row_from 0 flags
row_begins flags long = (bytes_eq-Decides _ _).0 (of_each 8 begins flags long rows_checked)

-- ---- what is looked up

greater : (b : ℕ) → cond (top 7 (cond (nat_lt b 37) 255 0)) 37 b ≡ max 37 b
greater b = grind (arith, nat_tests)

greater_lanes : (v : List ℕ) (n : ℕ) → length v ≡ n → sel_l (map (top 7) (zip2 (λ a b. cond (nat_lt a b) 255 0) v (replicate n 37))) (replicate n 37) v ≡ map (max 37) v
greater_lanes [] n long = refl
greater_lanes (b ∷ v) zero long = absurd (omega (arith, long))
greater_lanes (b ∷ v) (suc n) long = λ i. greater b i ∷ greater_lanes v n (omega (arith, long)) i

pub looked_up_picks : (lanes picks : List ℕ) → length lanes ≡ 16 → length picks ≡ 16
    → sel_l (map (top 7) (zip2 (λ a b. cond (nat_lt a b) 255 0) (swz_l w8 16 lanes 0 picks) (replicate 16 37))) (replicate 16 37) (swz_l w8 16 lanes 0 picks) ≡ map (picked_from lanes) picks
looked_up_picks lanes picks long row =
    greater_lanes (swz_l w8 16 lanes 0 picks) 16 (length-swz_l w8 16 lanes 0 picks ∙ row)
    ∙ ap (map (max 37)) (looked_up lanes picks 0 long (omega (arith, row)))
    ∙ map-map (max 37) (λ k. get_or lanes k 0) picks

-- ---- what a row picks

-- these are the lanes of the bytes, from one on
abbrev HoldsFrom : (ℕ → ℕ) → ℕ → List ℕ → Type 0
HoldsFrom lane k [] = Unit {0}
HoldsFrom lane k (b ∷ bytes) = ((lane k ≡ head_of b) × (lane (k + 8) ≡ low_digit b)) × HoldsFrom lane (suc k) bytes

picked_one : (lane : ℕ → ℕ) (k b : ℕ) (flag : Bool) (flags : List Bool) → lane 128 ≡ 37 → lane k ≡ cond flag (high_digit b) b → lane (k + 8) ≡ low_digit b
    → map lane (row_from k (flag ∷ flags)) ≡ shown flag b ++ map lane (row_from (suc k) flags)
picked_one lane k b flag flags sign head low = grind (arith, nat_tests)

picked_all : (lane : ℕ → ℕ) (k : ℕ) (bytes : List ℕ) → lane 128 ≡ 37 → HoldsFrom lane k bytes → map lane (row_from k (map is_encoded bytes)) ≡ component bytes
picked_all lane k [] sign holds = sym (percent_encode-nil COMPONENT)
picked_all lane k (b ∷ bytes) sign holds =
    picked_one lane k b (is_encoded b) (map is_encoded bytes) sign holds.0.0 holds.0.1
    ∙ ap (λ l. shown (is_encoded b) b ++ l) (picked_all lane (suc k) bytes sign holds.1)
    ∙ sym (component-cons b bytes)

-- ---- no lane is less than `%`

glyphs_checked : agree_below (λ d. nat_le 37 (digit_glyph true d)) (λ _. true) 16 ≡ true
glyphs_checked = refl

glyph_is_more : (d : ℕ) → d < 16 → 37 ≤ digit_glyph true d
glyph_is_more d lt = leb-true 37 _ (agree_below_at (λ k. nat_le 37 (digit_glyph true k)) (λ _. true) 16 d glyphs_checked lt)

less_checked : agree_below is_encoded (λ _. true) 37 ≡ true
unfolding should_percent_encode
less_checked = refl

head_is_more : (b : ℕ) (flag : Bool) → is_encoded b ≡ flag → 37 ≤ cond flag (high_digit b) b
head_is_more b true is = glyph_is_more (b / 16 % 16) (omega arith)
head_is_more b false is = elim (cases_lt b 37) [ inl less ↦ absurd (true≢false (sym (agree_below_at is_encoded (λ _. true) 37 b less_checked less) ∙ is)) | inr more ↦ more ]

held : (b : ℕ) → (max 37 (head_of b) ≡ head_of b) × (max 37 (low_digit b) ≡ low_digit b)
held b = (max-eq_right (head_is_more b (is_encoded b) refl), max-eq_right (glyph_is_more (b % 16) (omega arith)))

-- ---- eight bytes

-- what holds of eight bytes, one by one
by_eight : (P : List ℕ → Type 0) (bytes : List ℕ) → length bytes ≡ 8 → P (spelled_from bytes 0 8) → P bytes
by_eight P bytes long here = subst P (sym (spelled_is bytes 0 8 (sym long))) here

all_held : (bytes : List ℕ) → length bytes ≡ 8 → HoldsFrom (picked_from (lanes_of bytes)) 0 bytes
all_held bytes long =
    by_eight (λ l. HoldsFrom (picked_from (lanes_of l)) 0 l) bytes long (held _, (held _, (held _, (held _, (held _, (held _, (held _, (held _, tt))))))))

sign_for_none : (bytes : List ℕ) → length bytes ≡ 8 → picked_from (lanes_of bytes) 128 ≡ 37
sign_for_none bytes long = by_eight (λ l. picked_from (lanes_of l) 128 ≡ 37) bytes long refl

picked_component : (bytes : List ℕ) (mask : ℕ) → length bytes ≡ 8 → mask ≡ mask_l (map is_encoded bytes) → map (picked_from (lanes_of bytes)) (take (8 + 2 * count_ones mask) (row_of mask)) ≡ component bytes
picked_component bytes mask long is = grind (arith, nat_tests, map, count_ones, row_begins, length-map, picked_all, sign_for_none, all_held)

-- ---- sixteen bytes

heads_selected : (v : List ℕ) → sel_l (map is_encoded v) (map high_digit v) v ≡ map head_of v
heads_selected [] = refl
heads_selected (b ∷ v) = λ i. head_of b ∷ heads_selected v i

abbrev selected : List ℕ → List ℕ → List ℕ → List ℕ
selected groups high v = sel_l (map (top 7) (zip2 (λ a b. cond (eqb a b) 255 0) groups (replicate 16 0))) high v

heads_are : (v groups high : List ℕ) → length v ≡ 16 → map (λ g. g == 0) groups ≡ map is_encoded v → high ≡ map high_digit v → selected groups high v ≡ map head_of v
heads_are v groups high long are is_high = (λ i. sel_l (groups_compared v groups long are i) (is_high i) v) ∙ heads_selected v

abbrev FIRST : List ℕ
FIRST = 0 ∷ 1 ∷ 2 ∷ 3 ∷ 4 ∷ 5 ∷ 6 ∷ 7 ∷ 16 ∷ 17 ∷ 18 ∷ 19 ∷ 20 ∷ 21 ∷ 22 ∷ 23 ∷ []

abbrev LAST : List ℕ
LAST = 8 ∷ 9 ∷ 10 ∷ 11 ∷ 12 ∷ 13 ∷ 14 ∷ 15 ∷ 24 ∷ 25 ∷ 26 ∷ 27 ∷ 28 ∷ 29 ∷ 30 ∷ 31 ∷ []

module _ (v groups high low : List ℕ) (long : length v ≡ 16) (are : map (λ g. g == 0) groups ≡ map is_encoded v) (is_high : high ≡ map high_digit v) (is_low : low ≡ map low_digit v) where
  pub first_lanes : pick_l 0 (selected groups high v ++ low) FIRST ≡ lanes_of (take 8 v)
  first_lanes = (λ i. pick_l 0 (heads_are v groups high long are is_high i ++ is_low i) FIRST) ∙ by_lanes (λ l. pick_l 0 (map head_of l ++ map low_digit l) FIRST ≡ lanes_of (take 8 l)) v long refl

  pub last_lanes : pick_l 0 (selected groups high v ++ low) LAST ≡ lanes_of (drop 8 v)
  last_lanes = (λ i. pick_l 0 (heads_are v groups high long are is_high i ++ is_low i) LAST) ∙ by_lanes (λ l. pick_l 0 (map head_of l ++ map low_digit l) LAST ≡ lanes_of (drop 8 l)) v long refl

-- ---- storing

halves_of_row : (mask : ℕ) → picks_at (32 * mask) ++ picks_at (32 * mask + 16) ≡ row_of mask
halves_of_row mask =
    ap (λ l. picks_at (32 * mask) ++ take 16 l) (sym (drop-drop 16 (32 * mask) PICKS.now)) ∙ sym (take-add 16 16 (drop (32 * mask) PICKS.now))

-- the two halves of a row, of which the first lanes are the component
pub stored_picks : (old lanes front back bytes : List ℕ) (place mask : ℕ) → mask < 256 → place + 32 ≤ length old
    → front ≡ map (picked_from lanes) (picks_at (32 * mask)) → back ≡ map (picked_from lanes) (picks_at (32 * mask + 16))
    → length bytes ≡ 8 → lanes ≡ lanes_of bytes → mask ≡ mask_l (map is_encoded bytes)
    → Stored old (put_chunk (place + 16) (put_chunk place old front) back) place (component bytes) (place + 8 + 2 * count_ones mask)
stored_picks old lanes front back bytes place mask small within is_front is_back eight are is =
    let few = ones-le 8 mask small in
    let count : ℕ = 8 + 2 * count_ones mask in
    let mid : List ℕ = put_chunk place old front in
    let new : List ℕ = put_chunk (place + 16) mid back in
    let sixteen : (place : ℕ) → place + 16 ≤ 8192 → length (map (picked_from lanes) (picks_at place)) ≡ 16 = λ place there. length-map (picks_at place) (picked_from lanes) ∙ length-chunk place 16 PICKS.now there in
    let long_front : length front ≡ 16 = ap length is_front ∙ sixteen (32 * mask) (omega (arith, small)) in
    let long_back : length back ≡ 16 = ap length is_back ∙ sixteen (32 * mask + 16) (omega (arith, small)) in
    let one = stored_row old front front place 16 16 long_front (take_all 16 front (omega (arith, long_front))) (omega arith) (omega (arith, within)) in
    let two = stored_row mid back back (place + 16) 16 16 long_back (take_all 16 back (omega (arith, long_back))) (omega arith) (omega (arith, within, length-put_chunk place old front)) in
    let both = stored_then old mid new front back place (place + 16) (place + 16 + 16) one two in
    let long : length (front ++ back) ≡ 32 = omega (arith, length-append front back, long_front, long_back) in
    let all : Stored old new place (take 32 (front ++ back)) (place + 16 + 16) = subst (λ l. Stored old new place l (place + 16 + 16)) (sym (take_all 32 (front ++ back) (omega (arith, long)))) both in
    let first : Stored old new place (take count (front ++ back)) (place + count) = stored_first old new (front ++ back) place 32 count (place + 16 + 16) (omega (arith, few)) (omega (arith, long)) (omega (arith, within)) all in
    let made : take count (front ++ back) ≡ component bytes =
    ap (take count) ((λ i. is_front i ++ is_back i) ∙ sym (map-append (picked_from lanes) (picks_at (32 * mask)) (picks_at (32 * mask + 16))) ∙ ap (map (picked_from lanes)) (halves_of_row mask))
    ∙ take-map (picked_from lanes) count (row_of mask)
    ∙ ap (λ l. map (picked_from l) (take count (row_of mask))) are
    ∙ picked_component bytes mask eight is in
    subst (λ l. Stored old new place l (place + 8 + 2 * count_ones mask)) made (subst (Stored old new place (take count (front ++ back))) (omega arith) first)

-- ---- the first eight of sixteen bytes, and the last

module _ (v : List ℕ) (mask : ℕ) (long : length v ≡ 16) (is : mask ≡ mask_l (map is_encoded v)) where
  pub first_eight : length (take 8 v) ≡ 8
  first_eight = length-take-le 8 v (omega (arith, long))

  pub last_eight : length (drop 8 v) ≡ 8
  last_eight = omega (arith, length-drop 8 v, long)

  pub first_mask : mask % 256 ≡ mask_l (map is_encoded (take 8 v))
  first_mask = ap (λ n. n % 256) is ∙ mask_l-take is_encoded v 8 (omega (arith, long))

  pub last_mask : mask / 256 ≡ mask_l (map is_encoded (drop 8 v))
  last_mask = ap (λ n. n / 256) is ∙ mask_l-drop is_encoded v 8 (omega (arith, long))

  pub last_is_small : mask / 256 < 256
  last_is_small = omega (arith, last_mask, subst (λ n. mask_l (map is_encoded (drop 8 v)) < 2 ^ n) (length-map (drop 8 v) is_encoded ∙ last_eight) (mask_l-lt (map is_encoded (drop 8 v))))

  -- at most three for each
  pub first_is_few : length (component (take 8 v)) ≤ 24
  first_is_few = omega (arith, length-component (take 8 v), first_eight)

pub stored_halves : (v old mid new : List ℕ) (place middle end : ℕ) → Stored old mid place (component (take 8 v)) middle → Stored mid new middle (component (drop 8 v)) end → Stored old new place (component v) end
stored_halves v old mid new place middle end one two =
    let whole : component (take 8 v) ++ component (drop 8 v) ≡ component v = sym (percent_encode-append COMPONENT (take 8 v) (drop 8 v)) ∙ ap component (take-append-drop 8 v) in
    subst (λ l. Stored old new place l end) whole (stored_then old mid new (component (take 8 v)) (component (drop 8 v)) place middle end one two)
