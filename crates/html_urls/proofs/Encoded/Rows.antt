-- The table of what each byte becomes, checked row by row.
use Rattle.std.proofs.Common.{◌≡◌, ℕ, zero, suc, ◌+◌, ◌*◌, ◌≤◌, ◌<◌, Bool, true, ◌&&◌, nat_eq, cond, List, get_or, take, drop, refl, ap, ◌∙◌, arith}
use Rattle.std.proofs.lemmas.Bool.Decides.{nat_tests}
use Rattle.std.specs.Str.{bytes_eq}
use Rattle.std.proofs.lemmas.Bool.{agree_below, agree_below_at, eqb-true}
use Rattle.std.proofs.lemmas.Bool.Decides.{Decides-below_and}
use Rattle.std.proofs.lemmas.Slice.Eq.{bytes_eq-Decides}
use Rattle.percent_encoding.specs.AsciiSet.{should_percent_encode}
use Rattle.percent_encoding.specs.Percent.{encode_byte, percent_encode_byte}
use Rattle.html_urls.specs.Components.{is_encoded}
use Rattle.html_urls.specs.declared.component.TheConstants.{COMPONENT}
use Rattle.html_urls.specs.declared.component.rows.TheConstants.{ROWS}

abbrev pub count_at : ℕ → ℕ
count_at b = get_or ROWS.now (4 * b + 3) 0

abbrev pub bytes_at : ℕ → List ℕ
bytes_at b = take (count_at b) (take 4 (drop (4 * b) ROWS.now))

abbrev bytes_match : ℕ → Bool
bytes_match zero = true
bytes_match (suc n) = bytes_eq (bytes_at n) (encode_byte COMPONENT n) && bytes_match n

bytes_checked : bytes_match 256 ≡ true
unfolding percent_encode_byte should_percent_encode
bytes_checked = refl

pub row_is : (b : ℕ) → b < 256 → bytes_at b ≡ encode_byte COMPONENT b
row_is =
    (Decides-below_and (λ b. bytes_eq (bytes_at b) (encode_byte COMPONENT b)) (λ b. bytes_at b ≡ encode_byte COMPONENT b) bytes_match (λ b. bytes_eq-Decides _ _) refl (λ _. refl) 256).0 bytes_checked

counts_checked : agree_below (λ b. nat_eq (count_at b) (cond (is_encoded b) 3 1)) (λ b. true) 256 ≡ true
unfolding should_percent_encode
counts_checked = refl

count_is : (b : ℕ) → b < 256 → count_at b ≡ cond (is_encoded b) 3 1
count_is b lt = eqb-true _ _ (agree_below_at (λ k. nat_eq (count_at k) (cond (is_encoded k) 3 1)) (λ k. true) 256 b counts_checked lt)

-- a row as it is read
pub read_row : (b row count : ℕ) → b < 256 → row ≡ b → count ≡ count_at row → take count (take 4 (drop (4 * row) ROWS.now)) ≡ encode_byte COMPONENT b
read_row b row count lt is_row is_count = ap (λ n. take n (take 4 (drop (4 * row) ROWS.now))) is_count ∙ ap bytes_at is_row ∙ row_is b lt

pub read_count : (b row count : ℕ) → b < 256 → row ≡ b → count ≡ count_at row → count ≡ cond (is_encoded b) 3 1
read_count b row count lt is_row is_count = is_count ∙ ap count_at is_row ∙ count_is b lt

pub count_is_few : (encoded : Bool) (count : ℕ) → count ≡ cond encoded 3 1 → count ≤ 3
count_is_few encoded count is = grind (arith, nat_tests)
