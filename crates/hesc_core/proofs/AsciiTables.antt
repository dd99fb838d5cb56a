-- Tables with a text for each ASCII byte: each of the 128 rows, computed.
use Rattle.std.proofs.Common.{◌≡◌, ℕ, ◌<◌, true, List, [], take, get_or}
use Rattle.std.proofs.lemmas.Bool.{agree_below, agree_below_at}
use Rattle.std.proofs.lemmas.Slice.Eq.{bytes_eq-Decides}
use Rattle.std.specs.Str.{bytes_eq}

abbrev Rows : Type 0
Rows = List (List ℕ × ℕ)

abbrev pub row_of : Rows → ℕ → List ℕ × ℕ
row_of rows b = get_or rows b ([], 0)

pub row_is_text : (rows : Rows) (text_of : ℕ → List ℕ) → agree_below (λ k. bytes_eq (take (row_of rows k).1 (row_of rows k).0) (text_of k)) (λ _. true) 128 ≡ true
    → (b : ℕ) (row : List ℕ × ℕ) → b < 128 → row ≡ row_of rows b → take row.1 row.0 ≡ text_of b
row_is_text rows text_of all b row ascii is = rw is
    ((bytes_eq-Decides (take (row_of rows b).1 (row_of rows b).0) (text_of b)).0
    (agree_below_at (λ k. bytes_eq (take (row_of rows k).1 (row_of rows k).0) (text_of k)) (λ _. true) 128 b all ascii))
