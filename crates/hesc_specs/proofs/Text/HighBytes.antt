-- The bytes of a character that is not ASCII.
use Rattle.std.proofs.Common.{ℕ, ◌≤◌, ◌<◌, List, [], ◌∷◌, arith}
use Rattle.std.proofs.Math.Utf8.{encode}
use Rattle.std.proofs.lemmas.Bool.{cases_lt}
use Rattle.std.proofs.lemmas.Bool.Decides.{nat_tests}

-- all are from 128 on
abbrev pub AreHigh : List ℕ → Type 0
AreHigh [] = Unit {0}
AreHigh (b ∷ bytes) = (128 ≤ b) × AreHigh bytes

two-high : (c : ℕ) → 128 ≤ c → c < 2048 → AreHigh (encode c)
unfolding encode
two-high c low high = grind (arith, nat_tests)

three-high : (c : ℕ) → 2048 ≤ c → c < 65536 → AreHigh (encode c)
unfolding encode
three-high c low high = grind (arith, nat_tests)

four-high : (c : ℕ) → 65536 ≤ c → AreHigh (encode c)
unfolding encode
four-high c low = grind (arith, nat_tests)

pub encode-high : (c : ℕ) → 128 ≤ c → AreHigh (encode c)
encode-high c low = grind (arith, nat_tests, cases_lt, two-high, three-high, four-high)
