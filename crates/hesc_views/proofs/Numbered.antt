-- Texts by their number.
use Rattle.std.proofs.Common.{◌≡◌, ◌-◌, ◌≢◌, ℕ, zero, suc, List, ◌∷◌, refl, ap, arith}
use Rattle.hesc_views.specs.Places.{text_at}

-- behind the first text the others are counted from 0
pub text_at-behind : (first : List ℕ) (others : List (List ℕ)) (number : ℕ) → number ≢ 0 → text_at (first ∷ others) number ≡ text_at others (number - 1)
text_at-behind first others zero some = absurd (some refl)
text_at-behind first others (suc number) some =
    let same : number ≡ suc number - 1 = omega arith in
    ap (text_at others) same
