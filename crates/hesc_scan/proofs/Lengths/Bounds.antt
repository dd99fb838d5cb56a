-- From a count to an upper bound of a length.
use Rattle.std.proofs.Common.{◌≡◌, ℕ, ◌≤◌, List, [], Option, length, arith, IfSome}
use Rattle.std.proofs.lemmas.Option.{IfSome_then}

module _ (r : Option ℕ) (n : ℕ) (counted : IfSome r (λ count. count ≡ n)) (made : List ℕ) where
  pub enough : length made ≤ n → IfSome r (λ bound. length made ≤ bound)
  enough short = IfSome_then r {Q = λ bound. length made ≤ bound} counted (λ bound is. omega arith)

  pub empty : (made ≡ [] → n ≡ 0) → IfSome r (λ bound. made ≡ [] → bound ≡ 0)
  empty none = IfSome_then r {Q = λ bound. made ≡ [] → bound ≡ 0} counted (λ bound is nothing. omega (arith, none nothing))
