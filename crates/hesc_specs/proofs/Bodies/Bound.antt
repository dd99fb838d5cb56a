-- A body encoding has at most one byte more for each `<` of its text.
use Rattle.std.proofs.Common.{◌≡◌, ℕ, ◌+◌, ◌≤◌, Bool, ◌&&◌, ◌==◌, List, [], ◌∷◌, length, if◌then◌else◌, refl, arith}
use Rattle.std.proofs.lemmas.Bool.Decides.{nat_tests}
use Rattle.std.proofs.lemmas.List.Sums.{sum_by-cons}
use Rattle.std.specs.List.{count_by}
use Rattle.hesc_specs.specs.Text.Ascii.{less_than, backslash}
use Rattle.hesc_specs.specs.Bodies.Encoding.{body_encoding}
use Rattle.hesc_specs.specs.Bodies.Openings.{completes_opening}
use Rattle.hesc_specs.specs.declared.elements.Element.{Element}

-- one byte and what follows it: it is a `<` or not, and what follows completes an opening or not
length-step : (less completes : Bool) (with_it without_it : List ℕ) (n : ℕ) → length without_it ≤ n → with_it ≡ backslash ∷ without_it
    → length (if less && completes then with_it else without_it) ≤ (if less then 1 else 0) + n
length-step less completes with_it without_it n short is = grind (arith, nat_tests)

pub length-body_encoding : (element : Element) (text : List ℕ) → length (body_encoding element text) ≤ length text + count_by (λ b. b == less_than) text
length-body_encoding element [] = omega arith
length-body_encoding element (b ∷ text) =
    let rest = length-body_encoding element text in
    let here = length-step (b == less_than) (completes_opening element text) _ (body_encoding element text) _ rest refl in
    omega (arith, here, sum_by-cons (λ x. if x == less_than then 1 else 0) b text)

pub empty-body_encoding : (element : Element) (text : List ℕ) → body_encoding element text ≡ [] → text ≡ []
empty-body_encoding element [] none = refl
empty-body_encoding element (b ∷ text) none = cc
