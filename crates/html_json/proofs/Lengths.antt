-- How long the encoding is, and that no `<` stands in it.
use Rattle.std.proofs.Common.{◌≡◌, ◌≢◌, ℕ, ◌*◌, ◌≤◌, ◌==◌, ◌&&◌, not, Bool, true, false, List, [], ◌∷◌, ◌++◌, All, Option, Some, None, IfSome, SomeIff, length, refl, ap₂, ◌∙◌, arith, length-append}
use Rattle.std.specs.List.{list_all}
use Rattle.std.proofs.lemmas.List.Elements.{All-weaker}
use Rattle.std.proofs.lemmas.List.Folds.{list_all-append}
use Rattle.std.proofs.lemmas.List.Sums.{AllPass-from_list_all}
use Rattle.std.proofs.lemmas.Bool.Decides.{nat_tests}
use Rattle.hesc_specs.specs.Text.Ascii.{less_than}
use Rattle.html_json.specs.Encoding.{json_encoding, json_image}

image_length : (b : ℕ) → length (json_image b) ≤ 6
image_length b = grind (arith, nat_tests)

pub at_most_six : (text : List ℕ) → length (json_encoding text) ≤ length text * 6
at_most_six [] = omega arith
at_most_six (b ∷ text) = omega (arith, at_most_six text, image_length b, length-append (json_image b) (json_encoding text))

image_some : (b : ℕ) (rest : List ℕ) → json_image b ++ rest ≡ [] → ⊥
image_some b rest none = grind (arith, nat_tests)

pub empty_alone : (text : List ℕ) → json_encoding text ≡ [] → length text ≡ 0
empty_alone [] none = refl
empty_alone (b ∷ text) none = absurd (image_some b (json_encoding text) none)

-- a byte other than `<`
abbrev pub is_apart : ℕ → Bool
is_apart b = not (b == less_than)

image_apart : (b : ℕ) → list_all is_apart (json_image b) ≡ true
image_apart b = grind (arith, nat_tests)

pub all_apart : (text : List ℕ) → list_all is_apart (json_encoding text) ≡ true
all_apart [] = refl
all_apart (b ∷ text) = list_all-append is_apart (json_image b) (json_encoding text) ∙ ap₂ (λ x y. x && y) (image_apart b) (all_apart text)

apart_is : (b : ℕ) → is_apart b ≡ true → b ≢ less_than
apart_is b apart same = let never : false ≡ true = rw same at apart in cc

pub no_less : (text : List ℕ) → All (λ b. b ≢ less_than) (json_encoding text)
no_less text = All-weaker _ (λ b. b ≢ less_than) apart_is (json_encoding text) (AllPass-from_list_all is_apart (json_encoding text) (all_apart text))

-- what holds of a product holds of it where it can be had
pub of_product : (found : Option ℕ) (P : Type 0) (product : ℕ) (Q : ℕ → Type 0) → SomeIff found P product → Q product → IfSome found Q
of_product None P product Q is holds = tt
of_product (Some n) P product Q is holds = rw is.1 holds
