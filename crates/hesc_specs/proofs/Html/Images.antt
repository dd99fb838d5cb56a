-- What every HTML map does: a byte of its class is replaced by its reference, any other is kept.
use Rattle.std.proofs.Common.{ℕ, ◌≡◌, ◌<◌, ◌≢◌, true, false, refl, arith}
use Rattle.std.proofs.lemmas.Bool.Decides.{nat_tests}
use Rattle.hesc_specs.specs.Text.Ascii.{ampersand}
use Rattle.hesc_specs.specs.Text.Classes.{in_class, IsHtml}
use Rattle.hesc_specs.specs.Html.{image, reference_to}
use Rattle.hesc_specs.specs.declared.classes.Class.{Class}

pub image-replaced : (class : Class) (b : ℕ) → in_class class b ≡ true → image class b ≡ reference_to b
image-replaced class b replaced = rw replaced refl

-- every HTML class has `&`
pub in_class-ampersand : (class : Class) → IsHtml class → in_class class ampersand ≡ true
in_class-ampersand class html = grind (arith, nat_tests)

-- an HTML class has ASCII bytes alone
pub in_class_is_ascii : (class : Class) (b : ℕ) → IsHtml class → in_class class b ≡ true → b < 128
in_class_is_ascii class b html replaced = grind (arith, nat_tests)

-- a byte that is kept differs from one that is replaced
pub kept_is_other : (class : Class) (b c : ℕ) → in_class class b ≡ false → in_class class c ≡ true → b ≢ c
kept_is_other class b c kept replaced same = cc
