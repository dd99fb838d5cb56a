-- What the images of a whole text are read as.
use Rattle.std.proofs.Common.{ℕ, ◌≡◌, true, false, List, [], ◌∷◌, flat_map, refl, arith}
use Rattle.std.proofs.lemmas.Bool.Decides.{nat_tests}
use Rattle.hesc_specs.specs.Text.Classes.{in_class}
use Rattle.hesc_specs.specs.Text.Nul.{nul, nul_image}
use Rattle.hesc_specs.specs.declared.classes.Class.{Class}
use Rattle.hesc_grammars.proofs.HtmlPieces.{read_image}

-- a class without NUL: each byte is read as itself
read_image-itself : (class : Class) → in_class class 0 ≡ false → (b : ℕ) → read_image class b ≡ b ∷ []
read_image-itself class keeps b = grind (arith, nat_tests)

-- a class with NUL: each byte is read as itself, but NUL as U+FFFD
read_image-nul : (class : Class) → in_class class 0 ≡ true → (b : ℕ) → read_image class b ≡ nul_image b
read_image-nul class replaces b = grind (arith, nat_tests)

pub read_back-text : (class : Class) → in_class class 0 ≡ false →
    (text : List ℕ) → flat_map (read_image class) text ≡ text
read_back-text class keeps [] = refl
read_back-text class keeps (b ∷ text) = rw (read_image-itself class keeps b, read_back-text class keeps text) refl

pub read_back-nul : (class : Class) → in_class class 0 ≡ true →
    (text : List ℕ) → flat_map (read_image class) text ≡ nul text
read_back-nul class replaces [] = refl
read_back-nul class replaces (b ∷ text) = rw (read_image-nul class replaces b, read_back-nul class replaces text) refl
