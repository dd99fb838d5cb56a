-- The changes of the encoder of strings, made, are its encoding.
use Rattle.std.proofs.Common.{◌≡◌, ℕ, ◌≤◌, List, [], ◌∷◌, true, false, refl, sym, ap, ◌∙◌, ◌==◌, arith}
use Rattle.std.proofs.lemmas.Bool.{ne_eqb}
use Rattle.std.proofs.lemmas.Bool.Decides.{nat_tests}
use Rattle.hesc_specs.specs.Text.Ascii.{less_than}
use Rattle.hesc_specs.specs.Text.Changes.{applied}
use Rattle.json.specs.Print.{escape_byte}
use Rattle.json.proofs.Printed.Strings.{escape_byte_plain}
use Rattle.html_json.specs.Applied.{Keeps, applied-byte_changes}
use Rattle.html_json.specs.Encoding.{json_encoding}
use Rattle.html_json.specs.Strings.{content_changes, content_encoding, content_image, is_escaped}

other : (b c : ℕ) → is_escaped c ≡ true → is_escaped b ≡ false → b ≡ c → ⊥
other b c hit is same = let never : true ≡ false = sym hit ∙ ap is_escaped (sym same) ∙ is in cc

no_control : (b : ℕ) → is_escaped b ≡ false → 32 ≤ b
no_control b is = grind (arith, nat_tests)

-- a byte that is not escaped stays
pub content_keeps : Keeps is_escaped content_image
content_keeps b is =
    let plain : escape_byte b ≡ b ∷ [] = escape_byte_plain b (other b 34 refl is) (other b 92 refl is) (no_control b is) in
    let no_less : (b == less_than) ≡ false = ne_eqb b less_than (other b less_than refl is) in
    ap json_encoding plain ∙ rw no_less refl

pub applied-content_changes : (source : List ℕ) → applied source 0 (content_changes source 0) ≡ content_encoding source
applied-content_changes source = applied-byte_changes is_escaped content_image content_keeps source
