-- Different texts have different encodings: an image at the front of bytes determines its byte.
use Rattle.std.proofs.Common.{ℕ, ◌≡◌, ◌+◌, ◌*◌, ◌/◌, ◌%◌, ◌<◌, true, false, List, [], ◌∷◌, ◌++◌, ◌==◌, Option, Some, None, if◌then◌else◌, refl, sym, ◌∙◌, ap, ap₂, ⊎_elim, arith, ne_eqb}
use Rattle.std.proofs.lemmas.Bool.{cases_Bool}
use Rattle.std.proofs.lemmas.Bool.Decides.{nat_tests}
use Rattle.std.proofs.lemmas.List.{append_cancel_left}
use Rattle.std.specs.Char.{digit_value}
use Rattle.hesc_specs.specs.Text.Ascii.{ampersand, less_than, greater_than, double_quote}
use Rattle.hesc_specs.specs.Text.Classes.{in_class, IsHtml}
use Rattle.hesc_specs.specs.Text.HexDigits.{hex_digit}
use Rattle.hesc_specs.specs.Html.{encoding, image, reference_to, hex_reference}
use Rattle.hesc_specs.specs.declared.classes.Class.{Class}
use Rattle.hesc_specs.proofs.Text.HexDigits.{digit_value-hex_digit}
use Rattle.hesc_specs.proofs.Html.Images.{in_class-ampersand, in_class_is_ascii, kept_is_other}

-- the number of the two hex digits after an `x`
hex_number : List ℕ → ℕ
hex_number (x ∷ high ∷ low ∷ bytes) = digit_value high * 16 + digit_value low
hex_number bytes = 0

-- the byte to which the bytes after a `&` refer: by the first letter of a name, `a`, `l`, `g` or `q`, or by the number
referred_byte : List ℕ → ℕ
referred_byte [] = 0
referred_byte (a ∷ bytes) =
    if a == 97 then ampersand
    else (if a == 108 then less_than
    else (if a == 103 then greater_than
    else (if a == 113 then double_quote
    else hex_number bytes)))

-- the byte whose image stands at the front of an encoding, if the encoding is not empty
front_byte : List ℕ → Option ℕ
front_byte [] = None
front_byte (b ∷ bytes) = Some (if b == ampersand then referred_byte bytes else b)

front_byte-hex_reference : (b : ℕ) (rest : List ℕ) → b < 128 → front_byte (hex_reference b ++ rest) ≡ Some b
unfolding front_byte referred_byte hex_number
front_byte-hex_reference b rest small =
    let high : digit_value (hex_digit (b / 16)) ≡ b / 16 = digit_value-hex_digit (b / 16) (omega arith) in
    let low : digit_value (hex_digit (b % 16)) ≡ b % 16 = digit_value-hex_digit (b % 16) (omega arith) in
    ap Some (ap₂ (λ h l. h * 16 + l) high low ∙ omega arith)

front_byte-reference_to : (b : ℕ) (rest : List ℕ) → b < 128 → front_byte (reference_to b ++ rest) ≡ Some b
unfolding front_byte referred_byte hex_number
front_byte-reference_to b rest small = grind (arith, nat_tests, front_byte-hex_reference b rest small)

front_byte-image : (class : Class) (b : ℕ) (rest : List ℕ) → IsHtml class → front_byte (image class b ++ rest) ≡ Some b
unfolding front_byte
front_byte-image class b rest html =
    ⊎_elim
    (λ (replaced : in_class class b ≡ true).
    rw replaced (front_byte-reference_to b rest (in_class_is_ascii class b html replaced)))
    (λ (kept : in_class class b ≡ false).
    rw (kept, ne_eqb b ampersand (kept_is_other class b ampersand kept (in_class-ampersand class html))) refl)
    (cases_Bool (in_class class b))

-- equal encodings by an HTML encoder are of equal texts
pub encoding-injective : (class : Class) (a b : List ℕ) → IsHtml class → encoding class a ≡ encoding class b → a ≡ b
unfolding front_byte
encoding-injective class [] [] html same = refl
encoding-injective class [] (c ∷ b) html same =
    let clash : None ≡ Some c = ap front_byte same ∙ front_byte-image class c (encoding class b) html in cc
encoding-injective class (c ∷ a) [] html same =
    let clash : Some c ≡ None = sym (front_byte-image class c (encoding class a) html) ∙ ap front_byte same in cc
encoding-injective class (c ∷ a) (d ∷ b) html same =
    let fronts : Some c ≡ Some d =
    sym (front_byte-image class c (encoding class a) html) ∙
    (ap front_byte same ∙ front_byte-image class d (encoding class b) html) in
    let front : c ≡ d = cc in
    let rests : encoding class a ≡ encoding class b =
    append_cancel_left (image class c) (encoding class a) (encoding class b)
    (same ∙ ap (λ e. image class e ++ encoding class b) (sym front)) in
    ap₂ (λ e text. e ∷ text) front (encoding-injective class a b html rests)
