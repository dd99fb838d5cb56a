-- Decoding undoes the HTML encoders: each image is decoded to its byte, but for a control that no reference stands for.
use Rattle.std.proofs.Common.{ℕ, ◌≡◌, ◌≢◌, ◌/◌, ◌%◌, ◌<◌, true, false, List, [], ◌∷◌, ◌++◌, ◌==◌, Some, None, ⊎_elim, length, refl, ap, sym, ◌∙◌, append_assoc, arith, codes, ne_eqb}
use Rattle.std.proofs.lemmas.Bool.{cases_Bool, cases_eq}
use Rattle.std.proofs.lemmas.Bool.Decides.{nat_tests}
use Rattle.std.proofs.lemmas.Str.{encode_ascii}
use Rattle.hesc_specs.specs.Text.Ascii.{ampersand, semicolon, less_than, greater_than, double_quote}
use Rattle.hesc_specs.specs.Text.Classes.{in_class, IsHtml}
use Rattle.hesc_specs.specs.References.Rows.{Row, row_at, value_of, common_rows}
use Rattle.hesc_specs.specs.Text.HexDigits.{hex_digit}
use Rattle.hesc_specs.specs.Html.{encoding, image, reference_to, hex_reference}
use Rattle.hesc_specs.specs.References.KeptControls.{kept_control_image, with_kept_controls}
use Rattle.hesc_specs.specs.References.Decoding.{decoded, is_kept_control, numbered_value, numeral}
use Rattle.hesc_specs.specs.References.TableFaults.{is_table}
use Rattle.hesc_specs.specs.declared.classes.Class.{Class}
use Rattle.hesc_specs.specs.declared.classes.Class.TheVariants.{UnquotedAttribute}
use Rattle.hesc_specs.proofs.Html.Images.{image-replaced, in_class_is_ascii}
use Rattle.hesc_specs.proofs.References.Tables.{common_value}

-- a digit neither begins nor ends a reference
digit_is_no_ampersand : (d : ℕ) → d < 16 → hex_digit d == ampersand ≡ false
digit_is_no_ampersand d small = grind (arith, nat_tests)

digit_is_no_semicolon : (d : ℕ) → d < 16 → hex_digit d == semicolon ≡ false
digit_is_no_semicolon d small = grind (arith, nat_tests)

-- the two digits of a byte write its number
numeral-hex_digits : (b : ℕ) → b < 128 → numeral 16 (hex_digit (b / 16) ∷ hex_digit (b % 16) ∷ []) ≡ Some b
numeral-hex_digits b small = grind (arith, nat_tests)

-- no reference stands for a kept control, and that to another ASCII byte for this byte
numbered_value-kept : (b : ℕ) → is_kept_control b ≡ true → numbered_value b ≡ None
numbered_value-kept b kept = grind (arith, nat_tests)

numbered_value-ascii : (b : ℕ) → b < 128 → is_kept_control b ≡ false → numbered_value b ≡ Some (b ∷ [])
numbered_value-ascii b small free = grind (arith, nat_tests, encode_ascii)

-- a byte of an HTML class is no kept control, but for the class that has them all
in_class_is_free : (class : Class) (b : ℕ) → IsHtml class → class ≢ UnquotedAttribute → in_class class b ≡ true → is_kept_control b ≡ false
in_class_is_free class b html other replaced = grind (arith, nat_tests)

unquoted_kept_is_free : (b : ℕ) → in_class UnquotedAttribute b ≡ false → is_kept_control b ≡ false
unquoted_kept_is_free b kept = grind (arith, nat_tests)

module _ (rows : List Row) where
  -- the written bytes, whatever follows them, are decoded to the value
  abbrev Gives : List ℕ → List ℕ → Type 0
  Gives written value = (rest : List ℕ) → decoded rows (written ++ rest) ≡ value ++ decoded rows rest

  -- the reference of two digits, by whether its number has a value
  digits_kept : (x y b : ℕ) → x == semicolon ≡ false → y == semicolon ≡ false → x == ampersand ≡ false → y == ampersand ≡ false
      → numeral 16 (x ∷ y ∷ []) ≡ Some b → numbered_value b ≡ None → Gives (codes "&#x" ++ x ∷ y ∷ semicolon ∷ []) (codes "&#x" ++ x ∷ y ∷ semicolon ∷ [])
  digits_kept x y b x_ends y_ends x_starts y_starts number value rest = rw (x_ends, y_ends, x_starts, y_starts, number, value) refl

  digits_replaced : (x y b : ℕ) (text : List ℕ) → x == semicolon ≡ false → y == semicolon ≡ false → x == ampersand ≡ false → y == ampersand ≡ false
      → numeral 16 (x ∷ y ∷ []) ≡ Some b → numbered_value b ≡ Some text → Gives (codes "&#x" ++ x ∷ y ∷ semicolon ∷ []) text
  digits_replaced x y b text x_ends y_ends x_starts y_starts number value rest = rw (x_ends, y_ends, x_starts, y_starts, number, value) refl

  hex_reference_gives : (b : ℕ) → b < 128 → Gives (hex_reference b) (kept_control_image b)
  hex_reference_gives b small rest = grind (arith, nat_tests, digits_kept, digit_is_no_semicolon, digit_is_no_ampersand, numeral-hex_digits, numbered_value-kept, digits_replaced, numbered_value-ascii)

  module _ (good : is_table rows ≡ true) where
    named_gives : (k : ℕ) (name value written : List ℕ) → k < length common_rows → (row_at common_rows k).0 ≡ name → value_of common_rows name ≡ Some value
        → ((rest : List ℕ) → value_of rows name ≡ Some value → decoded rows (written ++ rest) ≡ value ++ decoded rows rest) → Gives written value
    named_gives k name value written below is_name is_common by_value rest = by_value rest (common_value rows good k name value below is_name is_common)

    ampersand_gives : Gives (codes "&amp;") (codes "&")
    ampersand_gives = named_gives 0 (codes "amp") (codes "&") (codes "&amp;") (omega arith) refl refl (λ rest is. rw is refl)

    less_than_gives : Gives (codes "&lt;") (codes "<")
    less_than_gives = named_gives 3 (codes "lt") (codes "<") (codes "&lt;") (omega arith) refl refl (λ rest is. rw is refl)

    greater_than_gives : Gives (codes "&gt;") (codes ">")
    greater_than_gives = named_gives 2 (codes "gt") (codes ">") (codes "&gt;") (omega arith) refl refl (λ rest is. rw is refl)

    double_quote_gives : Gives (codes "&quot;") (double_quote ∷ [])
    double_quote_gives = named_gives 5 (codes "quot") (double_quote ∷ []) (codes "&quot;") (omega arith) refl refl (λ rest is. rw is refl)

    -- what stands for a byte of a class
    reference_to_gives : (b : ℕ) → b < 128 → Gives (reference_to b) (kept_control_image b)
    reference_to_gives b small rest =
        ⊎_elim (λ (is : b ≡ ampersand). rw is (ampersand_gives rest)) (λ (not_ampersand : b ≢ ampersand).
        ⊎_elim (λ (is : b ≡ less_than). rw is (less_than_gives rest)) (λ (not_less : b ≢ less_than).
        ⊎_elim (λ (is : b ≡ greater_than). rw is (greater_than_gives rest)) (λ (not_greater : b ≢ greater_than).
        ⊎_elim (λ (is : b ≡ double_quote). rw is (double_quote_gives rest)) (λ (not_quote : b ≢ double_quote).
        rw (ne_eqb b ampersand not_ampersand, ne_eqb b less_than not_less, ne_eqb b greater_than not_greater, ne_eqb b double_quote not_quote) (hex_reference_gives b small rest))
        (cases_eq b double_quote)) (cases_eq b greater_than)) (cases_eq b less_than)) (cases_eq b ampersand)

    replaced_gives : (class : Class) (b : ℕ) → IsHtml class → in_class class b ≡ true → Gives (image class b) (kept_control_image b)
    replaced_gives class b html replaced rest = rw (image-replaced class b replaced) (reference_to_gives b (in_class_is_ascii class b html replaced) rest)

    kept_gives : (class : Class) (b : ℕ) → IsHtml class → in_class class b ≡ false → Gives (image class b) (b ∷ [])
    kept_gives class b html kept rest = grind (arith, nat_tests)

    image_gives : (class : Class) (b : ℕ) → IsHtml class → class ≢ UnquotedAttribute → Gives (image class b) (b ∷ [])
    image_gives class b html other =
        ⊎_elim
        (λ (replaced : in_class class b ≡ true). rw (in_class_is_free class b html other replaced) at (replaced_gives class b html replaced))
        (λ (kept : in_class class b ≡ false). kept_gives class b html kept)
        (cases_Bool (in_class class b))

    unquoted_image_gives : (b : ℕ) → Gives (image UnquotedAttribute b) (kept_control_image b)
    unquoted_image_gives b =
        ⊎_elim
        (λ (replaced : in_class UnquotedAttribute b ≡ true). replaced_gives UnquotedAttribute b refl replaced)
        (λ (kept : in_class UnquotedAttribute b ≡ false). rw (unquoted_kept_is_free b kept) (kept_gives UnquotedAttribute b refl kept))
        (cases_Bool (in_class UnquotedAttribute b))

    -- decoding undoes the other HTML encoders, whatever follows
    pub decoded-encoding : (class : Class) (text rest : List ℕ) → IsHtml class → class ≢ UnquotedAttribute → decoded rows (encoding class text ++ rest) ≡ text ++ decoded rows rest
    decoded-encoding class [] rest html other = refl
    decoded-encoding class (b ∷ text) rest html other =
        ap (λ written. decoded rows written) (append_assoc (image class b) (encoding class text) rest)
        ∙ (image_gives class b html other (encoding class text ++ rest) ∙ ap (λ later. b ∷ later) (decoded-encoding class text rest html other))

    -- and that of the unquoted encoder, but for the kept controls
    pub decoded-unquoted_encoding : (text rest : List ℕ) → decoded rows (encoding UnquotedAttribute text ++ rest) ≡ with_kept_controls text ++ decoded rows rest
    decoded-unquoted_encoding [] rest = refl
    decoded-unquoted_encoding (b ∷ text) rest =
        ap (λ written. decoded rows written) (append_assoc (image UnquotedAttribute b) (encoding UnquotedAttribute text) rest)
        ∙ (unquoted_image_gives b (encoding UnquotedAttribute text ++ rest) ∙ (ap (λ later. kept_control_image b ++ later) (decoded-unquoted_encoding text rest)
        ∙ sym (append_assoc (kept_control_image b) (with_kept_controls text) (decoded rows rest))))
