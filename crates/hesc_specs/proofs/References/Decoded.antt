-- Decoding by rows whose values are bounded by their references: so is the decoded text by its source, and nothing is left of an empty text alone.
-- Five times a value's length is at most the scale of its reference's length: five times it where no value is longer, more where one may be.
use Rattle.std.proofs.Common.{◌≡◌, ℕ, ◌+◌, ◌*◌, ◌≤◌, ◌<◌, Bool, true, false, not, ◌==◌, List, [], ◌∷◌, Option, Some, None, length, refl, ap, ◌∙◌, arith, length-append, if◌then◌else◌, encode_utf8}
use Rattle.std.specs.List.{list_all}
use Rattle.std.specs.Option.{option_and_then}
use Rattle.std.specs.Str.{bytes_eq}
use Rattle.std.proofs.lemmas.Bool.{and_parts}
use Rattle.std.proofs.lemmas.Bool.Decides.{nat_tests}
use Rattle.std.proofs.lemmas.Slice.Eq.{bytes_eq-Decides}
use Rattle.std.proofs.lemmas.Str.{length-encode, len_utf8_bounds}
use Rattle.hesc_specs.specs.Text.Ascii.{ampersand, semicolon}
use Rattle.hesc_specs.specs.References.Rows.{Row, are_short, is_short, value_of}
use Rattle.hesc_specs.specs.References.Decoding.{body_of, body_value, decoded, decoded_from, number_of, number_or_name, numbered_value, reference_value, replaced_or_kept}

-- a value of a reference with this body: it has a byte, and is bounded
pub record Bounded (scale : ℕ → ℕ) (body value : List ℕ) : Type 0 where
  pub some : 0 < length value
  pub few : 5 * length value ≤ scale (length body + 2)

number_of-long : (body : List ℕ) (n : ℕ) → number_of body ≡ Some n → 2 ≤ length body
number_of-long body n is = grind (arith, nat_tests)

module _ (scale : ℕ → ℕ) (adds : (a b : ℕ) → scale (a + b) ≡ scale a + scale b) (least : (n : ℕ) → 5 * n ≤ scale n)
    (test : Row → Bool) (row-bounded : (row : Row) → test row ≡ true → Bounded scale row.0 row.1) where
  scale-cons : (b : ℕ) (bytes : List ℕ) → scale (length (b ∷ bytes)) ≡ scale (length bytes) + scale 1
  scale-cons b bytes = let one : length (b ∷ bytes) ≡ length bytes + 1 = omega arith in ap scale one ∙ adds (length bytes) 1

  -- by whether the first row has the name
  first_row-bounded : (row : Row) (name : List ℕ) (later : Option (List ℕ)) (value : List ℕ) (same : Bool) → bytes_eq row.0 name ≡ same → test row ≡ true
      → (later ≡ Some value → Bounded scale name value) → (if same then Some row.1 else later) ≡ Some value → Bounded scale name value
  first_row-bounded row name later value same other passes after is = grind (arith, nat_tests, bytes_eq-Decides)

  named-bounded : (rows : List Row) (name value : List ℕ) → list_all test rows ≡ true → value_of rows name ≡ Some value → Bounded scale name value
  named-bounded [] name value all is = cc
  named-bounded (row ∷ rows) name value all is =
      let parts = and_parts (test row) (list_all test rows) all in
      first_row-bounded row name (value_of rows name) value (bytes_eq row.0 name) refl parts.0 (named-bounded rows name value parts.1) is

  numbered-bounded : (n : ℕ) (body value : List ℕ) → 2 ≤ length body → numbered_value n ≡ Some value → Bounded scale body value
  numbered-bounded n body value long is = grind (arith, nat_tests, not, encode_utf8, len_utf8_bounds, length-encode)

  value-bounded : (number : Option ℕ) (rows : List Row) (body value : List ℕ) → list_all test rows ≡ true → number_of body ≡ number
      → number_or_name number (value_of rows body) ≡ Some value → Bounded scale body value
  value-bounded None rows body value all is_number is = named-bounded rows body value all is
  value-bounded (Some n) rows body value all is_number is = numbered-bounded n body value (number_of-long body n is_number) is

  module _ (rows : List Row) (all : list_all test rows ≡ true) where
    -- of bytes outside of a replaced reference
    abbrev Outside : List ℕ → Type 0
    Outside bytes = 5 * length (decoded_from rows false bytes) ≤ scale (length bytes)

    -- of bytes that begin with the body of a replaced reference
    abbrev Inside : List ℕ → Type 0
    Inside bytes = (body : List ℕ) → body_of bytes ≡ Some body → 5 * length (decoded_from rows true bytes) + scale (length body + 1) ≤ scale (length bytes)

    -- a `&`, by the value of what it begins
    ampersand_step : (bytes : List ℕ) (body value : Option (List ℕ)) → Outside bytes → Inside bytes → body_of bytes ≡ body → option_and_then (body_value rows) body ≡ value
        → 5 * length (replaced_or_kept value (decoded_from rows false bytes) (decoded_from rows true bytes)) ≤ scale (length bytes) + scale 1
    ampersand_step bytes body None outside inside is_body is_value = omega (arith, least 1)
    ampersand_step bytes None (Some value) outside inside is_body is_value = absurd (cc)
    ampersand_step bytes (Some body) (Some value) outside inside is_body is_value =
        let few = (value-bounded (number_of body) rows body value all refl is_value).few in
        let two : length body + 2 ≡ (length body + 1) + 1 = omega arith in
        omega (arith, length-append value (decoded_from rows true bytes), inside body is_body, few, ap scale two, adds (length body + 1) 1)

    outside_step : (b : ℕ) (bytes : List ℕ) (is_ampersand : Bool) → (b == ampersand) ≡ is_ampersand → Outside bytes → Inside bytes → Outside (b ∷ bytes)
    outside_step b bytes true is outside inside =
        rw (is, scale-cons b bytes) (ampersand_step bytes (body_of bytes) (reference_value rows bytes) outside inside refl refl)
    outside_step b bytes false is outside inside = rw (is, scale-cons b bytes) (omega (arith, least 1))

    inside_step : (b : ℕ) (bytes : List ℕ) (is_semicolon is_ampersand : Bool) → (b == semicolon) ≡ is_semicolon → (b == ampersand) ≡ is_ampersand
        → Outside bytes → Inside bytes → Inside (b ∷ bytes)
    inside_step b bytes is_semicolon is_ampersand is_end is_start outside inside body is_body = grind (arith, nat_tests)

    both : (bytes : List ℕ) → Outside bytes × Inside bytes
    both [] = (omega arith, λ body is_body. absurd (cc))
    both (b ∷ bytes) =
        let later = both bytes in
        (outside_step b bytes (b == ampersand) refl later.0 later.1, inside_step b bytes (b == semicolon) (b == ampersand) refl refl later.0 later.1)

    -- a value has a byte
    some-value : (body value : Option (List ℕ)) (kept rest : List ℕ) → option_and_then (body_value rows) body ≡ value → replaced_or_kept value kept rest ≡ [] → ⊥
    some-value body None kept rest is_value is = cc
    some-value None (Some value) kept rest is_value is = absurd (cc)
    some-value (Some body) (Some value) kept rest is_value is =
        let some = (value-bounded (number_of body) rows body value all refl is_value).some in
        omega (arith, ap length is, length-append value rest)

    first-some : (b : ℕ) (bytes : List ℕ) (is_ampersand : Bool) → (b == ampersand) ≡ is_ampersand → decoded_from rows false (b ∷ bytes) ≡ [] → ⊥
    first-some b bytes true test_is is = some-value (body_of bytes) (reference_value rows bytes) (decoded_from rows false bytes) (decoded_from rows true bytes) refl (rw test_is at is)
    first-some b bytes false test_is is = let none : b ∷ decoded_from rows false bytes ≡ [] = rw test_is at is in cc

    empty : (text : List ℕ) → decoded rows text ≡ [] → text ≡ []
    empty [] is = refl
    empty (b ∷ text) is = absurd (first-some b text (b == ampersand) refl is)

    pub decoded-bounded : (text : List ℕ) → (5 * length (decoded rows text) ≤ scale (length text)) × (decoded rows text ≡ [] → text ≡ [])
    decoded-bounded text = ((both text).0, empty text)

-- rows of short values
row-short : (row : Row) → is_short row ≡ true → Bounded (λ n. 5 * n) row.0 row.1
row-short row is = record { some = grind (arith, nat_tests); few = grind (arith, nat_tests) }

module _ (rows : List Row) (short : are_short rows ≡ true) (text : List ℕ) where
  by_short_rows : (5 * length (decoded rows text) ≤ 5 * length text) × (decoded rows text ≡ [] → text ≡ [])
  by_short_rows = decoded-bounded (λ n. 5 * n) (λ a b. omega arith) (λ n. omega arith) is_short row-short rows short text

  pub decoded-shorter : length (decoded rows text) ≤ length text
  decoded-shorter = omega (arith, by_short_rows.0)

  pub decoded-empty : decoded rows text ≡ [] → text ≡ []
  decoded-empty = by_short_rows.1
