-- The changes of decoding, made, are the decoded text.
use Rattle.std.proofs.Common.{◌≡◌, ℕ, ◌+◌, ◌≤◌, List, [], ◌∷◌, ◌++◌, Bool, true, false, ◌==◌, Option, Some, length, drop, refl, ap, ◌∙◌, append_assoc, arith}
use Rattle.std.specs.Prelude.{slice_range}
use Rattle.std.specs.Option.{option_and_then}
use Rattle.std.proofs.lemmas.Bool.Decides.{nat_tests}
use Rattle.std.proofs.lemmas.List.Folds.{drop_split}
use Rattle.hesc_specs.specs.Text.Ascii.{ampersand, semicolon}
use Rattle.hesc_specs.specs.Text.Changes.{applied}
use Rattle.hesc_specs.specs.References.Rows.{Row}
use Rattle.hesc_specs.specs.References.Decoding.{body_of, body_value, replaced_or_kept, decoded, decoded_from}
use Rattle.hesc_specs.specs.References.Changes.{reference_changes, reference_changes_of, with_reference}
use Rattle.hesc_specs.proofs.Text.SliceRanges.{slice_range-more, drop-next}

module _ (rows : List Row) (source : List ℕ) where
  -- the changes of bytes that stand outside of a replaced reference, made from a place before them on
  abbrev Outside : ℕ → List ℕ → Type 0
  Outside at bytes = (from : ℕ) → from ≤ at → applied source from (reference_changes_of rows at bytes) ≡ slice_range source from at ++ decoded_from rows false bytes

  -- the changes of bytes that begin with the body of a replaced reference, made from its end on
  abbrev Inside : ℕ → List ℕ → Type 0
  Inside at bytes = (body : List ℕ) → body_of bytes ≡ Some body → applied source (at + 1 + length body) (reference_changes_of rows at bytes) ≡ decoded_from rows true bytes

  -- a byte that is kept
  kept : (from at b : ℕ) (bytes : List ℕ) → from ≤ at → drop at source ≡ b ∷ bytes → Outside (at + 1) bytes
      → applied source from (reference_changes_of rows (at + 1) bytes) ≡ slice_range source from at ++ b ∷ decoded_from rows false bytes
  kept from at b bytes ordered is later =
      later from (omega arith) ∙ rw (slice_range-more source from at b bytes ordered is) (append_assoc (slice_range source from at) (b ∷ []) (decoded_from rows false bytes))

  -- a `&`, by the value of what it begins
  ampersand_step : (from at : ℕ) (bytes : List ℕ) (body value : Option (List ℕ)) → from ≤ at → drop at source ≡ ampersand ∷ bytes
      → Outside (at + 1) bytes → Inside (at + 1) bytes → body_of bytes ≡ body → option_and_then (body_value rows) body ≡ value
      → applied source from (with_reference at body value (reference_changes_of rows (at + 1) bytes))
      ≡ slice_range source from at ++ replaced_or_kept value (decoded_from rows false bytes) (decoded_from rows true bytes)
  ampersand_step from at bytes body value ordered is outside inside is_body is_value = grind (arith, nat_tests, kept)

  outside_step : (at b : ℕ) (bytes : List ℕ) (is_ampersand : Bool) → (b == ampersand) ≡ is_ampersand → drop at source ≡ b ∷ bytes
      → Outside (at + 1) bytes → Inside (at + 1) bytes → Outside at (b ∷ bytes)
  outside_step at b bytes is_ampersand test is outside inside from ordered = grind (arith, nat_tests, ampersand_step, kept)

  inside_step : (at b : ℕ) (bytes : List ℕ) (is_semicolon is_ampersand : Bool) → (b == semicolon) ≡ is_semicolon → (b == ampersand) ≡ is_ampersand
      → Outside (at + 1) bytes → Inside (at + 1) bytes → Inside at (b ∷ bytes)
  inside_step at b bytes is_semicolon is_ampersand is_end is_start outside inside body is_body = grind (arith, nat_tests)

  both : (at : ℕ) (bytes : List ℕ) → drop at source ≡ bytes → Outside at bytes × Inside at bytes
  both at [] is = (λ from ordered. drop_split source from at ordered ∙ ap (λ rest. slice_range source from at ++ rest) is, λ body is_body. absurd (cc))
  both at (b ∷ bytes) is =
      let later = both (at + 1) bytes (drop-next source at b bytes is) in
      (outside_step at b bytes (b == ampersand) refl is later.0 later.1, inside_step at b bytes (b == semicolon) (b == ampersand) refl refl later.0 later.1)

  pub applied-reference_changes : applied source 0 (reference_changes rows source 0) ≡ decoded rows source
  applied-reference_changes = (both 0 source refl).0 0 (omega arith)
