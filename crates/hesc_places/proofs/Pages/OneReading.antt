-- A form has one reading at most: where an attribute is read, the tag does not end.
use Rattle.std.proofs.Common.{ℕ, ◌≡◌, true, false, List, [], ◌∷◌, ◌==◌, Some, None, codes, refl, inl, inr, arith}
use Rattle.std.specs.Char.{is_ascii_lowercase}
use Rattle.std.specs.List.{prefix_len}
use Rattle.std.specs.Option.{option_or}
use Rattle.std.proofs.lemmas.Bool.{cases_Bool}
use Rattle.std.proofs.lemmas.Bool.Decides.{nat_tests}
use Rattle.hesc_specs.specs.Text.Ascii.{slash, greater_than}
use Rattle.hesc_places.specs.Pages.AttributeReadings.{Entry, attribute_at}
use Rattle.hesc_places.specs.Pages.FormReadings.{tag_end}
use Rattle.hesc_places.specs.Pages.Parsers.{past, past_while}
use Rattle.hesc_grammars.specs.Words.{is_white_space}

-- a letter is no end of a tag
letter_is_no_end : (bytes : List ℕ) → (prefix_len is_ascii_lowercase bytes == 0) ≡ false →
    option_or (past (codes "/>") bytes) (past (codes ">") bytes) ≡ None
letter_is_no_end [] letters = cc
letter_is_no_end (b ∷ bytes) letters =
    elim (cases_Bool (is_ascii_lowercase b)) [
      | inl letter ↦
          let no_slash : (b == slash) ≡ false = grind (arith, nat_tests) in
          let no_greater : (b == greater_than) ≡ false = grind (arith, nat_tests) in
          rw (no_slash, no_greater) refl
      | inr other ↦ let clash : true ≡ false = rw other at letters in cc
    ]

pub no_choice : (bytes : List ℕ) (found : Entry × List ℕ) → attribute_at bytes ≡ Some found → tag_end bytes ≡ None
unfolding attribute_at
no_choice bytes found is =
    elim (cases_Bool (prefix_len is_white_space bytes == 0)) [
      | inl no_space ↦ let clash : None ≡ Some found = rw no_space at is in cc
      | inr space ↦
          let rest : List ℕ = past_while is_white_space bytes in
          elim (cases_Bool (prefix_len is_ascii_lowercase rest == 0)) [
            | inl no_letter ↦ let clash : None ≡ Some found = rw (space, no_letter) at is in cc
            | inr letters ↦ letter_is_no_end rest letters
          ]
    ]
