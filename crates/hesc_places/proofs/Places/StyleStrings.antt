-- CSS strings: the encoding that escapes the mark is read up to the mark, with U+FFFD for NUL.
use Rattle.std.proofs.Common.{ℕ, ◌≡◌, ◌≤◌, ◌+◌, ◌/◌, true, false, List, [], ◌∷◌, ◌++◌, ◌==◌, Some, IsUtf8, length, refl, arith, eq-eqb, ne_eqb}
use Rattle.std.specs.Str.Parse.{digits_value}
use Rattle.std.proofs.lemmas.Bool.Decides.{nat_tests}
use Rattle.hesc_specs.specs.Text.Ascii.{backslash}
use Rattle.hesc_specs.specs.Text.Nul.{nul}
use Rattle.hesc_specs.specs.Strings.Encoding.{is_quote, string_encoding}
use Rattle.hesc_specs.specs.declared.elements.Element.TheVariants.{Style}
use Rattle.hesc_specs.specs.declared.quotes.Quotes.{Quotes}
use Rattle.hesc_grammars.specs.declared.step.Mode.TheVariants.{Plain}
use Rattle.hesc_grammars.specs.declared.step.Step.TheVariants.{Byte}
use Rattle.hesc_grammars.specs.Reading.{reading_after}
use Rattle.hesc_grammars.specs.StyleStrings.{escaped_character, is_newline_or_nul, style_string_step}
use Rattle.hesc_grammars.proofs.EncodedStrings.{ReadsKept, style_encoding_reads}
use Rattle.hesc_grammars.proofs.EscapedMarks.{mark_is_no_backslash, mark_is_ascii, kept_is_no_mark}
use Rattle.hesc_grammars.proofs.KeptCharacters.{next_byte, takes_kept}
use Rattle.hesc_grammars.proofs.Takes.{Takes, takes_nothing, takes_both, takes_character, takes_to_end, takes_two}

module _ (quotes : Quotes) (mark : ℕ) (quote : is_quote quotes mark ≡ true) where
  plain_byte : (b : ℕ) → (b == mark) ≡ false → (b == backslash) ≡ false → is_newline_or_nul b ≡ false →
      (rest : List ℕ) → style_string_step mark Plain (b ∷ rest) ≡ Byte 0 b Plain
  unfolding style_string_step
  plain_byte b no_mark no_backslash no_newline rest = rw (no_mark, no_backslash, no_newline) refl

  high_byte : (b : ℕ) → 128 ≤ b → (rest : List ℕ) → style_string_step mark Plain (b ∷ rest) ≡ Byte 0 b Plain
  high_byte b high rest =
      let ascii = mark_is_ascii quotes mark quote in
      plain_byte b (ne_eqb b mark (omega arith)) (ne_eqb b backslash (omega arith)) (grind (arith, nat_tests)) rest

  style_keeps : ReadsKept Style quotes (λ piece value. Takes (style_string_step mark) Plain piece value Plain)
  style_keeps = record {
    none = takes_nothing;
    both = λ p v q w. takes_both;
    kept = λ c kept. takes_kept c (record {
      others = λ b high other rest. high_byte b high rest;
      first_of_three = λ rest. high_byte (224 + c / 4096) (omega arith) (next_byte (c / 64) ∷ next_byte c ∷ rest);
    }) (λ small rest. plain_byte c (kept_is_no_mark Style quotes mark c quote kept) (grind (arith, nat_tests)) (grind (arith, nat_tests)) rest);
  }

  -- a text after the opening mark is read as itself, with U+FFFD for NUL, up to the mark
  pub style_string_reading : (text rest : List ℕ) → IsUtf8 text →
      reading_after (style_string_step mark) 0 Plain (string_encoding Style quotes text ++ (mark ∷ rest)) ≡
      Some (nul text, length (string_encoding Style quotes text))
  unfolding style_string_step
  style_string_reading text rest utf8 =
      takes_to_end {b = Plain} (mark ∷ rest)
      (style_encoding_reads style_keeps
      (λ b no_digit no_newline no_less. takes_two (λ more. rw (mark_is_no_backslash quotes mark quote, no_digit, no_newline) refl))
      (λ d e first second. takes_character (escaped_character (digits_value 16 (d ∷ e ∷ [])))
      (λ more. rw (mark_is_no_backslash quotes mark quote, first, second) refl)) text utf8)
      (rw (eq-eqb mark mark refl) refl)
