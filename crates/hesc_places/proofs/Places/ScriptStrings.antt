-- JavaScript string literals: the encoding that escapes the mark is read up to the mark.
use Rattle.std.proofs.Common.{ℕ, ◌≡◌, ◌≢◌, ◌<◌, ◌+◌, ◌/◌, false, true, List, [], ◌∷◌, ◌++◌, ◌==◌, Some, IsUtf8, length, refl, arith, eq-eqb, ne_eqb}
use Rattle.std.proofs.Math.Nat.{div-div-eq-div-mul}
use Rattle.std.proofs.lemmas.Bool.Decides.{nat_tests}
use Rattle.hesc_specs.specs.Text.Ascii.{backslash, line_feed, carriage_return}
use Rattle.hesc_specs.specs.Strings.Encoding.{is_escaped, is_quote, line_separator, paragraph_separator, string_encoding}
use Rattle.hesc_specs.specs.Text.Words.{begins}
use Rattle.hesc_specs.specs.declared.elements.Element.TheVariants.{Script}
use Rattle.hesc_specs.specs.declared.quotes.Quotes.{Quotes}
use Rattle.hesc_grammars.specs.declared.step.Mode.TheVariants.{Plain}
use Rattle.hesc_grammars.specs.declared.step.Step.TheVariants.{Byte}
use Rattle.hesc_grammars.specs.Reading.{reading_after}
use Rattle.hesc_grammars.specs.ScriptStrings.{script_string_step}
use Rattle.hesc_grammars.proofs.EncodedStrings.{ReadsKept, script_encoding_reads}
use Rattle.hesc_grammars.proofs.EscapedMarks.{mark_is_no_backslash, mark_is_ascii, kept_is_no_mark}
use Rattle.hesc_grammars.proofs.KeptCharacters.{KeepsHigh, next_byte, takes_kept}
use Rattle.hesc_grammars.proofs.Takes.{Takes, takes_nothing, takes_both, takes_character, takes_to_end}

-- the bytes of U+2028 and U+2029 are those of no other character of three bytes
no_separator : (c d : ℕ) (rest : List ℕ) → c ≢ 0x2000 + d → d < 64 →
    begins (0xE2 ∷ 0x80 ∷ (128 + d) ∷ []) ((224 + c / 4096) ∷ next_byte (c / 64) ∷ next_byte c ∷ rest) ≡ false
no_separator c d rest other small =
    let halves : (c / 64) / 64 ≡ c / 4096 = div-div-eq-div-mul c 64 64 in
    grind (arith, nat_tests, halves)

script_keeps_high : (mark c : ℕ) → mark < 128 → c ≢ line_separator → c ≢ paragraph_separator →
    KeepsHigh (script_string_step mark) c
unfolding script_string_step
script_keeps_high mark c ascii no_line no_paragraph = record {
  others = λ b high other rest.
      rw (
        ne_eqb b mark (omega arith),
        ne_eqb b backslash (omega arith),
        ne_eqb b line_feed (omega arith),
        ne_eqb b carriage_return (omega arith),
        ne_eqb b 0xE2 other,
      ) refl;
  first_of_three = λ rest.
      rw (
        ne_eqb (224 + c / 4096) mark (omega arith),
        ne_eqb (224 + c / 4096) backslash (omega arith),
        ne_eqb (224 + c / 4096) line_feed (omega arith),
        ne_eqb (224 + c / 4096) carriage_return (omega arith),
        no_separator c 40 rest no_line (omega arith),
        no_separator c 41 rest no_paragraph (omega arith),
      ) refl;
}

module _ (quotes : Quotes) (mark : ℕ) (quote : is_quote quotes mark ≡ true) where
  kept_ascii : (c : ℕ) → is_escaped Script quotes c ≡ false → c < 128 → (rest : List ℕ) → script_string_step mark Plain (c ∷ rest) ≡ Byte 0 c Plain
  unfolding script_string_step
  kept_ascii c kept small rest =
      let no_backslash : (c == backslash) ≡ false = grind (arith, nat_tests) in
      let no_line_feed : (c == line_feed) ≡ false = grind (arith, nat_tests) in
      let no_carriage_return : (c == carriage_return) ≡ false = grind (arith, nat_tests) in
      rw (kept_is_no_mark Script quotes mark c quote kept, no_backslash, no_line_feed, no_carriage_return, ne_eqb c 0xE2 (omega arith)) refl

  script_keeps : ReadsKept Script quotes (λ piece value. Takes (script_string_step mark) Plain piece value Plain)
  script_keeps = record {
    none = takes_nothing;
    both = λ p v q w. takes_both;
    kept = λ c kept.
        let no_line : c ≢ line_separator = grind (arith, nat_tests) in
        let no_paragraph : c ≢ paragraph_separator = grind (arith, nat_tests) in
        takes_kept c (script_keeps_high mark c (mark_is_ascii quotes mark quote) no_line no_paragraph) (kept_ascii c kept);
  }

  -- a text after the opening mark is read as itself, up to the mark
  pub script_string_reading : (text rest : List ℕ) → IsUtf8 text →
      reading_after (script_string_step mark) 0 Plain (string_encoding Script quotes text ++ (mark ∷ rest)) ≡
      Some (text, length (string_encoding Script quotes text))
  unfolding script_string_step
  script_string_reading text rest utf8 =
      takes_to_end {b = Plain} (mark ∷ rest)
      (script_encoding_reads script_keeps (λ c word found. takes_character c (λ more. rw (mark_is_no_backslash quotes mark quote) (found more))) text utf8)
      (rw (eq-eqb mark mark refl) refl)
