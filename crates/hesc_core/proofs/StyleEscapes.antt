-- The escapes in a style as rows of a table, where NUL has none.
use Rattle.std.proofs.Common.{◌≡◌, ℕ, ◌/◌, ◌%◌, ◌<◌, ◌==◌, cond, List, [], ◌∷◌, ne_eqb, refl, sym, ◌∙◌, arith}
use Rattle.hesc_specs.specs.Strings.Encoding.{is_mark, string_escape}
use Rattle.hesc_specs.specs.Text.Ascii.{backslash, space}
use Rattle.hesc_specs.specs.Text.HexDigits.{hex_digit}
use Rattle.hesc_specs.specs.declared.elements.Element.TheVariants.{Style}
use Rattle.hesc_sinks.specs.AsciiRows.{text_at}
use Rattle.hesc_core.specs.declared.rules.escape.escapes.TheConstants.{STYLE_ESCAPES}
use Rattle.hesc_core.proofs.AsciiTables.{row_is_text, row_of}

-- the escape, and nothing for NUL
abbrev but_nul : ℕ → List ℕ
but_nul b = cond (b == 0) [] (cond (is_mark b) (backslash ∷ b ∷ []) (backslash ∷ hex_digit (b / 16) ∷ hex_digit (b % 16) ∷ space ∷ []))

as_but_nul : (b : ℕ) → 0 < b → string_escape Style b ≡ but_nul b
as_but_nul b some = rw (ne_eqb b 0 (λ is. omega (arith, is, some))) refl

pub style_row_is_text : (b : ℕ) → b < 128 → 0 < b → text_at STYLE_ESCAPES b ≡ string_escape Style b
style_row_is_text b ascii some = row_is_text STYLE_ESCAPES but_nul refl b (row_of STYLE_ESCAPES b) ascii refl ∙ sym (as_but_nul b some)
