-- What escapes the mark of a string: the mark is a quote mark, and no kept character is the mark.
use Rattle.std.proofs.Common.{ℕ, ◌≡◌, ◌<◌, true, false, ◌==◌, arith}
use Rattle.std.proofs.lemmas.Bool.Decides.{nat_tests}
use Rattle.hesc_specs.specs.Text.Ascii.{backslash}
use Rattle.hesc_specs.specs.Strings.Encoding.{is_escaped, is_quote}
use Rattle.hesc_specs.specs.declared.elements.Element.{Element}
use Rattle.hesc_specs.specs.declared.quotes.Quotes.{Quotes}

pub mark_is_no_backslash : (quotes : Quotes) (mark : ℕ) → is_quote quotes mark ≡ true → (backslash == mark) ≡ false
mark_is_no_backslash quotes mark escapes = grind (arith, nat_tests)

-- a byte from 128 on is no quote mark
pub mark_is_ascii : (quotes : Quotes) (mark : ℕ) → is_quote quotes mark ≡ true → mark < 128
mark_is_ascii quotes mark escapes = grind (arith, nat_tests)

pub kept_is_no_mark : (element : Element) (quotes : Quotes) (mark c : ℕ) → is_quote quotes mark ≡ true →
    is_escaped element quotes c ≡ false → (c == mark) ≡ false
kept_is_no_mark element quotes mark c escapes kept = grind (arith, nat_tests)
