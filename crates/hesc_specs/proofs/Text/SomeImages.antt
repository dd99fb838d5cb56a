-- No encoder writes nothing for a byte or a character.
use Rattle.std.proofs.Common.{ℕ, ◌≤◌, Bool, List, length, if◌then◌else◌, arith}
use Rattle.std.proofs.lemmas.Bool.Decides.{nat_tests}
use Rattle.std.proofs.lemmas.Str.{len_utf8_bounds, length-encode}
use Rattle.hesc_specs.specs.Html.{image}
use Rattle.hesc_specs.specs.Strings.Encoding.{string_escape, string_image}
use Rattle.hesc_specs.specs.declared.classes.Class.{Class}
use Rattle.hesc_specs.specs.declared.elements.Element.{Element}
use Rattle.hesc_specs.specs.declared.quotes.Quotes.{Quotes}

either : (test : Bool) (x y : List ℕ) → 1 ≤ length x → 1 ≤ length y → 1 ≤ length (if test then x else y)
either test x y some_x some_y = grind (arith, nat_tests)

pub some-image : (class : Class) (b : ℕ) → 1 ≤ length (image class b)
some-image class b = grind (arith, nat_tests, either)

some-escape : (element : Element) (c : ℕ) → 1 ≤ length (string_escape element c)
some-escape element c = grind (arith, nat_tests, either, length-encode, len_utf8_bounds)

pub some-string_image : (element : Element) (quotes : Quotes) (c : ℕ) → 1 ≤ length (string_image element quotes c)
some-string_image element quotes c = grind (arith, nat_tests, either, some-escape, length-encode, len_utf8_bounds)
