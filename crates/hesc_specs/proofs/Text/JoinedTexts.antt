-- The encoding of two texts that are joined.
use Rattle.std.proofs.Common.{ℕ, ◌≡◌, List, ◌++◌, flat_map, Option, IsUtf8, arith}
use Rattle.std.proofs.lemmas.Bool.Decides.{nat_tests}
use Rattle.std.proofs.lemmas.Grind.{flat_map-append}
use Rattle.std.proofs.lemmas.Str.{chars-append}
use Rattle.hesc_specs.specs.Text.Classes.{string_class}
use Rattle.hesc_specs.specs.Text.Escaped.{by_class, escaped}
use Rattle.hesc_specs.specs.Html.{encoding, image}
use Rattle.hesc_specs.specs.Strings.Encoding.{string_encoding}
use Rattle.hesc_specs.specs.declared.classes.Class.{Class}
use Rattle.hesc_specs.specs.declared.elements.Element.{Element}
use Rattle.hesc_specs.specs.declared.quotes.Quotes.{Quotes}

pub encoding-append : (class : Class) (a b : List ℕ) → encoding class (a ++ b) ≡ encoding class a ++ encoding class b
encoding-append class a b = flat_map-append (image class) a b

pub string_encoding-append : (element : Element) (quotes : Quotes) (a b : List ℕ) → IsUtf8 a → string_encoding element quotes (a ++ b) ≡ string_encoding element quotes a ++ string_encoding element quotes b
string_encoding-append element quotes a b text = grind (arith, nat_tests, flat_map, chars-append, flat_map-append)

by_class-append : (class : Class) (string : Option (Element × Quotes)) (a b : List ℕ) → IsUtf8 a
    → by_class string (encoding class) string_encoding (a ++ b) ≡ by_class string (encoding class) string_encoding a ++ by_class string (encoding class) string_encoding b
by_class-append class string a b text = grind (arith, nat_tests, encoding-append, string_encoding-append)

pub escaped-append : (class : Class) (a b : List ℕ) → IsUtf8 a → escaped class (a ++ b) ≡ escaped class a ++ escaped class b
escaped-append class a b text = by_class-append class (string_class class) a b text
