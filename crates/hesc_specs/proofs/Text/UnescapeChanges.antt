-- The changes of a class's decoder, made, are what it reads.
use Rattle.std.proofs.Common.{◌≡◌, List, [], ℕ, Option, arith}
use Rattle.std.proofs.lemmas.Bool.Decides.{nat_tests}
use Rattle.hesc_specs.specs.Text.Changes.{applied}
use Rattle.hesc_specs.specs.Text.Classes.{string_class}
use Rattle.hesc_specs.specs.Text.Escaped.{by_class, unescaped, unescape_changes}
use Rattle.hesc_specs.specs.Strings.Changes.{string_decoding_changes}
use Rattle.hesc_specs.specs.Strings.Tokens.{string_decoding}
use Rattle.hesc_specs.specs.declared.classes.Class.{Class}
use Rattle.hesc_specs.specs.declared.elements.Element.{Element}
use Rattle.hesc_specs.specs.declared.quotes.Quotes.{Quotes}
use Rattle.hesc_specs.proofs.Strings.DecodingChanges.{applied-string_decoding_changes}

applied-by_class : (string : Option (Element × Quotes)) (source : List ℕ)
    → applied source 0 (by_class string (λ source from. []) string_decoding_changes source 0) ≡ by_class string (λ text. text) string_decoding source
applied-by_class string source = grind (arith, nat_tests, applied-string_decoding_changes)

pub applied-unescape_changes : (class : Class) (source : List ℕ) → applied source 0 (unescape_changes class source 0) ≡ unescaped class source
applied-unescape_changes class source = applied-by_class (string_class class) source
