-- The changes of the encoder of a class, made, are what it writes.
use Rattle.std.proofs.Common.{◌≡◌, ℕ, List, Option, Some, None, IsUtf8, ap, arith}
use Rattle.std.proofs.lemmas.Bool.Decides.{nat_tests}
use Rattle.hesc_specs.specs.Text.Changes.{applied, html_changes}
use Rattle.hesc_specs.specs.Text.Classes.{element_in, element_of, string_class}
use Rattle.hesc_specs.specs.Text.Escaped.{by_class, escape_changes, escaped}
use Rattle.hesc_specs.specs.Html.{encoding}
use Rattle.hesc_specs.specs.Strings.Changes.{string_encoding_changes}
use Rattle.hesc_specs.specs.Strings.Encoding.{string_encoding}
use Rattle.hesc_specs.specs.declared.classes.Class.{Class}
use Rattle.hesc_specs.specs.declared.elements.Element.{Element}
use Rattle.hesc_specs.specs.declared.quotes.Quotes.{Quotes}
use Rattle.hesc_specs.proofs.Html.Changes.{applied-html_changes}
use Rattle.hesc_specs.proofs.Strings.EncodingChanges.{applied-string_encoding_changes}

applied-by_class : (class : Class) (string : Option (Element × Quotes)) (source : List ℕ) → IsUtf8 source
    → applied source 0 (by_class string (html_changes class) string_encoding_changes source 0) ≡ by_class string (encoding class) string_encoding source
applied-by_class class string source text = grind (arith, nat_tests, applied-html_changes, applied-string_encoding_changes)

pub applied-escape_changes : (class : Class) (source : List ℕ) → IsUtf8 source → applied source 0 (escape_changes class source 0) ≡ escaped class source
applied-escape_changes class source text = applied-by_class class (string_class class) source text

element_in-some : (string : Option (Element × Quotes)) (element : Element) → element_in string ≡ Some element → (quotes : Quotes) × (string ≡ Some (element, quotes))
element_in-some None element is = cc
element_in-some (Some string) element is = let same : string.0 ≡ element = cc in (string.1, ap (λ (e : Element). Some (e, string.1)) same)

pub element_of-some : (class : Class) (element : Element) → element_of class ≡ Some element → (quotes : Quotes) × (string_class class ≡ Some (element, quotes))
element_of-some class element is = element_in-some (string_class class) element is
