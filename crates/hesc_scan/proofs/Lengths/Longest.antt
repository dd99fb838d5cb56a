-- How long an encoding is at most, by the length of its text.
use Rattle.std.proofs.Common.{◌≡◌, ℕ, ◌*◌, ◌≤◌, ◌<◌, List, [], Option, Some, None, length, IfSome, IsUtf8, refl, sym, ap, ◌∙◌, arith}
use Rattle.std.proofs.lemmas.Bool.Decides.{nat_tests}
use Rattle.std.specs.Prelude.{SomeIff}
use Rattle.std.specs.Simd.Lanes.{Each1}
use Rattle.hesc_specs.specs.Html.{encoding}
use Rattle.hesc_specs.specs.Strings.Encoding.{string_encoding}
use Rattle.hesc_specs.specs.Text.Classes.{string_class}
use Rattle.hesc_specs.specs.Text.Escaped.{by_class, escaped}
use Rattle.hesc_specs.specs.declared.classes.Class.{Class}
use Rattle.hesc_specs.specs.declared.elements.Element.{Element}
use Rattle.hesc_specs.specs.declared.quotes.Quotes.{Quotes}
use Rattle.hesc_specs.proofs.Strings.Bound.{empty-string_encoding, length-string_encoding}
use Rattle.hesc_scan.proofs.Lengths.HtmlSums.{added_length, few_added, length-encoding}
use Rattle.hesc_scan.proofs.Lengths.StringSums.{few_added as few_in_string}
use Rattle.hesc_specs.proofs.Strings.Bound.{added_length as added_in_string}
use Rattle.hesc_scan.proofs.LaneMaps.{few_in_all}

-- a product that was checked
pub product : (r : Option ℕ) (P : Type 0) (n : ℕ) → SomeIff r P n → IfSome r (λ count. count ≡ n)
product r P n checked = grind (arith, nat_tests)

longest_html : (class : Class) → string_class class ≡ None → (text : List ℕ) → Each1 (λ b. b < 256) text → length (encoding class text) ≤ length text * 6
longest_html class html text below = grind (arith, nat_tests, length-encoding, few_in_all, added_length, few_added)

longest_string : (class : Class) (element : Element) (quotes : Quotes) → string_class class ≡ Some (element, quotes) → (text : List ℕ) → IsUtf8 text → Each1 (λ b. b < 256) text
    → length (string_encoding element quotes text) ≤ length text * 6
longest_string class element quotes is text utf8 below =
    omega (arith, length-string_encoding class element quotes is text utf8, few_in_all (added_in_string class) text (few_in_string class (λ none. cc (sym is ∙ none))) below)

longest_by : (class : Class) (string : Option (Element × Quotes)) → string_class class ≡ string → (text : List ℕ) → IsUtf8 text → Each1 (λ b. b < 256) text
    → length (by_class string (encoding class) string_encoding text) ≤ length text * 6
longest_by class None is text utf8 below = longest_html class is text below
longest_by class (Some s) is text utf8 below = longest_string class s.0 s.1 is text utf8 below

pub longest : (class : Class) (text : List ℕ) → IsUtf8 text → Each1 (λ b. b < 256) text → length (escaped class text) ≤ length text * 6
longest class text utf8 below = longest_by class (string_class class) refl text utf8 below

empty_by : (class : Class) (string : Option (Element × Quotes)) → (text : List ℕ) → IsUtf8 text → by_class string (encoding class) string_encoding text ≡ [] → length text ≡ 0
empty_by class None text utf8 none = omega (arith, length-encoding class text, ap length none)
empty_by class (Some s) text utf8 none = ap length (empty-string_encoding s.0 s.1 text utf8 none)

pub empty_escaped : (class : Class) (text : List ℕ) → IsUtf8 text → escaped class text ≡ [] → length text ≡ 0
empty_escaped class text utf8 none = empty_by class (string_class class) text utf8 none
