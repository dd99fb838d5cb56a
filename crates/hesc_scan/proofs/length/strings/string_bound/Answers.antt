use Rattle.std.proofs.Common.{◌≡◌, ℕ, ◌+◌, ◌≤◌, List, [], Option, Some, None, length, IsUtf8, refl}
use Rattle.std.specs.List.{sum_by}
use Rattle.hesc_specs.specs.Text.Classes.{string_class}
use Rattle.hesc_specs.specs.Text.Escaped.{escaped}
use Rattle.hesc_specs.specs.declared.classes.Class.{Class}
use Rattle.hesc_specs.specs.declared.elements.Element.{Element}
use Rattle.hesc_specs.specs.declared.quotes.Quotes.{Quotes}
use Rattle.hesc_specs.proofs.Strings.Bound.{empty-string_encoding, added_length, length-string_encoding}
use Rattle.hesc_scan.proofs.Lengths.Bounds.{empty, enough}
use Rattle.hesc_scan.proofs.length.strings.string_bound.Goals as goal

some_string : (string : Option (Element × Quotes)) → (string ≡ None → ⊥) → (s : Element × Quotes) × (string ≡ Some s)
some_string None other = absurd (other refl)
some_string (Some s) other = (s, refl)

short : (class found : Class) → found ≡ class → (string_class class ≡ None → ⊥) → (text bytes : List ℕ) → bytes ≡ text → IsUtf8 text → length (escaped class text) ≤ length bytes + sum_by (added_length found) bytes
short class found same other text bytes is utf8 =
    let string = some_string (string_class class) other in
    rw (same, is, string.1) (length-string_encoding class string.0.0 string.0.1 string.1 text utf8)

nothing : (class found : Class) → found ≡ class → (string_class class ≡ None → ⊥) → (text bytes : List ℕ) → bytes ≡ text → IsUtf8 text → escaped class text ≡ [] → length bytes + sum_by (added_length found) bytes ≡ 0
nothing class found same other text bytes is utf8 none =
    let string = some_string (string_class class) other in
    rw (is, empty-string_encoding string.0.0 string.0.1 text utf8 (rw string.1 at none)) refl

pub returns-clause-enough : goal.returns-clause-enough
returns-clause-enough c =
    enough _ _ c.total_length.ensures.count _ (short c.args.class c.of.result.class c.of.ensures c.requires c.args.text.now _ c.as_bytes.ensures.value c.utf8.text)

pub returns-clause-empty : goal.returns-clause-empty
returns-clause-empty c =
    empty _ _ c.total_length.ensures.count _ (nothing c.args.class c.of.result.class c.of.ensures c.requires c.args.text.now _ c.as_bytes.ensures.value c.utf8.text)
