-- The escapes of an encoded string, each judged by itself, and those of a class.
use Rattle.std.proofs.Common.{◌≡◌, ℕ, ◌+◌, ◌<◌, false, ◌==◌, List, [], Option, length, slice_index, refl, ◌∙◌, arith, inl, inr}
use Rattle.std.proofs.lemmas.Bool.Decides.{nat_tests}
use Rattle.std.proofs.lemmas.Bool.{cases_Bool, eqb-true}
use Rattle.hesc_specs.specs.Text.Ascii.{backslash}
use Rattle.hesc_specs.specs.Text.Classes.{string_class}
use Rattle.hesc_specs.specs.Text.Escaped.{unescape_changes, unescapes_at}
use Rattle.hesc_specs.specs.Text.FirstPlace.{IsFirstAt}
use Rattle.hesc_specs.specs.Strings.Changes.{string_decoding_changes, string_escapes_at}
use Rattle.hesc_specs.specs.declared.classes.Class.{Class}
use Rattle.hesc_specs.specs.declared.elements.Element.{Element}
use Rattle.hesc_specs.specs.declared.quotes.Quotes.{Quotes}
use Rattle.hesc_specs.proofs.Strings.DecodingChanges.{no-string_decoding_changes, passed-string_decoding_changes, reached-string_decoding_changes}
use Rattle.hesc_specs.proofs.Text.EachPlace.{skips}
use Rattle.hesc_specs.proofs.References.Places.{is_none}

module _ (element : Element) (quotes : Quotes) (source : List ℕ) where
  -- a `\` that begins no escape changes nothing
  pub step : (k : ℕ) → k < length source → string_escapes_at element quotes source k ≡ false → string_decoding_changes element quotes source k ≡ string_decoding_changes element quotes source (k + 1)
  step k within is = elim (cases_Bool (slice_index source k == backslash)) [
    | inl slash ↦ passed-string_decoding_changes element quotes source k within (eqb-true _ _ slash) (is_none _ (rw slash at is))
    | inr other ↦ reached-string_decoding_changes element quotes source k (k + 1) (omega arith) (omega (arith, within)) (λ j after below. let there : j ≡ k = omega (arith, after, below) in rw there other)
  ]

  none_left : (from : ℕ) → IsFirstAt (string_escapes_at element quotes source) from (length source) (length source) → string_decoding_changes element quotes source from ≡ []
  none_left from none =
      skips (string_escapes_at element quotes source) (string_decoding_changes element quotes source) (length source) step from (length source) none
      ∙ no-string_decoding_changes element quotes source (length source) (omega arith)

-- of a class, by what strings it is of
none_left_in : (class : Class) (strings : Option (Element × Quotes)) → string_class class ≡ strings → (source : List ℕ) (from : ℕ) → IsFirstAt (unescapes_at class source) from (length source) (length source) → unescape_changes class source from ≡ []
none_left_in class strings is source from none = grind (arith, nat_tests, none_left)

pub none_left_of : (class : Class) (source : List ℕ) (from : ℕ) → IsFirstAt (unescapes_at class source) from (length source) (length source) → unescape_changes class source from ≡ []
none_left_of class source from none = none_left_in class (string_class class) refl source from none
