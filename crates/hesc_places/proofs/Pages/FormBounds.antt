-- How long the text of a form is at most, by what is written for its values and its string alone, and its gap.
use Rattle.std.proofs.Common.{ℕ, ◌+◌, ◌≤◌, List, [], ◌∷◌, flat_map, length, arith, length-append, suc, ◌≡◌, ◌-◌, Option, Some, None, map, refl, sym, ap, ◌∙◌}
use Rattle.html_escape.specs.Encoders.{encoded}
use Rattle.html_escape.specs.declared.encoder.Encoder.{Encoder}
use Rattle.html_escape.specs.declared.encoder.Encoder.TheVariants as encoder
use Rattle.hesc_places.specs.Pages.AttributeReadings.{Entry}
use Rattle.hesc_places.specs.Pages.FormTexts.{attribute_text, form_text, gap, gap_after, value_text, written}
use Rattle.hesc_places.specs.declared.markup.types.Quoting.{Quoting}
use Rattle.hesc_places.specs.declared.markup.types.Quoting.TheVariants.{Unquoted, Single, Double}
use Rattle.std.specs.List.{slice_get}
use Rattle.hesc_places.specs.declared.markup.types.Attribute.{Attribute}

most_value : (quoting : Quoting) (value : List ℕ) (most : ℕ) → ((e : Encoder) → length (encoded e value) ≤ most) → length (value_text quoting value) ≤ most + 2
most_value Unquoted value most short = omega (arith, short encoder.UnquotedAttribute)
most_value Single value most short = rw length-append (omega (arith, short encoder.SingleQuotedAttribute))
most_value Double value most short = rw length-append (omega (arith, short encoder.DoubleQuotedAttribute))

-- a space, the name, `=` and the value
pub most_attribute : (a : Entry) (most : ℕ) → ((e : Encoder) → length (encoded e a.value) ≤ most) → length (attribute_text a) ≤ most + 4 + length a.name
most_attribute a most short = rw length-append (omega (arith, most_value a.quoting a.value most short))

few_after : (quoting : Quoting) → length (gap_after quoting) ≤ 1
few_after Unquoted = omega arith
few_after Single = omega arith
few_after Double = omega arith

few_in_gap : (attributes : List Entry) → length (gap attributes) ≤ 1
few_in_gap [] = omega arith
few_in_gap (a ∷ []) = few_after a.quoting
few_in_gap (a ∷ b ∷ others) = few_in_gap (b ∷ others)

pub most_form : (attributes : List Entry) (script : List ℕ) (most : ℕ) → ((e : Encoder) → length (encoded e script) ≤ most) → length (form_text attributes script) ≤ most + 36 + length (flat_map attribute_text attributes)
most_form attributes script most short =
    rw (length-append, length-append, length-append, length-append, length-append) (omega (arith, short encoder.ScriptSingleQuoted, few_in_gap attributes))

-- ---- the gap of a form is that after its last attribute

-- the gap after an attribute, if there is one
abbrev gap_after_some : Option Attribute → List ℕ
gap_after_some None = []
gap_after_some (Some a) = gap_after a.quoting

last_gap : (attributes : List Attribute) → gap_after_some (slice_get attributes (length attributes - 1)) ≡ gap (map written attributes)
last_gap [] = refl
last_gap (a ∷ []) = refl
last_gap (a ∷ b ∷ others) =
    let one_less : length (a ∷ b ∷ others) - 1 ≡ suc (length (b ∷ others) - 1) = omega arith in
    rw one_less (last_gap (b ∷ others))

pub gap_of_none : (attributes : List Attribute) → slice_get attributes (length attributes - 1) ≡ None → [] ≡ gap (map written attributes)
gap_of_none attributes none = ap gap_after_some (sym none) ∙ last_gap attributes

pub gap_of_last : (attributes : List Attribute) (last : Attribute) → slice_get attributes (length attributes - 1) ≡ Some last →
    gap_after last.quoting ≡ gap (map written attributes)
gap_of_last attributes last some = ap gap_after_some (sym some) ∙ last_gap attributes
