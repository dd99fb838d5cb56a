-- The elements as constants: each with its place among the variants.
use Rattle.std.proofs.Common.{[], lit<, refl}
use Rattle.hesc_specs.specs.contracts.elements.Element.{the_row}
use Rattle.hesc_specs.specs.declared.elements.Element.TheVariants as element
use Rattle.hesc_specs.proofs.elements.Element.TheLaws.{the_row_plain}
use Rattle.hesc_core.proofs.HandsOnConstant.{Constant, Enum}

abbrev pub elements : Enum
elements = record { P = the_row; facts_only = the_row_plain; last = λ x. tt; only = λ x l. refl }

abbrev pub script : Constant elements
script = record { value = element.Script; tag = 0; small = tt; is = ([], (refl, (tt, (refl, tt)))); typed = (tt, (record { fits = lit< tt }, tt)) }

abbrev pub style : Constant elements
style = record { value = element.Style; tag = 1; small = tt; is = ([], (refl, (tt, (refl, tt)))); typed = (tt, (record { fits = lit< tt }, tt)) }
