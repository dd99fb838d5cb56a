use Rattle.std.proofs.Common.{◌≡◌, length, map}
use Rattle.hesc_places.specs.Pages.AttributeReadings.{entry}
use Rattle.hesc_places.specs.Pages.FormReadings.{value_of}
use Rattle.hesc_places.proofs.markup.form_reader.Form.value_of.Given as goal

abbrev pub invariant-attributes : goal.invariant-attributes
invariant-attributes g l =
    value_of l.name (map (λ a. entry a.0.items a.1 a.2.items) l.rest)
    ≡ value_of l.name (map (λ a. entry a.0.items a.1 a.2.items) l.self.attributes.items)

abbrev pub decreases-attributes : goal.decreases-attributes
decreases-attributes g l = length l.rest
