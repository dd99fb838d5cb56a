use Rattle.std.proofs.Common.{◌+◌, ◌-◌, ◌^◌, ◌<◌, ◌≤◌, flat_map, length, map}
use Rattle.hesc_places.specs.Pages.FormTexts.{attribute_text, written}
use Rattle.hesc_places.proofs.markup.form_text.most_attributes.Given as goal

-- the bound of those before the rest, and the texts of the rest, are enough for all
abbrev pub invariant-attributes : goal.invariant-attributes
invariant-attributes l =
    l.most < 2 ^ 64 - 1 → length (flat_map attribute_text (map written l.attributes)) ≤ l.most + length (flat_map attribute_text (map written l.rest))

abbrev pub decreases-attributes : goal.decreases-attributes
decreases-attributes l = length l.rest
