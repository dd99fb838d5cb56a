use Rattle.std.proofs.Common.{◌≡◌, ◌+◌, flat_map, length, map}
use Rattle.hesc_places.specs.Pages.FormTexts.{attribute_text, written}
use Rattle.hesc_places.proofs.markup.form_length.attributes_length.Given as goal

-- what was counted, and the length of the texts of the rest, are the length of the texts of all
abbrev pub invariant-attributes : goal.invariant-attributes
invariant-attributes l =
    l.count + length (flat_map attribute_text (map written l.rest)) ≡ length (flat_map attribute_text (map written l.attributes))

abbrev pub decreases-attributes : goal.decreases-attributes
decreases-attributes l = length l.rest
