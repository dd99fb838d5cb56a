use Rattle.std.proofs.Common.{◌≡◌, ◌++◌, flat_map, length, map}
use Rattle.hesc_places.specs.Pages.AttributeReadings.{entry}
use Rattle.hesc_tool.specs.Lines.{attribute_line}
use Rattle.hesc_tool.proofs.lines.push_attributes.Given as goal

-- what stands in the output, and the lines of the rest, are the lines of all
abbrev pub invariant-attributes : goal.invariant-attributes
invariant-attributes g l =
    l.output.items ++ flat_map attribute_line (map (λ a. entry a.0.items a.1 a.2.items) l.rest)
    ≡ l.initial.output.items ++ flat_map attribute_line (map (λ a. entry a.0.items a.1 a.2.items) l.attributes)

abbrev pub decreases-attributes : goal.decreases-attributes
decreases-attributes g l = length l.rest
