use Rattle.std.proofs.Common.{◌≡◌, bytes_eq, length, map}
use Rattle.std.specs.List.{list_any}
use Rattle.hesc_places.specs.Pages.FormTexts.{written}
use Rattle.hesc_places.proofs.markup.attribute_checks.is_name_of_one.Given as goal

-- no attribute before the rest has the name
abbrev pub invariant-names : goal.invariant-names
invariant-names l =
    list_any (bytes_eq l.name) (map (λ a. a.name) (map written l.rest))
    ≡ list_any (bytes_eq l.name) (map (λ a. a.name) (map written l.attributes))

abbrev pub decreases-names : goal.decreases-names
decreases-names l = length l.rest
