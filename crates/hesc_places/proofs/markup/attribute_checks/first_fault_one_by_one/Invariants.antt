use Rattle.std.proofs.Common.{◌≡◌, drop, map, take}
use Rattle.hesc_places.specs.Pages.FormFaults.{fault_from, first_fault}
use Rattle.hesc_places.specs.Pages.FormTexts.{written}
use Rattle.hesc_places.proofs.markup.attribute_checks.first_fault_one_by_one.Given as goal

-- nothing is wrong before the place
abbrev pub invariant-loop-place : goal.invariant-loop-place
invariant-loop-place l =
    fault_from (map (λ a. a.name) (map written (take l.place l.attributes))) l.place (map written (drop l.place l.attributes))
    ≡ first_fault (map written l.attributes)
