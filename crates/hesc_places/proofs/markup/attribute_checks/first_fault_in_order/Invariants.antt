use Rattle.std.proofs.Common.{ℕ, ◌≡◌, List, bytes_eq, drop, map, take}
use Rattle.std.specs.List.{list_any}
use Rattle.hesc_places.specs.Pages.FormFaults.{fault_from, first_fault}
use Rattle.hesc_places.specs.Pages.FormTexts.{written}
use Rattle.hesc_places.specs.Pages.StoodNames.{has}
use Rattle.hesc_places.proofs.markup.attribute_checks.first_fault_in_order.Given as goal

-- the names are those before the place, and nothing is wrong there
abbrev pub invariant-loop-place : goal.invariant-loop-place
invariant-loop-place g l = record {
  stood : (name : List ℕ) → has l.names.keys name ≡ list_any (bytes_eq name) (map (λ a. a.name) (map written (take l.place l.attributes)));
  none : fault_from (map (λ a. a.name) (map written (take l.place l.attributes))) l.place (map written (drop l.place l.attributes))
      ≡ first_fault (map written l.attributes);
}
