use Rattle.std.proofs.Common.{◌≡◌, ◌&&◌, drop, map}
use Rattle.hesc_places.specs.Pages.AttributeReadings.{differ, entry}
use Rattle.hesc_places.proofs.Pages.StoodNames.{are_new}
use Rattle.hesc_places.proofs.markup.tag_reader.differ.Given as goal

-- the names that follow are new and differ exactly where all names differ
abbrev pub invariant-loop-name : goal.invariant-loop-name
invariant-loop-name g l =
    (are_new l.names.keys (map (λ a. a.name) (map (λ a. entry a.0.items a.1 a.2.items) (drop l.name-index l.attributes)))
    && differ (map (λ a. a.name) (map (λ a. entry a.0.items a.1 a.2.items) (drop l.name-index l.attributes))))
    ≡ differ (map (λ a. a.name) (map (λ a. entry a.0.items a.1 a.2.items) l.attributes))
