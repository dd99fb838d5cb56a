use Rattle.std.proofs.Common.{◌≡◌, ◌-◌, length, map}
use Rattle.hesc_places.specs.Pages.AttributeReadings.{attributes_at, entry}
use Rattle.hesc_places.proofs.Pages.AttributeTurns.{after_front}
use Rattle.hesc_places.proofs.markup.tag_reader.attributes_at.Given as goal

-- the attributes so far, and those that follow, are all
abbrev pub invariant-loop : goal.invariant-loop
invariant-loop g l = record {
  end : l.end ≡ length l.bytes;
  known : after_front (map (λ a. entry a.0.items a.1 a.2.items) l.attributes.items) (attributes_at (l.end - l.counter) l.rest)
      ≡ attributes_at (length l.bytes) l.bytes;
}
