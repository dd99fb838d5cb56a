use Rattle.std.proofs.Common.{◌≡◌, ◌≤◌, ◌-◌, length, map}
use Rattle.html_urls.specs.Slots.{after_slots, bare, slots_from, slots_of}
use Rattle.html_urls.proofs.slots.bare_slots.Given as goal

abbrev pub invariant-parts : goal.invariant-parts
invariant-parts g l = record {
  same : after_slots l.slots.items (slots_from (length l.parts - length l.rest) l.front.items l.open_part (map bare l.rest)) ≡ slots_of (map bare l.parts);
  shorter : length l.rest ≤ length l.parts;
}

abbrev pub decreases-parts : goal.decreases-parts
decreases-parts g l = length l.rest
