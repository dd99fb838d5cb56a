use Rattle.std.proofs.Common.{◌≤◌, ◌<◌, ◌-◌, length, take}
use Rattle.hesc_sinks.specs.Stores.{Stored}
use Rattle.html_urls.specs.Components.{component}
use Rattle.html_urls.proofs.component.blocks.store_block.Given as goal

abbrev pub invariant-storing : goal.invariant-storing
invariant-storing l = record {
  within : l.from ≤ length l.bytes;
  some : 0 < l.count;
  few : l.count ≤ 16;
  stored : Stored l.fn.room l.room l.place (component (take l.from l.bytes)) l.end;
}

abbrev pub decreases-storing : goal.decreases-storing
decreases-storing l = length l.bytes - l.from
