use Rattle.std.proofs.Common.{take}
use Rattle.hesc_sinks.specs.Stores.{Stored}
use Rattle.html_urls.specs.Components.{component}
use Rattle.html_urls.proofs.component.blocks.store_each.Given as goal

abbrev pub invariant-loop-b : goal.invariant-loop-b
invariant-loop-b l = record {
  stored : Stored l.fn.room l.room l.fn.place (component (take l.b-index l.bytes)) l.end;
}
