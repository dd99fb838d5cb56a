use Rattle.std.proofs.Common.{◌<◌}
use Rattle.std.specs.String.{string_bytes}
use Rattle.html_template.specs.Structure.{IsPageOf}
use Rattle.html_template.specs.Templates.{texts_of}
use Rattle.hesc_speed.specs.Slots.{twenty_slots}
use Rattle.hesc_speed.proofs.slots.by_template.Given as goal

abbrev pub invariant-loop : goal.invariant-loop
invariant-loop l = 0 < l.counter → IsPageOf twenty_slots (texts_of l.texts) (string_bytes l.page)
