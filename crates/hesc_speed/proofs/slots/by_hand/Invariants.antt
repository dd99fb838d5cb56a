use Rattle.std.proofs.Common.{◌≡◌, ◌<◌}
use Rattle.std.specs.String.{string_bytes}
use Rattle.html_template.specs.Templates.{texts_of}
use Rattle.hesc_speed.specs.Slots.{rows_of}
use Rattle.hesc_speed.proofs.slots.by_hand.Given as goal

abbrev pub invariant-loop : goal.invariant-loop
invariant-loop l = 0 < l.counter → string_bytes l.page ≡ rows_of (texts_of l.texts)
