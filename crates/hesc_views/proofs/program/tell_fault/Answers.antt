use Rattle.std.proofs.Common.{inl}
use Rattle.hesc_views.proofs.program.tell_fault.Goals as goal

pub returns-in-Ok : goal.returns-in-Ok
returns-in-Ok g c = inl (rw (c.as_str.ensures.value, c.in-Ok.ensures) at c.tell.ensures)
