use Rattle.std.proofs.Common.{rules}
use Rattle.hesc_speed.proofs.slots.emptied.Goals as goal

pub returns : goal.returns
returns c = search rules
