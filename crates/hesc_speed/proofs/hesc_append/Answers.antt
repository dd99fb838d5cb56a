use Rattle.std.proofs.Common.{rules}
use Rattle.hesc_speed.proofs.hesc_append.Goals as goal

pub loop-init : goal.loop-init
loop-init c = search rules
