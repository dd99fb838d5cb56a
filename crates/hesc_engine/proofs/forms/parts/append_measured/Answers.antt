use Rattle.std.proofs.Common.{arith}
use Rattle.hesc_engine.proofs.forms.parts.append_measured.Goals as goal

pub new-sink-requires : goal.new-sink-requires
new-sink-requires g c = omega (arith, c.in_ok-reserve.ensures.ok, c.reserve.ensures.len)
