use Rattle.std.proofs.lemmas.Str.{IsUtf8-had}
use Rattle.hesc_sinks.proofs.sinks.stack.StoreSink+StackRoom+N.as_str.Goals as goal

pub from_utf8_unchecked-requires : goal.from_utf8_unchecked-requires
from_utf8_unchecked-requires g c = rw c.args.self.now.holds (IsUtf8-had _ c.args.self.now.utf8)
