use Rattle.std.proofs.Common.{refl}
use Rattle.hesc_sinks.proofs.found.Replacement.as_str.Goals as goal

pub returns-in-Small : goal.returns-in-Small
returns-in-Small c = cc

pub returns-in-Borrowed : goal.returns-in-Borrowed
returns-in-Borrowed c = rw c.in-Borrowed.is refl
