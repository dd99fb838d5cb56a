use Rattle.std.proofs.Common.{rules}
use Rattle.html_escape.proofs.body_encoder.carry.Carry.as_slice.Goals as goal

pub returns : goal.returns
returns c = search rules
