use Rattle.std.proofs.Common.{rules}
use Rattle.html_escape.proofs.body_encoder.partial.is_partial.Goals as goal

pub returns-in_default : goal.returns-in_default
returns-in_default c = search rules
