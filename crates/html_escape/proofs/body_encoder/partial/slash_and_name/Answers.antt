use Rattle.std.proofs.Common.{rules}
use Rattle.html_escape.proofs.body_encoder.partial.slash_and_name.Goals as goal

pub returns-in-Script : goal.returns-in-Script
returns-in-Script c = search rules
