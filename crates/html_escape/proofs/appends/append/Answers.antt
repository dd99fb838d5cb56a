use Rattle.std.proofs.Common.{rules}
use Rattle.html_escape.proofs.appends.append.Goals as goal

pub returns : goal.returns
returns g c = search rules
