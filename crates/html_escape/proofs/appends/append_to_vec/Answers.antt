use Rattle.std.proofs.Common.{rules}
use Rattle.html_escape.proofs.appends.append_to_vec.Goals as goal

pub returns : goal.returns
returns g c = search rules
