use Rattle.html_json.proofs.Lengths.{no_less}
use Rattle.html_json.proofs.laws.no_less_law.Goals as goal

pub returns : goal.returns
returns c = no_less c.args.text.now
