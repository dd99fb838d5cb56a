use Rattle.html_json.proofs.SameValue.{same_value}
use Rattle.html_json.proofs.laws.same_value_law.Goals as goal

pub returns : goal.returns
returns c = same_value c.args.text.now
