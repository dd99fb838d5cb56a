use Rattle.html_escape.proofs.DecidedPlaces.{none_left}
use Rattle.html_escape.proofs.body_encoder.decided.EncodeDecidedRule.seeks.Goals as goal

pub returns-clause-ends : goal.returns-clause-ends
returns-clause-ends c source text from boundary none = none_left c.args.self.now.0 source from none
