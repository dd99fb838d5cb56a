use Rattle.std.proofs.Common.{rules}
use Rattle.html_escape.proofs.body_encoder.session.BodyEncoder.add_rest.Goals as goal

pub returns-clause-appended : goal.returns-clause-appended
returns-clause-appended g c = search rules

pub returns-clause-nothing : goal.returns-clause-nothing
returns-clause-nothing g c = c.first_of-self.ensures
