use Rattle.std.proofs.Common.{rules}
use Rattle.html_escape.proofs.Sessions.{begun}
use Rattle.html_escape.proofs.body_encoder.session.BodyEncoder.new.Goals as goal

pub returns-clause-nothing : goal.returns-clause-nothing
returns-clause-nothing c = search rules

pub returns-clause-begun : goal.returns-clause-begun
returns-clause-begun c = search (rules, begun)
