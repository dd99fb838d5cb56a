use Rattle.html_template.proofs.Joined.{joined_placed, joined_template}
use Rattle.html_template.proofs.laws.joined_law.Goals as goal

pub returns : goal.returns
returns c = record { template = joined_template; placed = joined_placed }
