use Rattle.html_urls.proofs.Encoded.Picks.{first_lanes, last_lanes}
use Rattle.html_urls.proofs.component.lanes.eights_of.Goals as goal

pub returns-clause-first : goal.returns-clause-first
returns-clause-first c = first_lanes c.args.v c.shared_groups.result c.digits_of.result.0 c.digits_of.result.1 c.requires c.shared_groups.ensures c.digits_of.ensures.high c.digits_of.ensures.low

pub returns-clause-last : goal.returns-clause-last
returns-clause-last c = last_lanes c.args.v c.shared_groups.result c.digits_of.result.0 c.digits_of.result.1 c.requires c.shared_groups.ensures c.digits_of.ensures.high c.digits_of.ensures.low
