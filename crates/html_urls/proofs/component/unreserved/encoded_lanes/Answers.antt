use Rattle.html_urls.proofs.Encoded.Lanes.{groups_mask}
use Rattle.html_urls.proofs.component.unreserved.encoded_lanes.Goals as goal

pub returns : goal.returns
returns c = groups_mask c.args.v c.shared_groups.result c.requires c.shared_groups.ensures
