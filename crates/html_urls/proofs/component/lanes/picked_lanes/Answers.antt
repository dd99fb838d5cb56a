use Rattle.html_urls.proofs.Encoded.Picks.{looked_up_picks, picks_ok}
use Rattle.html_urls.proofs.component.lanes.picked_lanes.Goals as goal

pub swizzle : goal.swizzle
swizzle c = picks_ok c.args.picks c.requires.row c.requires.picks

pub returns : goal.returns
returns c = looked_up_picks c.args.lanes c.args.picks c.requires.long c.requires.row
