use Rattle.html_view.proofs.Followed.{added}
use Rattle.html_view.proofs.follow.add.Goals as goal

pub returns : goal.returns
returns g c = added c.args.placed.now.items c.push.new.self.items c.args.node c.in-Ok.ensures.items
