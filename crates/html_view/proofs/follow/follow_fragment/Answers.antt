use Rattle.html_view.specs.Following.{ways_of}
use Rattle.html_view.specs.Kept.{asked_of}
use Rattle.html_view.specs.Nodes as node
use Rattle.html_view.proofs.Followed.{fragment_followed, when_ok}
use Rattle.html_view.proofs.follow.follow_fragment.Goals as goal

pub returns : goal.returns
returns g c =
    when_ok c.add.result
    (λ adds. adds (node.Fragment (asked_of c.args.slot)) (ways_of c.args.ways.now) (ways_of c.args.ways.now)
    (fragment_followed c.args.slot c.in_ok-named.named (ways_of c.args.ways.now) c.in_ok-named.ensures (c.are_first.ensures c.if-not-are_first.false)))
    c.add.ensures
