use Rattle.html_view.specs.Following.{ways_of}
use Rattle.html_view.specs.Kept.{opening_of}
use Rattle.html_view.specs.Nodes as node
use Rattle.html_view.specs.Nodes.{written_opening}
use Rattle.html_view.specs.declared.placed.Opened.{Opened}
use Rattle.html_view.proofs.Followed.{section_followed, when_ok}
use Rattle.html_view.proofs.follow.add_section.Goals as goal

pub returns : goal.returns
returns g c =
    when_ok c.add.result
    (λ adds body otherwise before times passes follows.
    let made : Opened _ = record { tag = c.in_ok-tag.tag; times = c.args.passes.times } in
    adds (λ rest. node.Section (written_opening (opening_of c.args.opening)) (body node.End) (otherwise node.End) rest) before (ways_of c.add_all.new.self)
    (section_followed c.args.opening made body otherwise c.args.passes.nodes c.args.other before (ways_of c.args.passes.ways) (ways_of c.args.ways.now)
    (ways_of c.add_all.new.self) c.in_ok-tag.ensures times passes follows c.in_ok-add_all.ensures.added c.in_ok-add_all.ensures.kept))
    c.add.ensures
