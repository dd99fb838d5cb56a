use Rattle.std.proofs.Common.{rules, ◌≡◌, ◌≢◌, ◌==◌, false, length}
use Rattle.html_view.specs.declared.node.Times.TheVariants.{Once, Whether}
use Rattle.html_view.proofs.SourceReads.{opened_is, two_sides}
use Rattle.html_view.proofs.source.sections.Otherwise.section.Goals as goal

pub returns-clause-section : goal.returns-clause-section
returns-clause-section g c = λ rest after same.
    let some : (length c.args.self.now.space.items == 0) ≡ false = search rules in
    let other : Whether ≢ Once = search rules in
    two_sides c.args.tag c.args.times c.args.self.now.space.items c.opening-2.result c.opening-3.result c.args.body c.new-none.result
    c.add_space.new.nodes c.args.others c.add.new.nodes.items rest after some
    (opened_is c.opening-2.result c.args.tag c.args.times c.opening-2.ensures.name c.opening-2.ensures.position c.opening-2.ensures.times c.requires)
    (opened_is c.opening-3.result c.args.tag Whether c.opening-3.ensures.name c.opening-3.ensures.position c.opening-3.ensures.times other)
    c.new-none.ensures.items (λ x. rw c.new-nodes.ensures.items at (c.in_ok-add.ensures.nodes x)) c.in_ok-add_space.ensures.nodes same
