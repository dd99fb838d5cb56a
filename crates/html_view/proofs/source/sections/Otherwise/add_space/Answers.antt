use Rattle.std.proofs.Common.{rules, ◌<◌, length}
use Rattle.html_view.proofs.SourceReads.{space_more}
use Rattle.html_view.proofs.source.sections.Otherwise.add_space.Goals as goal

pub loop-piece-preserved : goal.loop-piece-preserved
loop-piece-preserved g c = λ after.
    let below : c.loop-piece.piece-index < length c.args.self.now.space.items = search rules in
    space_more c.deref-piece-items.result.now c.args.self.now.space.items c.loop-piece.piece-index _ c.loop-piece.nodes.items c.args.nodes.now.items
    c.add.new.nodes.items after c.deref-piece-items.ensures.value below c.loop-piece.invariant (c.in_ok-add.ensures.nodes after)
