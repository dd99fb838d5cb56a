use Rattle.std.proofs.Common.{◌∙◌, sym}
use Rattle.std.proofs.lemmas.Iterator.Adapters.{YieldsList-from_skip, YieldsList-from_vec}
use Rattle.std.proofs.lemmas.Iterator.Consumers.{YieldsList-end}
use Rattle.std.proofs.lemmas.List.{map-id}
use Rattle.std.specs.Vec.Iter.{into_iter_items}
use Rattle.hesc_tool.proofs.words.words_after_name.Goals as goal

pub returns : goal.returns
returns g c =
    let end = YieldsList-end (YieldsList-from_skip 1 (YieldsList-from_vec (into_iter_items c.args.args) (cc) (rw (c.into_iter-word-iterator.ensures.into_iter_gives, c.skip-word-items.ensures.source) c.args.args.rest.ok.0)) (cc))
    c.words.yielded _ c.words.yielded_by _ c.next.new.self c.in-None.is c.next.ensures.steps in
    c.words.invariant ∙ (sym (map-id c.words.yielded) ∙ end.0)
