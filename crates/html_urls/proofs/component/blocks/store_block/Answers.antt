use Rattle.std.proofs.Common.{ap, ◌∙◌, arith, length}
use Rattle.std.proofs.lemmas.List.{length-drop, take_rest}
use Rattle.html_urls.proofs.Encoded.Blocks.{stored_few, stored_more, stored_nothing, stored_rest}
use Rattle.html_urls.proofs.component.blocks.store_block.Goals as goal

pub storing-init : goal.storing-init
storing-init c = record { within = omega arith; some = omega arith; few = omega arith; stored = stored_nothing c.args.room.now c.args.place }

pub storing-preserved : goal.storing-preserved
storing-preserved c = record {
  within = omega (arith, c.storing.invariant.few, c.storing-test.true);
  some = omega arith;
  few = omega arith;
  stored = stored_more c.args.room.now c.storing.room _ c.args.bytes.now _ c.args.place c.storing.from c.storing.count c.storing.end _ (take_rest c.args.bytes.now c.storing.from) c.storing.invariant.stored c.store_lanes-end.ensures;
}

pub store_lanes-end-requires : goal.store_lanes-end-requires
store_lanes-end-requires c =
    let few = stored_few c.args.room.now c.storing.room c.args.bytes.now c.args.place c.storing.from c.storing.end c.storing.invariant.within c.storing.invariant.stored in
    let left = ap length (take_rest c.args.bytes.now c.storing.from) ∙ length-drop c.storing.from c.args.bytes.now in
    record {
      few = c.storing.invariant.few;
      there = omega (arith, left, c.storing-test.true);
      fits = omega (arith, few, c.storing-test.true, c.storing.auto.room, c.requires);
    }

pub store_each-requires : goal.store_each-requires
store_each-requires c =
    let few = stored_few c.args.room.now c.storing.room c.args.bytes.now c.args.place c.storing.from c.storing.end c.storing.invariant.within c.storing.invariant.stored in
    let left = ap length (take_rest c.args.bytes.now c.storing.from) ∙ length-drop c.storing.from c.args.bytes.now in
    omega (arith, few, left, c.storing.invariant.within, c.storing.auto.room, c.requires)

pub returns : goal.returns
returns c = stored_rest c.args.room.now c.storing.room _ c.args.bytes.now _ c.args.place c.storing.from c.storing.end _ (take_rest c.args.bytes.now c.storing.from) c.storing.invariant.stored c.store_each.ensures
