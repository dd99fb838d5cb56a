use Rattle.std.proofs.Common.{arith}
use Rattle.html_urls.proofs.Encoded.Blocks.{stored_byte, stored_few, stored_nothing}
use Rattle.html_urls.proofs.component.blocks.store_each.Goals as goal

pub loop-b-init : goal.loop-b-init
loop-b-init c = record { stored = stored_nothing c.args.room.now c.args.place }

pub store_encoded-end-requires : goal.store_encoded-end-requires
store_encoded-end-requires c =
    let few = stored_few c.args.room.now c.loop-b.room c.args.bytes.now c.args.place c.loop-b.b-index c.loop-b.end (omega arith) c.loop-b.invariant.stored in
    omega (arith, few, c.loop-b.invariant.stored.long, c.loop-b-test.true, c.requires)

pub loop-b-preserved : goal.loop-b-preserved
loop-b-preserved c = record {
  stored = stored_byte c.args.room.now c.loop-b.room _ c.args.bytes.now c.args.place c.loop-b.b-index c.loop-b.end _ (omega arith) c.loop-b.invariant.stored c.store_encoded-end.ensures;
}
