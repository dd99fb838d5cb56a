use Rattle.std.proofs.Common.{arith}
use Rattle.hesc_scan.proofs.Masks.{byte_at}
use Rattle.hesc_scan.proofs.block.Block.full.Goals as goal

pub invariant_of-result : goal.invariant_of-result
invariant_of-result c = record {
  long = c.told-chunk;
  within = (omega arith, omega arith);
  below = byte_at c.args.chunk.now c.requires;
}
