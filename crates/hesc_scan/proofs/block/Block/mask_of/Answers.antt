use Rattle.std.proofs.Common.{arith}
use Rattle.hesc_scan.proofs.Masks.{parts_by_bits}
use Rattle.hesc_scan.proofs.block.Block.mask_of.Goals as goal

pub returns : goal.returns
returns c =
    let block = c.args.self.now in
    λ test masks. parts_by_bits test block.lanes block.front block.skip c.args.mask block.long (omega (arith, block.within.0, block.within.1)) block.within.1 masks
