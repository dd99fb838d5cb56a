use Rattle.std.proofs.Common.{arith}
use Rattle.hesc_specs.specs.Text.Classes.{in_class}
use Rattle.hesc_scan.proofs.ChunkSearch.{first_by_part}
use Rattle.hesc_scan.proofs.scan.first_by_blocks.Goals as goal

pub returns : goal.returns
returns c =
    let first = c.first_block-place.ensures in
    first_by_part (in_class c.args.class) c.args.bytes.now c.args.from _ 32 _ (omega arith) first.within first.ordered first.before first.is_mask (omega (arith, c.if-mask-eq0.false))
