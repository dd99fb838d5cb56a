use Rattle.memchr.specs.Find.{is_byte}
use Rattle.hesc_scan.proofs.ChunkSearch.{first_block_from}
use Rattle.hesc_scan.proofs.byte_block.later_byte_block.Goals as goal

pub returns : goal.returns
returns c = first_block_from (is_byte c.args.byte) c.args.bytes.now c.args.from _ _ _ c.first_by_pairs-reached.ensures.passed c.far_byte_block.ensures
