use Rattle.std.proofs.Common.{arith, sym}
use Rattle.std.proofs.lemmas.Bool.{eqb-false}
use Rattle.hesc_scan.proofs.ChunkSearch.{below_256, chunk_stands, slice_rest}
use Rattle.hesc_scan.proofs.byte_block.mask_at.Goals as goal

pub hits_of_one-requires : goal.hits_of_one-requires
hits_of_one-requires c =
    let chunks = c.as_chunks.ensures in
    below_256 c.args.bytes.now _ c.args.place c.type_inv.bytes
    (chunk_stands c.args.bytes.now _ c.args.place c.as_chunks.result.0.now 0 c.requires (slice_rest c.args.bytes.now c.args.place c.requires) chunks.front chunks.front_len (omega (arith, eqb-false _ _ (sym c.if-is_empty.ensures))) c.args.place (omega arith))
