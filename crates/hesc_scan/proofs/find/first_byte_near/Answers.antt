use Rattle.memchr.specs.Find.{is_byte}
use Rattle.hesc_scan.proofs.find.first_byte_near.Goals as goal

pub returns : goal.returns
returns c = c.first_set.ensures (is_byte c.args.byte) (rw c.rest.ensures at c.block_hits_of_one-mask.ensures)
