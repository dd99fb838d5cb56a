use Rattle.memchr.specs.Find.{is_byte}
use Rattle.hesc_scan.proofs.FoundBytes.{found_in_rest, absent_in_rest}
use Rattle.hesc_scan.proofs.find.first_byte_far.Goals as goal

pub returns-in-Some : goal.returns-in-Some
returns-in-Some c = found_in_rest (is_byte c.args.byte) c.args.bytes.now c.args.from c.requires c.in-Some.distance c.in-Some.ensures

pub returns-in-None : goal.returns-in-None
returns-in-None c = absent_in_rest (is_byte c.args.byte) c.args.bytes.now c.args.from c.requires c.in-None.ensures
