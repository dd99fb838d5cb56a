use Rattle.hesc_scan.proofs.Classes.Flags.{flag_tells}
use Rattle.hesc_scan.proofs.flags.is_in.Goals as goal

pub returns : goal.returns
returns c = rw (c.number_of.ensures) (flag_tells c.args.class c.args.byte c.ranges.byte.fits)
