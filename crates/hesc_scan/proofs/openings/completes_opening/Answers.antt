use Rattle.std.proofs.Common.{rules}
use Rattle.hesc_scan.proofs.openings.completes_opening.Goals as goal

pub returns-in-33 : goal.returns-in-33
returns-in-33 c = search rules
