use Rattle.std.proofs.Common.{rules}
use Rattle.hesc_scan.proofs.scan.completes_separator.Goals as goal

pub returns-in-128 : goal.returns-in-128
returns-in-128 c = search rules
