use Rattle.std.proofs.Common.{rules, tests}
use Rattle.hesc_scan.proofs.openings.ends_name.Goals as goal

pub returns-in-47-3 : goal.returns-in-47-3
returns-in-47-3 c = search (rules, tests)
