use Rattle.std.proofs.Common.{rules}
use Rattle.hesc_places.proofs.markup.attribute_checks.fault_where.Goals as goal

pub returns-then-stood : goal.returns-then-stood
returns-then-stood c = search rules
