use Rattle.std.proofs.Common.{rules}
use Rattle.hesc_speed.proofs.cow.encode_safe.Goals as goal

pub returns-clause-length : goal.returns-clause-length
returns-clause-length c = search rules

pub returns-clause-unchanged : goal.returns-clause-unchanged
returns-clause-unchanged c = search rules
