use Rattle.std.proofs.Common.{rules}
use Rattle.hesc_engine.proofs.forms.parts.append_parts.Goals as goal

pub returns-in-None-clause-appended : goal.returns-in-None-clause-appended
returns-in-None-clause-appended g c = search rules
