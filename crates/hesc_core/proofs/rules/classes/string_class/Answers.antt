use Rattle.std.proofs.Common.{refl}
use Rattle.hesc_core.proofs.rules.classes.string_class.Goals as goal

pub returns-in-ScriptQuoted : goal.returns-in-ScriptQuoted
returns-in-ScriptQuoted c = rw c.in-ScriptQuoted.is refl
