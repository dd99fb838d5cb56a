use Rattle.std.proofs.Common.{rules}
use Rattle.hesc_grammars.specs.ScriptStrings.{script_string_step}
use Rattle.hesc_grammars.proofs.script_strings.script_string_step.Goals as goal

pub returns-then-begins_line_end : goal.returns-then-begins_line_end
unfolding script_string_step
returns-then-begins_line_end c = search rules

pub returns : goal.returns
unfolding script_string_step
returns c = search rules
