use Rattle.std.proofs.Common.{rules, tests}
use Rattle.hesc_grammars.proofs.style_strings.white_space_length.Goals as goal

pub returns-in-32-clause-value : goal.returns-in-32-clause-value
returns-in-32-clause-value c = search (rules, tests)

pub returns-in-32-2-clause-value : goal.returns-in-32-2-clause-value
returns-in-32-2-clause-value c = search (rules, tests)
