use Rattle.std.proofs.Common.{rules}
use Rattle.hesc_tool.proofs.Ran.{ran}
use Rattle.hesc_tool.proofs.run.Goals as goal

pub returns-in_default : goal.returns-in_default
returns-in_default g c = (c.in_default.ensures, search rules, search rules)

pub returns : goal.returns
returns g c =
    ran _ c.in-Some.command c.as_slice.result.now _ _ _ _ _ c.in-Some.ensures (search rules) c.answer.ensures
