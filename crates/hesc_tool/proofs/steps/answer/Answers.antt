use Rattle.std.proofs.Common.{rules}
use Rattle.hesc_tool.proofs.Written.{answered}
use Rattle.hesc_tool.proofs.steps.answer.Goals as goal

pub returns : goal.returns
returns g c =
    let written = c.write_whole.ensures in
    answered c.args.command c.args.input.now c.as_slice.result.now _ _ _
    (search rules) written.all written.began written.fault
