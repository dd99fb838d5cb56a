use Rattle.std.proofs.Common.{rules}
use Rattle.hesc_grammars.specs.Bodies.{script_body_step}
use Rattle.hesc_grammars.proofs.bodies.script_body_step.Goals as goal

pub returns : goal.returns
unfolding script_body_step
returns c = search rules
