use Rattle.std.proofs.Common.{ap, length}
use Rattle.hesc_specs.proofs.Bodies.Decoded.{body_decoding-empty, body_decoding-shorter}
use Rattle.hesc_core.proofs.rules.bodies.DecodeBodyRule.longest.Goals as goal

pub returns-clause-enough : goal.returns-clause-enough
returns-clause-enough c = body_decoding-shorter c.args.self.now.0 c.args.text.now

pub returns-clause-empty : goal.returns-clause-empty
returns-clause-empty c nothing = ap length (body_decoding-empty c.args.self.now.0 c.args.text.now nothing)
