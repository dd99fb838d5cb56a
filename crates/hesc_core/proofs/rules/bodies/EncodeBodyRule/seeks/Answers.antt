use Rattle.std.proofs.Common.{length, refl}
use Rattle.hesc_specs.proofs.Bodies.EncodingChanges.{no-body_encoding_changes}
use Rattle.hesc_core.proofs.rules.bodies.EncodeBodyRule.seeks.Goals as goal

pub returns-clause-ends : goal.returns-clause-ends
returns-clause-ends c source text from boundary none = no-body_encoding_changes c.args.self.now.0 source from (length source) none refl
