use Rattle.std.proofs.Common.{refl}
use Rattle.hesc_specs.proofs.Bodies.Dropped.{dropped-bytes, none_left}
use Rattle.hesc_core.proofs.rules.bodies.DecodeBodyRule.seeks.Goals as goal

pub returns-clause-begins : goal.returns-clause-begins
returns-clause-begins c source place begins =
    let bytes = dropped-bytes c.args.self.now.0 source place begins in
    (bytes.1.0, rw bytes.1.1.1 refl)

pub returns-clause-ends : goal.returns-clause-ends
returns-clause-ends c source text from boundary none = none_left c.args.self.now.0 source from boundary.0 none
