use Rattle.std.proofs.Common.{refl}
use Rattle.hesc_specs.proofs.Bodies.Bound.{empty-body_encoding, length-body_encoding}
use Rattle.hesc_scan.proofs.Lengths.Bounds.{empty, enough}
use Rattle.hesc_scan.proofs.length.bodies.body_bound.Goals as goal

pub returns-clause-enough : goal.returns-clause-enough
returns-clause-enough c =
    λ element. enough _ _ c.total_length.ensures.count _ (length-body_encoding element c.args.bytes.now)

pub returns-clause-empty : goal.returns-clause-empty
returns-clause-empty c =
    λ element. empty _ _ c.total_length.ensures.count _ (λ nothing. rw (empty-body_encoding element c.args.bytes.now nothing) refl)
