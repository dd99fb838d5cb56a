use Rattle.std.proofs.Common.{◌==◌, ap, arith, length}
use Rattle.std.proofs.lemmas.List.Sums.{count_by-le-length}
use Rattle.hesc_specs.specs.Text.Ascii.{less_than}
use Rattle.hesc_specs.proofs.Bodies.Bound.{empty-body_encoding, length-body_encoding}
use Rattle.hesc_scan.proofs.Lengths.Bounds.{empty, enough}
use Rattle.hesc_scan.proofs.Lengths.Longest.{product}
use Rattle.hesc_scan.proofs.length.longest.longest_body.Goals as goal

pub returns-clause-enough : goal.returns-clause-enough
returns-clause-enough c =
    λ element. enough _ _ (product _ _ _ c.checked_mul.ensures) _ (omega (arith, length-body_encoding element c.args.bytes.now, count_by-le-length (λ b. b == less_than) c.args.bytes.now))

pub returns-clause-empty : goal.returns-clause-empty
returns-clause-empty c =
    λ element. empty _ _ (product _ _ _ c.checked_mul.ensures) _ (λ none. omega (arith, ap length (empty-body_encoding element c.args.bytes.now none)))
