use Rattle.std.proofs.Common.{arith}
use Rattle.hesc_scan.proofs.Lengths.Bounds.{empty, enough}
use Rattle.hesc_scan.proofs.ChunkSearch.{rest_below_256}
use Rattle.hesc_scan.proofs.Lengths.Longest.{empty_escaped, longest, product}
use Rattle.hesc_scan.proofs.length.longest.longest_escaped.Goals as goal

pub returns-clause-enough : goal.returns-clause-enough
returns-clause-enough c =
    enough _ _ (product _ _ _ c.checked_mul.ensures) _ (longest c.args.class c.args.text.now c.utf8.text (rest_below_256 c.args.text.now 0 (omega arith) c.type_inv.text))

pub returns-clause-empty : goal.returns-clause-empty
returns-clause-empty c =
    empty _ _ (product _ _ _ c.checked_mul.ensures) _ (λ none. omega (arith, empty_escaped c.args.class c.args.text.now c.utf8.text none))
