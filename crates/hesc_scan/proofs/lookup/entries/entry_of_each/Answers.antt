use Rattle.std.proofs.Common.{bit_and, arith}
use Rattle.std.proofs.lemmas.Nat.{and_le_r}
use Rattle.std.proofs.lemmas.Simd.{zip2_splat}
use Rattle.hesc_scan.proofs.Lookups.{looked_up, low_nibbles_fit}
use Rattle.hesc_scan.proofs.lookup.entries.entry_of_each.Goals as goal

pub swizzle : goal.swizzle
swizzle c = low_nibbles_fit c.args.v c.fits-v.0

pub returns : goal.returns
returns c =
    let v = c.args.v in
    let long = c.fits-v.0 in
    looked_up c.args.table.now c.requires.twice (λ b. bit_and b 15) (λ b below. omega (arith, and_le_r b 15)) v _ long c.requires.below (zip2_splat bit_and v 32 15 long)
