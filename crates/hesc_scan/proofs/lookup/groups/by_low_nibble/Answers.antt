use Rattle.std.proofs.Common.{bit_and, refl, arith}
use Rattle.std.proofs.lemmas.Nat.{and_le_r}
use Rattle.std.proofs.lemmas.Simd.{zip2_splat}
use Rattle.hesc_scan.specs.declared.lookup.groups.TheConstants.{BY_LOW_NIBBLE}
use Rattle.hesc_scan.proofs.Lookups.{looked_up, low_nibbles_fit, stands_twice}
use Rattle.hesc_scan.proofs.lookup.groups.by_low_nibble.Goals as goal

pub swizzle : goal.swizzle
swizzle c = low_nibbles_fit c.args.v c.fits-v.0

pub returns : goal.returns
returns c =
    let v = c.args.v in
    looked_up BY_LOW_NIBBLE (stands_twice BY_LOW_NIBBLE refl) (λ b. bit_and b 15) (λ b below. omega (arith, and_le_r b 15)) v _ c.fits-v.0 c.requires (zip2_splat bit_and v 32 15 c.fits-v.0)
