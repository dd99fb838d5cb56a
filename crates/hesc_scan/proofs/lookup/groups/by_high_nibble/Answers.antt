use Rattle.std.proofs.Common.{◌/◌, refl, arith}
use Rattle.std.proofs.lemmas.Simd.{zip2_splat}
use Rattle.hesc_scan.specs.declared.lookup.groups.TheConstants.{BY_HIGH_NIBBLE}
use Rattle.hesc_scan.proofs.Lookups.{high_nibble, high_nibbles_fit, looked_up, stands_twice}
use Rattle.hesc_scan.proofs.lookup.groups.by_high_nibble.Goals as goal

pub swizzle : goal.swizzle
swizzle c = high_nibbles_fit c.args.v c.fits-v.0 c.requires

pub returns : goal.returns
returns c =
    let v = c.args.v in
    looked_up BY_HIGH_NIBBLE (stands_twice BY_HIGH_NIBBLE refl) (λ b. b / 16) (λ b below. omega arith) v _ c.fits-v.0 c.requires (zip2_splat high_nibble v 32 4 c.fits-v.0)
