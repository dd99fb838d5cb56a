use Rattle.std.proofs.Common.{w8}
use Rattle.std.proofs.lemmas.Simd.{below_from_Fits}
use Rattle.html_urls.proofs.Encoded.Digits.{high_digits, low_digits}
use Rattle.html_urls.proofs.Encoded.Halves.{high_within, low_within}
use Rattle.html_urls.proofs.component.lanes.digits_of.Goals as goal

pub swizzle : goal.swizzle
swizzle c = high_within c.args.v c.requires (below_from_Fits w8 c.args.v c.fits-v.1)

pub swizzle-2 : goal.swizzle-2
swizzle-2 c = low_within c.args.v c.requires

pub returns-clause-high : goal.returns-clause-high
returns-clause-high c = high_digits c.args.v c.requires (below_from_Fits w8 c.args.v c.fits-v.1)

pub returns-clause-low : goal.returns-clause-low
returns-clause-low c = low_digits c.args.v c.requires (below_from_Fits w8 c.args.v c.fits-v.1)
