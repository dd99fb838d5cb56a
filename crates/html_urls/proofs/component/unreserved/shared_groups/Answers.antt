use Rattle.std.proofs.Common.{w8}
use Rattle.std.proofs.lemmas.Simd.{below_from_Fits}
use Rattle.html_urls.proofs.Encoded.Lanes.{groups_shared}
use Rattle.html_urls.proofs.Encoded.Halves.{high_within, low_within}
use Rattle.html_urls.proofs.component.unreserved.shared_groups.Goals as goal

pub swizzle-low : goal.swizzle-low
swizzle-low c = low_within c.args.v c.requires

pub swizzle-high : goal.swizzle-high
swizzle-high c = high_within c.args.v c.requires (below_from_Fits w8 c.args.v c.fits-v.1)

pub returns : goal.returns
returns c = groups_shared c.args.v c.requires (below_from_Fits w8 c.args.v c.fits-v.1)
