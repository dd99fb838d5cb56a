use Rattle.std.proofs.Common.{length}
use Rattle.hesc_sinks.proofs.Took.{Progress}
use Rattle.html_urls.specs.Components.{address}
use Rattle.html_urls.proofs.address.put_address.Given as goal

abbrev pub invariant-putting : goal.invariant-putting
invariant-putting g l = Progress (g.S.Sink.seen l.fn.sink) (g.S.Sink.seen l.sink) (address l.rest) (address l.fn.bytes)

abbrev pub decreases-putting : goal.decreases-putting
decreases-putting g l = length l.rest
