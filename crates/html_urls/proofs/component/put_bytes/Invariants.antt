use Rattle.std.proofs.Common.{length}
use Rattle.hesc_sinks.proofs.Took.{Progress}
use Rattle.html_urls.specs.Components.{component}
use Rattle.html_urls.proofs.component.put_bytes.Given as goal

abbrev pub invariant-putting : goal.invariant-putting
invariant-putting g l = Progress (g.S.Sink.seen l.fn.sink) (g.S.Sink.seen l.sink) (component l.rest) (component l.fn.bytes)

abbrev pub decreases-putting : goal.decreases-putting
decreases-putting g l = length l.rest
