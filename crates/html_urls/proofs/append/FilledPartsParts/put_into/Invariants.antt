use Rattle.std.proofs.Common.{length, map}
use Rattle.hesc_sinks.proofs.Took.{Progress}
use Rattle.html_urls.specs.Slots.{bare, in_opaque, texts_of, url_of}
use Rattle.html_urls.proofs.append.FilledPartsParts.put_into.Given as goal

abbrev pub invariant-parts : goal.invariant-parts
invariant-parts g l = Progress (g.S.Sink.seen l.initial.sink) (g.S.Sink.seen l.sink) (url_of (in_opaque l.opaque (map bare l.rest)) (texts_of l.left)) (url_of (in_opaque l.self.opaque (map bare l.self.parts.now)) (texts_of l.self.texts.now))

abbrev pub decreases-parts : goal.decreases-parts
decreases-parts g l = length l.rest
