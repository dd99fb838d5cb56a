use Rattle.std.proofs.Common.{flat_map, length, map}
use Rattle.hesc_sinks.proofs.Took.{Progress}
use Rattle.hesc_places.specs.Pages.FormTexts.{attribute_text, written}
use Rattle.hesc_places.proofs.markup.form_text.put_attributes.Given as goal

abbrev pub invariant-attributes : goal.invariant-attributes
invariant-attributes g l = Progress (g.S.Sink.seen l.initial.sink) (g.S.Sink.seen l.sink) (flat_map attribute_text (map written l.rest)) (flat_map attribute_text (map written l.attributes))

abbrev pub decreases-attributes : goal.decreases-attributes
decreases-attributes g l = length l.rest
