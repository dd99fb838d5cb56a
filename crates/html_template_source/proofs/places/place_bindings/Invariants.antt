use Rattle.std.proofs.Common.{length}
use Rattle.html_template.specs.Templates.{texts_of}
use Rattle.html_template_source.proofs.Placed.{ArePlacedAfter}
use Rattle.html_template_source.proofs.places.place_bindings.Given as goal

abbrev pub invariant-bindings : goal.invariant-bindings
invariant-bindings g l = ArePlacedAfter (texts_of l.names.distinct.items) l.bindings l.places l.rest l.first

abbrev pub decreases-bindings : goal.decreases-bindings
decreases-bindings g l = length l.rest
