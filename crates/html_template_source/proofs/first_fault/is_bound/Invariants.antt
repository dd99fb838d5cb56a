use Rattle.std.proofs.Common.{◌≡◌, length}
use Rattle.std.specs.Option.{is_some}
use Rattle.html_template_source.specs.Bindings.{bindings_of, bound}
use Rattle.html_template_source.proofs.first_fault.is_bound.Given as goal

abbrev pub invariant-bindings : goal.invariant-bindings
invariant-bindings l = is_some (bound (bindings_of l.rest) l.name) ≡ is_some (bound (bindings_of l.bindings) l.name)

abbrev pub decreases-bindings : goal.decreases-bindings
decreases-bindings l = length l.rest
