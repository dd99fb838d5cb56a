use Rattle.std.proofs.Common.{◌≡◌, ◌-◌, ◌≤◌, length}
use Rattle.html_template.specs.FirstFault.{first_fault, first_from}
use Rattle.html_template.specs.Templates.{texts_of}
use Rattle.html_template_source.specs.Bindings.{binding_faults, binding_told, bindings_of}
use Rattle.html_template_source.proofs.first_fault.first_refused.Given as goal

abbrev pub invariant-bindings : goal.invariant-bindings
invariant-bindings g l = record {
  first : first_from binding_told (length l.bindings - length l.rest) (binding_faults (texts_of l.names.distinct.items) (bindings_of l.rest))
      ≡ first_fault binding_told (binding_faults (texts_of l.names.distinct.items) (bindings_of l.bindings));
  shorter : length l.rest ≤ length l.bindings;
}

abbrev pub decreases-bindings : goal.decreases-bindings
decreases-bindings g l = length l.rest
