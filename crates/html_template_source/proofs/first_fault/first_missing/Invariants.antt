use Rattle.std.proofs.Common.{◌≡◌, ◌-◌, ◌≤◌, length, map}
use Rattle.html_template.specs.FirstFault.{first_fault, first_from}
use Rattle.html_template.specs.Templates.{texts_of}
use Rattle.html_template_source.specs.Bindings.{bindings_of, slot_faults, slot_told}
use Rattle.html_template_source.specs.Names.{name_at}
use Rattle.html_template_source.proofs.first_fault.first_missing.Given as goal

abbrev pub invariant-slots : goal.invariant-slots
invariant-slots g l = record {
  first : first_from slot_told (length l.numbers - length l.rest) (slot_faults (bindings_of l.bindings) (map (name_at (texts_of l.names.distinct.items)) l.rest))
      ≡ first_fault slot_told (slot_faults (bindings_of l.bindings) (map (name_at (texts_of l.names.distinct.items)) l.numbers));
  shorter : length l.rest ≤ length l.numbers;
}

abbrev pub decreases-slots : goal.decreases-slots
decreases-slots g l = length l.rest
