use Rattle.std.proofs.Common.{◌≡◌, ◌-◌, ◌≤◌, length}
use Rattle.html_template.specs.FirstFault.{first_fault, first_from}
use Rattle.html_template_source.specs.Bindings.{slot_told}
use Rattle.html_template_source.specs.Places.{unplaced}
use Rattle.html_template_source.proofs.places.first_unbound.Given as goal

abbrev pub invariant-slots : goal.invariant-slots
invariant-slots l = record {
  first : first_from slot_told (length l.numbers - length l.rest) (unplaced l.count l.places l.rest) ≡ first_fault slot_told (unplaced l.count l.places l.numbers);
  shorter : length l.rest ≤ length l.numbers;
}

abbrev pub decreases-slots : goal.decreases-slots
decreases-slots l = length l.rest
