use Rattle.std.proofs.Common.{◌≡◌, length}
use Rattle.html_view.specs.Attributes.{are_attributes}
use Rattle.html_view.specs.Values.{fields_of}
use Rattle.html_view.proofs.attributes.are_attributes.Given as goal

abbrev pub invariant-fields : goal.invariant-fields
invariant-fields l = are_attributes (fields_of l.fields) ≡ are_attributes (fields_of l.rest)

abbrev pub decreases-fields : goal.decreases-fields
decreases-fields l = length l.rest
