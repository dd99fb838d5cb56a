use Rattle.std.proofs.Common.{◌≡◌, length}
use Rattle.json.specs.Value.{members_view}
use Rattle.html_view.specs.Attributes.{are_attributes}
use Rattle.html_view.specs.JsonData.{fields_of_json}
use Rattle.html_view.proofs.attributes.are_members.Given as goal

abbrev pub invariant-members : goal.invariant-members
invariant-members l = are_attributes (fields_of_json (members_view l.members)) ≡ are_attributes (fields_of_json (members_view l.rest))

abbrev pub decreases-members : goal.decreases-members
decreases-members l = length l.rest
