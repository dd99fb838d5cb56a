use Rattle.std.proofs.Common.{◌≡◌, length}
use Rattle.json.specs.Value.{members_view}
use Rattle.html_view.specs.Data as data_of
use Rattle.html_view.specs.JsonData.{fields_of_json}
use Rattle.html_view.proofs.data.member_in.Given as goal

abbrev pub invariant-members : goal.invariant-members
invariant-members l =
    data_of.field_of l.word (fields_of_json (members_view l.members)) ≡ data_of.field_of l.word (fields_of_json (members_view l.rest))

abbrev pub decreases-members : goal.decreases-members
decreases-members l = length l.rest
