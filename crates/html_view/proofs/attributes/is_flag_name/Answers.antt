use Rattle.html_view.specs.Attributes.{flag_names}
use Rattle.html_view.proofs.attributes.is_flag_name.Goals as goal

pub returns : goal.returns
unfolding flag_names
returns c = c.is_in.ensures
