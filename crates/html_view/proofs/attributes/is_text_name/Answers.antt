use Rattle.html_view.specs.Attributes.{text_names}
use Rattle.html_view.proofs.attributes.is_text_name.Goals as goal

pub returns : goal.returns
unfolding text_names
returns c = c.is_in.ensures
