use Rattle.html_entities.proofs.References.{same_value}
use Rattle.html_entities.proofs.built_in_names_law.Goals as goal

pub returns : goal.returns
returns c = same_value
