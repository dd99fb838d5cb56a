use Rattle.html_json.proofs.Lengths.{no_less}
use Rattle.html_template.proofs.JsonTexts.{same_json}
use Rattle.html_template.specs.Slots.{json_of}
use Rattle.html_template.proofs.laws.json_law.Goals as goal

pub returns-clause-same : goal.returns-clause-same
returns-clause-same c place text found is = same_json text found is

pub returns-clause-no_less : goal.returns-clause-no_less
returns-clause-no_less c place text = no_less (json_of text)
