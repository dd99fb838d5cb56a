use Rattle.html_json.proofs.Lengths.{no_less}
use Rattle.html_template.specs.Slots.{json_of}
use Rattle.html_view.proofs.JsonTexts.{json_of_json, reads_back}
use Rattle.html_view.proofs.laws.json_law.Goals as goal

pub returns-clause-same : goal.returns-clause-same
returns-clause-same c = reads_back

pub returns-clause-no_less : goal.returns-clause-no_less
returns-clause-no_less c place text = no_less (json_of text)

pub returns-clause-read : goal.returns-clause-read
returns-clause-read c = json_of_json
