use Rattle.html_json.specs.Encoding.{is_less, json_image}
use Rattle.html_json.proofs.Changes.{begins_sought, ends}
use Rattle.html_json.proofs.encode.EncodeJsonRule.seeks.Goals as goal

pub returns-clause-begins : goal.returns-clause-begins
returns-clause-begins c = begins_sought is_less

pub returns-clause-ends : goal.returns-clause-ends
returns-clause-ends c source text from boundary none = ends is_less json_image source from none
