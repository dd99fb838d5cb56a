use Rattle.html_json.specs.Strings.{content_image, is_escaped}
use Rattle.html_json.proofs.Changes.{begins_sought, ends}
use Rattle.html_json.proofs.strings.EncodeContentRule.seeks.Goals as goal

pub returns-clause-begins : goal.returns-clause-begins
returns-clause-begins c = begins_sought is_escaped

pub returns-clause-ends : goal.returns-clause-ends
returns-clause-ends c source text from boundary none = ends is_escaped content_image source from none
