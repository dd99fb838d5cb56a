use Rattle.html_template_source.proofs.OneSource.{same_source}
use Rattle.html_template_source.proofs.laws.source_law.Goals as goal

pub returns : goal.returns
returns c = λ parts others names more turns is other_turns other_is. same_source parts others names more c.args.source.now turns is other_turns other_is
