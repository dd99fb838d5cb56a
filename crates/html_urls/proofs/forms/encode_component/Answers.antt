use Rattle.std.proofs.Common.{sym}
use Rattle.percent_encoding.proofs.PercentLemmas.{percent_encode_unchanged}
use Rattle.html_urls.specs.declared.component.TheConstants.{COMPONENT}
use Rattle.html_urls.proofs.forms.encode_component.Goals as goal

pub returns-then-is_unreserved-clause-text : goal.returns-then-is_unreserved-clause-text
returns-then-is_unreserved-clause-text g c = sym (percent_encode_unchanged COMPONENT c.args.text.now (c.is_unreserved.ensures.0 c.if-is_unreserved.true))
