use Rattle.std.proofs.Common.{rules, sym}
use Rattle.percent_encoding.proofs.PercentLemmas.{percent_encode_unchanged}
use Rattle.html_urls.specs.declared.component.TheConstants.{COMPONENT}
use Rattle.html_urls.proofs.forms.unchanged.Goals as goal

pub returns : goal.returns
returns c = sym (percent_encode_unchanged COMPONENT c.args.text.now (c.is_unreserved.ensures.0 (search rules)))
