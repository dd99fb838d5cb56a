use Rattle.std.proofs.lemmas.Str.{IsUtf8-from_ascii}
use Rattle.percent_encoding.proofs.PercentLemmas.{IsAscii-percent_encode}
use Rattle.html_urls.specs.declared.component.TheConstants.{COMPONENT}
use Rattle.html_urls.proofs.component.blocks.MadeBlockStoring.store_at.Goals as goal

pub returns-clause-utf8 : goal.returns-clause-utf8
returns-clause-utf8 c = IsUtf8-from_ascii _ (IsAscii-percent_encode COMPONENT c.args.self.now.bytes.now)
