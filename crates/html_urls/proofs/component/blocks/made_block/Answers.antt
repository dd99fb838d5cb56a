use Rattle.std.proofs.Common.{sym, subst}
use Rattle.std.specs.Str.{IsAscii}
use Rattle.percent_encoding.proofs.PercentLemmas.{IsAscii-percent_encode}
use Rattle.html_urls.specs.declared.component.TheConstants.{COMPONENT}
use Rattle.html_urls.proofs.component.blocks.made_block.Goals as goal

pub ascii_str-requires : goal.ascii_str-requires
ascii_str-requires c = subst IsAscii (sym c.store_block-end.ensures.before) (IsAscii-percent_encode COMPONENT c.args.bytes.now)
