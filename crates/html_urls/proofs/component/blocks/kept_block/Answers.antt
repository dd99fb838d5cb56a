use Rattle.std.proofs.Common.{sym, ◌∙◌}
use Rattle.percent_encoding.proofs.PercentLemmas.{IsAscii_from_kept, percent_encode_unchanged}
use Rattle.html_urls.specs.declared.component.TheConstants.{COMPONENT}
use Rattle.html_urls.proofs.component.blocks.kept_block.Goals as goal

pub ascii_str-requires : goal.ascii_str-requires
ascii_str-requires c = IsAscii_from_kept COMPONENT c.args.bytes.now c.requires

pub returns : goal.returns
returns c = c.ascii_str.ensures ∙ sym (percent_encode_unchanged COMPONENT c.args.bytes.now c.requires)
