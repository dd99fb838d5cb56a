use Rattle.std.proofs.Common.{sym, ◌∙◌, arith}
use Rattle.std.proofs.lemmas.Str.Pattern.{strip_prefix_char}
use Rattle.hesc_specs.specs.Text.Ascii.{line_feed}
use Rattle.html_view.proofs.SourceLines.{behind_line_feed}
use Rattle.html_view.proofs.source.lines.behind_end.Goals as goal

pub returns-in-None-clause-behind : goal.returns-in-None-clause-behind
returns-in-None-clause-behind c =
    behind_line_feed c.args.text.now c.strip_prefix-in-None.result (sym c.is_empty.ensures ∙ c.if-is_empty.false)
    c.in-None.ensures.cases
    (strip_prefix_char line_feed c.args.text.now c.strip_prefix-in-None.result c.strip_prefix-in-None.ensures.cases (omega arith))
