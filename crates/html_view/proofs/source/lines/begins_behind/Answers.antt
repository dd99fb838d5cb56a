use Rattle.std.proofs.Common.{sym, ◌∙◌, arith}
use Rattle.std.proofs.lemmas.Str.Pattern.{ends_char}
use Rattle.hesc_specs.specs.Text.Ascii.{line_feed}
use Rattle.html_view.proofs.SourceLines.{begins_ends}
use Rattle.html_view.proofs.source.lines.begins_behind.Goals as goal

pub returns-else-is_empty : goal.returns-else-is_empty
returns-else-is_empty c =
    begins_ends c.args.begins_line c.ends_with.result c.args.text.now (sym c.is_empty.ensures ∙ c.if-is_empty.false)
    (ends_char line_feed c.args.text.now c.ends_with.result c.ends_with.ensures.cases (omega arith))
