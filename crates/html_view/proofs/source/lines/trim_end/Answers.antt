use Rattle.html_view.proofs.SourceLines.{trimmed_end}
use Rattle.html_view.proofs.source.lines.trim_end.Goals as goal

pub returns : goal.returns
returns c = trimmed_end c.args.text.now c.trim_end_matches.result.now c.trim_end_matches.ensures.matches
