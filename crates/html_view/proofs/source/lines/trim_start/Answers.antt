use Rattle.html_view.proofs.SourceLines.{trimmed_start}
use Rattle.html_view.proofs.source.lines.trim_start.Goals as goal

pub returns-clause-value : goal.returns-clause-value
returns-clause-value c = trimmed_start c.args.text.now c.trim_start_matches.result.now c.trim_start_matches.ensures.matches
