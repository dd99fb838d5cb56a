use Rattle.html_template.proofs.FillFaults.{count_answered, count_written, fills, fits, text_answered, text_written}
use Rattle.html_template.proofs.laws.fill_faults_law.Goals as goal

pub returns : goal.returns
returns c = record { answered = text_answered; written = text_written; count = count_answered; written_count = count_written; none = fills; fits = fits }
