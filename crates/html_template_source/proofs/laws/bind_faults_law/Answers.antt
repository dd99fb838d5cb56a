use Rattle.html_template_source.proofs.WhichFault.{doubled, fill_told, is_answered, is_written, missing, unknown}
use Rattle.html_template_source.proofs.laws.bind_faults_law.Goals as goal

pub returns : goal.returns
returns c = record { answered = is_answered; written = is_written; unknown = unknown; doubled = doubled; missing = missing; fill = fill_told }
