use Rattle.std.proofs.Common.{refl}
use Rattle.html_json.proofs.Lengths.{of_product}
use Rattle.html_json.proofs.Quoted.{content_at_most_six, content_empty_alone}
use Rattle.html_json.proofs.strings.EncodeContentRule.longest.Goals as goal

pub returns-clause-enough : goal.returns-clause-enough
returns-clause-enough c = of_product _ _ _ _ c.checked_mul.ensures (content_at_most_six c.args.text.now)

pub returns-clause-empty : goal.returns-clause-empty
returns-clause-empty c = of_product _ _ _ _ c.checked_mul.ensures (λ nothing. rw (content_empty_alone c.args.text.now nothing) refl)
