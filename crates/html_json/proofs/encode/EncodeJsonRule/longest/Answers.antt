use Rattle.std.proofs.Common.{refl}
use Rattle.html_json.proofs.Lengths.{at_most_six, empty_alone, of_product}
use Rattle.html_json.proofs.encode.EncodeJsonRule.longest.Goals as goal

pub returns-clause-enough : goal.returns-clause-enough
returns-clause-enough c = of_product _ _ _ _ c.checked_mul.ensures (at_most_six c.args.text.now)

pub returns-clause-empty : goal.returns-clause-empty
returns-clause-empty c = of_product _ _ _ _ c.checked_mul.ensures (λ nothing. rw (empty_alone c.args.text.now nothing) refl)
