use Rattle.std.proofs.Common.{arith}
use Rattle.std.proofs.lemmas.List.Elements.{All-from_get_or}
use Rattle.std.proofs.lemmas.Bool.Decides.{nat_tests}
use Rattle.percent_encoding.proofs.PercentLemmas.{IsByte}
use Rattle.html_urls.proofs.Filled.MayFill.{fills}
use Rattle.html_urls.proofs.slots.may_fill.Goals as goal

pub returns-then-not-is_empty : goal.returns-then-not-is_empty
returns-then-not-is_empty c =
    fills c.args.slot c.args.text.now c.may_be_segment.result c.if-not-slot.false (grind (arith, nat_tests))
    (All-from_get_or IsByte c.args.text.now 0 (λ i within. omega (arith, c.type_inv.text i))) c.may_be_segment.ensures
