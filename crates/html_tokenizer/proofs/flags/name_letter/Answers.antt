use Rattle.std.proofs.Common.{arith}
use Rattle.std.proofs.lemmas.Bool.Decides.{nat_tests}
use Rattle.html_tokenizer.proofs.FlagTable.{name_tells, small_tells}
use Rattle.html_tokenizer.proofs.flags.name_letter.Goals as goal

pub returns-then-flags-ne0 : goal.returns-then-flags-ne0
returns-then-flags-ne0 c =
    let tells = name_tells c.args.byte c.ranges.byte.fits in
    let small = small_tells c.args.byte c.ranges.byte.fits in
    grind (arith, nat_tests)

pub returns-else-flags-ne0 : goal.returns-else-flags-ne0
returns-else-flags-ne0 c =
    let tells = name_tells c.args.byte c.ranges.byte.fits in
    grind (arith, nat_tests)
