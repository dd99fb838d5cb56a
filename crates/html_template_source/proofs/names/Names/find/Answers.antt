use Rattle.std.proofs.Common.{sym, ◌∙◌, length, arith, ap}
use Rattle.html_template_source.proofs.Numbers.{found_here}
use Rattle.html_template_source.proofs.names.Names.find.Goals as goal

pub returns-then-eq : goal.returns-then-eq
returns-then-eq g c =
    let at = c.in-Some.ensures.lookup in
    let value = c.deref-2.ensures.value in
    found_here c.args.self.now.distinct.items c.args.name.now c.guess_of-guess.result c.in-Some.other.now c.args.self.now.single
    (omega (arith, ap length value)) (rw value at at.1) (sym c.eq.ensures ∙ c.if-eq.true)
