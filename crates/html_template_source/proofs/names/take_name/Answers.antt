use Rattle.std.proofs.Common.{◌≡◌, ◌∙◌, Some, length, sym, ap, arith}
use Rattle.html_template.specs.Templates.{texts_of}
use Rattle.html_template_source.specs.Names.{number_of}
use Rattle.html_template_source.proofs.Numbers.{among_still, found_here, numbered}
use Rattle.html_template_source.proofs.names.take_name.Goals as goal

pub returns-then-eq-clause-number : goal.returns-then-eq-clause-number
returns-then-eq-clause-number g c = omega (arith, c.in-Some.ensures.lookup.3.0, ap length c.deref.ensures.value)

pub returns-then-eq-clause-name : goal.returns-then-eq-clause-name
returns-then-eq-clause-name g c =
    let at = c.in-Some.ensures.lookup in
    let value = c.deref.ensures.value in
    let known : Some c.args.guess ≡ number_of c.args.name.now (texts_of c.args.distinct.now.items) =
    found_here c.args.distinct.now.items c.args.name.now c.args.guess c.in-Some.other.now c.requires.single
    (omega (arith, ap length value)) (rw value at at.1) (sym c.eq.ensures ∙ c.if-eq.true) in
    (numbered c.args.name.now (texts_of c.args.distinct.now.items) c.args.guess (sym known)).1

pub returns-then-eq-clause-among : goal.returns-then-eq-clause-among
returns-then-eq-clause-among g c =
    let at = c.in-Some.ensures.lookup in
    let value = c.deref.ensures.value in
    let known : Some c.args.guess ≡ number_of c.args.name.now (texts_of c.args.distinct.now.items) =
    found_here c.args.distinct.now.items c.args.name.now c.args.guess c.in-Some.other.now c.requires.single
    (omega (arith, ap length value)) (rw value at at.1) (sym c.eq.ensures ∙ c.if-eq.true) in
    λ other. among_still (texts_of c.args.distinct.now.items) c.args.name.now other c.args.guess (sym known)
