use Rattle.std.proofs.Common.{◌-◌, ◌∙◌, length, not, sym, ap, arith}
use Rattle.std.specs.Option.{is_some}
use Rattle.html_template.specs.Templates.{texts_of}
use Rattle.html_template_source.proofs.FirstFaults.{doubled_here, sound_here, unknown_here}
use Rattle.html_template_source.proofs.first_fault.first_refused.Goals as goal

pub returns-then-is_none : goal.returns-then-is_none
returns-then-is_none g c =
    unknown_here (texts_of c.args.names.now.distinct.items) c.bindings.rest.now _ (length c.args.bindings.now - length c.bindings.rest.now) _ c.in-len1-up.len_at_least
    (ap is_some (sym c.find.ensures) ∙ c.is_none.ensures ∙ ap not c.if-is_none.true) c.bindings.invariant.first

pub returns-then-is_bound : goal.returns-then-is_bound
returns-then-is_bound g c =
    doubled_here (texts_of c.args.names.now.distinct.items) c.bindings.rest.now _ (length c.args.bindings.now - length c.bindings.rest.now) _ c.in-len1-up.len_at_least
    (ap is_some (sym c.find.ensures) ∙ c.is_none.ensures ∙ ap not c.if-is_none.false) (sym c.is_bound.ensures ∙ c.if-is_bound.true) c.bindings.invariant.first

pub bindings-preserved : goal.bindings-preserved
bindings-preserved g c = record {
  first = sound_here (texts_of c.args.names.now.distinct.items) c.bindings.rest.now _ (length c.args.bindings.now - length c.bindings.rest.now) _ _ c.in-len1-up.len_at_least
      (ap is_some (sym c.find.ensures) ∙ c.is_none.ensures ∙ ap not c.if-is_none.false) (sym c.is_bound.ensures ∙ c.if-is_bound.false) (omega arith) c.bindings.invariant.first;
  shorter = omega arith;
}
