use Rattle.std.proofs.Common.{rules, arith}
use Rattle.std.proofs.KnownBytes.{Appends-kept}
use Rattle.std.proofs.lemmas.Grind.{common_steps}
use Rattle.std.proofs.lemmas.List.{take_all}
use Rattle.hesc_tool.proofs.Written.{Appends-next, AppendsBeginning-take}
use Rattle.hesc_tool.proofs.steps.write_whole.Goals as goal

pub returns-in_default-clause-began : goal.returns-in_default-clause-began
returns-in_default-clause-began g c =
    let kept = Appends-kept _ _ _ _ c.writing.invariant.written c.in_default.ensures.bytes in
    AppendsBeginning-take _ _ _ c.writing.at kept

pub returns-then-count-eq0-clause-began : goal.returns-then-count-eq0-clause-began
returns-then-count-eq0-clause-began g c =
    let next = Appends-next _ _ _ c.args.bytes.now c.writing.at c.in-Ok.count c.writing.invariant.written
    (grind (arith, common_steps, c.in-Ok.ensures.bytes)) in
    AppendsBeginning-take _ _ _ _ next

pub writing-preserved : goal.writing-preserved
writing-preserved g c = record {
  within = search rules;
  written = Appends-next _ _ _ _ _ _ c.writing.invariant.written (grind (arith, common_steps, c.in-Ok.ensures.bytes));
}

pub returns-clause-all : goal.returns-clause-all
returns-clause-all g c = rw (take_all c.writing.at c.args.bytes.now c.writing-test.false) at c.writing.invariant.written
