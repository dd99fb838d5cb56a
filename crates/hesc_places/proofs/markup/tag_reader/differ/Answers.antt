use native.Mathlib.Numerals.{unary_clauses}
use Rattle.std.proofs.Common.{suc, ◌∷◌, ap, drop, sym, ◌∙◌, arith}
use Rattle.std.proofs.lemmas.Grind.{common_steps}
use Rattle.std.proofs.Math.Seq.{drop-cons}
use Rattle.hesc_places.proofs.Pages.StoodNames.{new_first, old_first}
use Rattle.hesc_places.proofs.markup.tag_reader.differ.Goals as goal

pub loop-name-preserved : goal.loop-name-preserved
loop-name-preserved g c =
    let item = c.loop-name-item.result in
    let cut = drop-cons c.args.attributes.now c.loop-name.name-index item c.loop-name-test.true
    ∙ ap (λ first. first ∷ drop (suc c.loop-name.name-index) c.args.attributes.now) (sym c.loop-name-item.is) in
    simp unary_clauses (new_first c.loop-name.names.keys c.add_name.new.names.keys item.0.items _ _
    (rw c.as_slice.ensures.value at (sym c.if-branch.false ∙ c.in_ok-add_name.ensures.stood))
    (rw c.as_slice.ensures.value at c.in_ok-add_name.ensures.added)
    (rw cut at c.loop-name.invariant))

pub returns-then-branch : goal.returns-then-branch
returns-then-branch g c = grind (arith, common_steps, old_first)
