use Rattle.std.proofs.Common.{rules, ◌≡◌, ◌≢◌, true, false, Some, sym, ap, ◌∙◌, arith}
use Rattle.html_view.specs.Cursors.{Passes, here_of}
use Rattle.html_view.specs.Reading.{has_end, skips_past, skips_to_end, skips_within}
use Rattle.html_view.specs.declared.source.cursor.Tag.{Tag}
use Rattle.html_view.specs.declared.source.tag.Sign.TheVariants.{End}
use Rattle.html_view.proofs.SourceReads.{on_ok}
use Rattle.html_view.proofs.source.blocks.+skip.Goals as goal

pub returns-in-Some-clause-skips : goal.returns-in-Some-clause-skips
returns-in-Some-clause-skips t c =
    let passes : Passes (here_of c.loop-piece.cursor) c.in_ok-piece.piece.markup.now (Some c.in-Some.tag) (here_of c.next.new.self) =
    rw c.in-Some.is at c.in_ok-piece.ensures.passes in
    let is : c.in-Some.tag.sign ≡ End = search rules in
    on_ok c.end-in-Some.result _ _ c.end-in-Some.ensures.closes
    (λ closes. c.loop-piece.invariant.leads (here_of c.next.new.self)
    (skips_to_end (record {
      found = Some c.in-Some.tag;
      passes = passes;
      is_end = is;
      closes = sym (ap (λ (tag : Tag). tag.name.now) c.in-Some.tag-is) ∙ closes;
    })))

pub loop-piece-preserved-then-has_end : goal.loop-piece-preserved-then-has_end
loop-piece-preserved-then-has_end t c =
    let passes : Passes (here_of c.loop-piece.cursor) c.in_ok-piece.piece.markup.now (Some c.in-Some-2.tag) (here_of c.next.new.self) =
    rw c.in-Some-2.is at c.in_ok-piece.ensures.passes in
    let ended : has_end c.in-Some-2.tag.sign ≡ true = sym c.has_end.ensures ∙ c.if-has_end.true in
    record {
      shorter = omega (arith, c.in_ok-skip-in-Some-2.ensures.shorter);
      leads = λ next more. c.loop-piece.invariant.leads next (skips_within passes ended c.in_ok-skip-in-Some-2.ensures.skips more);
    }

pub loop-piece-preserved : goal.loop-piece-preserved
loop-piece-preserved t c =
    let passes : Passes (here_of c.loop-piece.cursor) c.in_ok-piece.piece.markup.now (Some c.in-Some-3.field-0) (here_of c.next.new.self) =
    rw c.in-Some-3.is at c.in_ok-piece.ensures.passes in
    let same : c.in-Some-2.tag ≡ c.in-Some-3.field-0 = cc in
    let first : c.in-Some.tag ≡ c.in-Some-3.field-0 = cc in
    let ended : has_end c.in-Some-3.field-0.sign ≡ false =
    ap (λ (tag : Tag). has_end tag.sign) (sym same) ∙ sym c.has_end.ensures ∙ c.if-has_end.false in
    let some : c.in-Some.tag.sign ≢ End = search rules in
    let other : c.in-Some-3.field-0.sign ≢ End = λ is. some (ap (λ (tag : Tag). tag.sign) first ∙ is) in
    record {
      shorter = omega arith;
      leads = λ next more. c.loop-piece.invariant.leads next (skips_past passes ended other more);
    }
