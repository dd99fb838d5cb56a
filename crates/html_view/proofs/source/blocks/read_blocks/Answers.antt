use Rattle.std.proofs.Common.{rules, ◌≡◌, ◌≢◌, true, false, [], ◌∷◌, ◌++◌, length, Some, refl, sym, ap, ◌∙◌, append-nil, append_assoc, arith}
use Rattle.html_view.specs.Cursors.{Passes, here_of}
use Rattle.html_view.specs.Reading.{gives_behind, gives_block, gives_none, gives_past, has_end}
use Rattle.html_view.specs.declared.source.blocks.Block.{Block}
use Rattle.html_view.specs.declared.source.cursor.Tag.{Tag}
use Rattle.html_view.specs.declared.source.tag.Sign.TheVariants.{End}
use Rattle.html_view.specs.declared.source.tag.Sign.TheVariants as sign
use Rattle.html_view.proofs.SourceReads.{on_ok}
use Rattle.html_view.proofs.source.blocks.read_blocks.Goals as goal
use Rattle.html_view.proofs.source.blocks.read_blocks.Goals.{then-eq-2+in_ok-add_block-in-Some-2, else-eq-2}

pub returns-in-Some-clause-gives : goal.returns-in-Some-clause-gives
returns-in-Some-clause-gives g c =
    let passes : Passes (here_of c.loop-piece.cursor) c.in_ok-piece.piece.markup.now (Some c.in-Some.tag) (here_of c.next.new.self) =
    rw c.in-Some.is at c.in_ok-piece.ensures.passes in
    let is : c.in-Some.tag.sign ≡ End = search rules in
    let outer : c.len-outer.result ≡ length c.args.given.now.items = search rules in
    on_ok c.end-in-Some.result _ _ c.end-in-Some.ensures.closes
    (λ closes.
    let all = c.loop-piece.invariant.leads [] (here_of c.next.new.self)
    (gives_none (record {
      found = Some c.in-Some.tag;
      passes = passes;
      is_end = is;
      closes = sym (ap (λ (tag : Tag). tag.name.now) c.in-Some.tag-is) ∙ closes;
    })) in
    record {
      blocks = all.0;
      gives = rw outer at all.1;
      same = sym (append-nil c.loop-piece.given.items) ∙ all.2;
    })

pub loop-piece-preserved-then-has_end : goal.loop-piece-preserved-then-has_end
loop-piece-preserved-then-has_end g c =
    let passes : Passes (here_of c.loop-piece.cursor) c.in_ok-piece.piece.markup.now (Some c.in-Some-2.tag) (here_of c.next.new.self) =
    rw c.in-Some-2.is at c.in_ok-piece.ensures.passes in
    let ended : has_end c.in-Some-2.tag.sign ≡ true = sym c.has_end.ensures ∙ c.if-has_end.true in
    record {
      shorter = omega (arith, c.in_ok-skip-in-Some-2.ensures.shorter);
      leads = λ blocks next gives. elim c.if-eq-2.branch [
        | then-eq-2+in_ok-add_block-in-Some-2 w ↦
            let block : Block = record { tag = c.in-Some-2.tag; cursor = c.next.new.self; outer = c.len-outer.result } in
            let is : c.in-Some-2.tag.sign ≡ sign.Block = search rules in
            let all = c.loop-piece.invariant.leads (block ∷ blocks) next (gives_block {block = block} passes is refl c.in_ok-skip-in-Some-2.ensures.skips gives) in
            let items : c.if-eq-2.given.items ≡ c.loop-piece.given.items ++ block ∷ [] = search rules in (
              all.0,
              all.1,
              ap (λ x. x ++ blocks) items ∙ append_assoc c.loop-piece.given.items (block ∷ []) blocks ∙ all.2,
            )
        | else-eq-2 w ↦
            let other : c.in-Some-2.tag.sign ≢ sign.Block = search rules in
            let all = c.loop-piece.invariant.leads blocks next (gives_behind passes ended other c.in_ok-skip-in-Some-2.ensures.skips gives) in
            let items : c.if-eq-2.given.items ≡ c.loop-piece.given.items = search rules in
            (all.0, all.1, ap (λ x. x ++ blocks) items ∙ all.2)
      ];
    }

pub loop-piece-preserved : goal.loop-piece-preserved
loop-piece-preserved g c =
    let passes : Passes (here_of c.loop-piece.cursor) c.in_ok-piece.piece.markup.now (Some c.in-Some-3.field-0) (here_of c.next.new.self) =
    rw c.in-Some-3.is at c.in_ok-piece.ensures.passes in
    let same : c.in-Some-2.tag ≡ c.in-Some-3.field-0 = cc in
    let first : c.in-Some.tag ≡ c.in-Some-3.field-0 = cc in
    let ended : has_end c.in-Some-3.field-0.sign ≡ false =
    ap (λ (tag : Tag). has_end tag.sign) (sym same) ∙ sym c.has_end.ensures ∙ c.if-has_end.false in
    let some : c.in-Some.tag.sign ≢ End = search rules in
    let other : c.in-Some-3.field-0.sign ≢ End = λ is. some (ap (λ (tag : Tag). tag.sign) first ∙ is) in
    record {
      shorter = omega arith;
      leads = λ blocks next gives. c.loop-piece.invariant.leads blocks next (gives_past passes ended other gives);
    }
