use Rattle.std.proofs.Common.{rules, ◌≡◌, ◌≢◌, true, false, [], Some, sym, ap, subst, ◌∙◌, append-nil, arith}
use Rattle.html_view.specs.Cursors.{Passes, here_of}
use Rattle.html_view.specs.Reading.{Turns, at_comment, at_end, at_markup, at_tag, at_text, is_space, spaces_of, turns, turns_behind, with_space}
use Rattle.html_view.specs.declared.source.tag.Sign.TheVariants.{Comment, Unless}
use Rattle.html_view.proofs.source.sections.Otherwise.pass.Goals as goal

pub returns-then-is_at_text-clause-turns : goal.returns-then-is_at_text-clause-turns
returns-then-is_at_text-clause-turns g c =
    (c.loop-ahead.invariant.leads_not (at_text (c.is_at_text.ensures c.if-is_at_text.true)), ap here_of c.loop-ahead.invariant.still)

pub returns-in_default-clause-turns : goal.returns-in_default-clause-turns
returns-in_default-clause-turns g c = (
  c.loop-ahead.invariant.leads_not (at_end (rw c.in_default.is at c.in_ok-piece.ensures.passes).1),
  ap here_of c.loop-ahead.invariant.still,
)

pub returns-then-not-is_space-clause-turns : goal.returns-then-not-is_space-clause-turns
returns-then-not-is_space-clause-turns g c =
    let passes : Passes (here_of c.loop-ahead.ahead) c.in_ok-piece.piece.markup.now (Some c.in-Some.tag) (here_of c.next.new.self) =
    rw c.in-Some.is at c.in_ok-piece.ensures.passes in
    let other : is_space c.in_ok-piece.piece.markup.now ≡ false = sym c.is_space.ensures ∙ c.if-not-is_space.true in
    (c.loop-ahead.invariant.leads_not (at_markup passes other), ap here_of c.loop-ahead.invariant.still)

pub loop-ahead-preserved : goal.loop-ahead-preserved
loop-ahead-preserved g c =
    let passes : Passes (here_of c.loop-ahead.ahead) c.in_ok-piece.piece.markup.now (Some c.in-Some.tag) (here_of c.next.new.self) =
    rw c.in-Some.is at c.in_ok-piece.ensures.passes in
    let space : is_space c.in_ok-piece.piece.markup.now ≡ true = sym c.is_space.ensures ∙ c.if-not-is_space.false in
    let is : c.in-Some.tag.sign ≡ Comment = search rules in
    record {
      shorter = omega arith;
      still = c.loop-ahead.invariant.still;
      leads = λ spaces unless next turns.
          rw (c.in_ok-keep_space.ensures.spaces spaces) (c.loop-ahead.invariant.leads (with_space c.in_ok-piece.piece.markup.now spaces) unless next (turns_behind passes space is turns));
      leads_not = λ other. c.loop-ahead.invariant.leads_not (at_comment passes space is other);
    }

pub returns-then-is_unless-clause-turns : goal.returns-then-is_unless-clause-turns
returns-then-is_unless-clause-turns g c =
    let passes : Passes (here_of c.loop-ahead.ahead) c.in_ok-piece.piece.markup.now (Some c.in-Some.tag) (here_of c.next.new.self) =
    rw c.in-Some.is at c.in_ok-piece.ensures.passes in
    let space : is_space c.in_ok-piece.piece.markup.now ≡ true = sym c.is_space.ensures ∙ c.if-not-is_space.false in
    let is = c.is_unless.ensures.0 c.if-is_unless.true in
    let all = c.loop-ahead.invariant.leads (with_space c.in_ok-piece.piece.markup.now []) c.in-Some.tag (here_of c.next.new.self)
    (turns passes space is.0 is.1) in
    subst (λ s. Turns c.args.name.now (here_of c.args.cursor.now) s c.in-Some.tag (here_of c.next.new.self))
    (sym (c.in_ok-keep_space.ensures.spaces []) ∙ append-nil (spaces_of c.keep_space.new.space.items)) all

pub returns-in-loop-ahead-clause-turns : goal.returns-in-loop-ahead-clause-turns
returns-in-loop-ahead-clause-turns g c =
    let passes : Passes (here_of c.loop-ahead.ahead) c.in_ok-piece.piece.markup.now (Some c.in-Some.tag) (here_of c.next.new.self) =
    rw c.in-Some.is at c.in_ok-piece.ensures.passes in
    let other : c.in-Some.tag.sign ≢ Comment = search rules in
    let unlike : c.in-Some.tag.sign ≡ Unless → c.in-Some.tag.name.now ≢ c.args.name.now =
    λ is name. let clash : false ≡ true = sym c.if-is_unless.false ∙ c.is_unless.ensures.1 (is, name) in cc in
    (c.loop-ahead.invariant.leads_not (at_tag passes other unlike), ap here_of c.loop-ahead.invariant.still)
