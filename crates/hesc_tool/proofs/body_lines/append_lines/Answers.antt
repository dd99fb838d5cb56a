use Rattle.std.proofs.Common.{◌≡◌, ◌≤◌, ℕ, List, ◌++◌, drop, refl, sym, ap, ◌∙◌, append_assoc, arith}
use Rattle.std.proofs.lemmas.List.Folds.{drop_split}
use Rattle.std.proofs.lemmas.Str.{IsCharBoundary-start}
use Rattle.std.specs.Prelude.{slice_range}
use Rattle.std.specs.String.{string_bytes}
use Rattle.hesc_specs.specs.Bodies.Encoding.{body_encoding}
use Rattle.hesc_specs.specs.Bodies.Sessions.{decided_encoding}
use Rattle.hesc_specs.specs.declared.elements.Element.{Element}
use Rattle.html_escape.specs.BodyEncoders.{held_by}
use Rattle.hesc_tool.proofs.body_lines.append_lines.Goals as goal

pub pushing-init : goal.pushing-init
pushing-init g c = record {
  boundary = IsCharBoundary-start c.args.text.now c.utf8.text;
  kind = c.new-session.ensures.kind;
  added = rw c.new-session.ensures.nothing refl;
}

-- one line more was pushed
pushed : (kind : Element) (old out new held held' added line text : List ℕ) (from end : ℕ) → from ≤ end → line ≡ slice_range text from end → new ≡ out ++ added
    → ((rest : List ℕ) → body_encoding kind (held ++ (line ++ rest)) ≡ added ++ body_encoding kind (held' ++ rest))
    → out ++ body_encoding kind (held ++ drop from text) ≡ old ++ body_encoding kind text
    → new ++ body_encoding kind (held' ++ drop end text) ≡ old ++ body_encoding kind text
pushed kind old out new held held' added line text from end ordered is appended step before =
    let rest : drop from text ≡ line ++ drop end text = drop_split text from end ordered ∙ ap (λ x. x ++ drop end text) (sym is) in
    ap (λ x. x ++ body_encoding kind (held' ++ drop end text)) appended
    ∙ (append_assoc out added (body_encoding kind (held' ++ drop end text))
    ∙ (ap (λ x. out ++ x) (sym (step (drop end text))) ∙ rw rest at before))

pub pushing-preserved : goal.pushing-preserved
pushing-preserved g c =
    let pushing = c.in_ok-append_piece.ensures in
    let appended = rw c.in_ok-append_piece.was at c.append_piece.follows.holds-at-none in
    let before = c.pushing.invariant in
    record {
      boundary = c.end_of_line-end.ensures.boundary;
      kind = pushing.kind ∙ before.kind;
      added = pushed c.args.kind (string_bytes c.args.output.now) (string_bytes c.pushing.output) (string_bytes c.append_piece.follows.lender-at-none) (held_by c.pushing.session) (held_by c.append_piece.new.session)
          (decided_encoding c.args.kind (held_by c.pushing.session ++ c.range.result.now)) c.range.result.now c.args.text.now c.pushing.from c.end_of_line-end.result (omega (arith, c.end_of_line-end.ensures.after))
          c.range.ensures.value (rw before.kind at appended) (rw (pushing.part.part, before.kind) at pushing.step.0) before.added;
    }
