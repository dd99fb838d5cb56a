use Rattle.std.proofs.Common.{◌≡◌, [], ◌++◌, ◌+◌, ◌<◌, ℕ, Bor, List, take, get_or, length, arith, sym, ap, ◌∙◌, append_assoc}
use Rattle.std.proofs.lemmas.Grind.{common_steps}
use Rattle.std.proofs.lemmas.List.{append-nil, take_all}
use Rattle.std.specs.List.{flat_map}
use Rattle.std.specs.String.{string_bytes}
use Rattle.html_escape.proofs.body_encoder.pieces.push_pieces.Goals as goal

-- the pieces so far and one more, joined
joined_more : (pieces : List (Bor (List ℕ))) (i : ℕ) (d : Bor (List ℕ)) → i < length pieces
    → flat_map (λ piece. piece.now) (take i pieces) ++ (get_or pieces i d).now ≡ flat_map (λ piece. piece.now) (take (i + 1) pieces)
joined_more pieces i d within = grind (arith, common_steps)

grown : (old out new added more : List ℕ) → out ≡ old ++ added → new ≡ out ++ more → new ≡ old ++ (added ++ more)
grown old out new added more before is = is ∙ (ap (λ x. x ++ more) before ∙ append_assoc old added more)

pub loop-piece-init : goal.loop-piece-init
loop-piece-init g c = ([], c.new-session.ensures.begun, sym (append-nil _))

pub loop-piece-preserved : goal.loop-piece-preserved
loop-piece-preserved g c =
    let (added, encoded, is) = c.loop-piece.invariant in
    let appended = rw c.in_ok-append_piece.was at c.append_piece.follows.holds-at-none in
    let more = c.in_ok-append_piece.ensures.goes_on c.args.kind _ added encoded in
    (_, rw (joined_more c.args.pieces.now c.loop-piece.piece-index (record { ref_ptr = (0, 0); now = [] }) c.loop-piece-test.true) at more, grown _ _ _ added _ is appended)

pub returns-clause-all : goal.returns-clause-all
returns-clause-all g c =
    let (added, encoded, is) = c.loop-piece.invariant in
    let appended = rw c.in_ok-append_rest.was at c.append_rest.follows.holds-at-none in
    let whole = rw (take_all c.loop-piece.piece-index c.args.pieces.now c.loop-piece-test.false) at (c.in_ok-append_rest.ensures.whole c.args.kind _ added encoded) in
    grown _ _ _ added _ is appended ∙ ap (λ x. string_bytes c.args.output.now ++ x) whole
