use Rattle.std.proofs.Common.{◌≡◌, ℕ, List, ◌++◌, Result, Ok, Err, OnOk, length, refl, sym, ◌∙◌}
use Rattle.std.proofs.lemmas.Result.{on_ok_weaker}
use Rattle.hesc_specs.specs.Bodies.DecidedChanges.{partial_at}
use Rattle.hesc_specs.specs.Bodies.Sessions.{IsStep, decided_encoding, partial_end}
use Rattle.hesc_specs.specs.Text.FirstPlace.{IsFirstAt}
use Rattle.hesc_specs.specs.declared.elements.Element.{Element}
use Rattle.hesc_specs.proofs.Bodies.Decided.{decided-step}
use Rattle.hesc_specs.proofs.Bodies.Held.{partial-short}
use Rattle.html_escape.specs.BodyEncoders.{held_by, kind_of}
use Rattle.html_escape.proofs.Sessions.{pushed_more}
use Rattle.html_escape.proofs.WholePieces.{whole-added}
use Rattle.html_escape.proofs.body_encoder.session.BodyEncoder.add_piece.Goals as goal

on_ok : {T E Q : Type 0} (r : Result T E) → Q → OnOk r Q
on_ok (Ok value) holds = holds
on_ok (Err fault) holds = tt

step_of : (element : Element) (held piece held' : List ℕ) → held' ≡ partial_end element (held ++ piece) → IsStep element held piece held' (decided_encoding element (held ++ piece))
step_of element held piece held' is = rw is (decided-step element held piece)

pub returns-then-end-piece-clause-appended : goal.returns-then-end-piece-clause-appended
returns-then-end-piece-clause-appended g c =
    let piece = c.args.piece.now in
    let first : IsFirstAt (partial_at (kind_of c.args.self.now) piece) 0 (length piece) c.first_partial-end.result = rw c.as_bytes.ensures.value at c.first_partial-end.ensures in
    let whole = whole-added (kind_of c.args.self.now) (held_by c.args.self.now) piece c.first_partial-end.result (rw c.as_slice.ensures at (sym c.is_empty.ensures ∙ c.if-is_empty.true)) first c.if-end-piece.true in
    rw whole.0 c.append_body.ensures.appended

pub returns-then-end-piece-clause-fits : goal.returns-then-end-piece-clause-fits
returns-then-end-piece-clause-fits g c fits =
    let piece = c.args.piece.now in
    let first : IsFirstAt (partial_at (kind_of c.args.self.now) piece) 0 (length piece) c.first_partial-end.result = rw c.as_bytes.ensures.value at c.first_partial-end.ensures in
    let whole = whole-added (kind_of c.args.self.now) (held_by c.args.self.now) piece c.first_partial-end.result (rw c.as_slice.ensures at (sym c.is_empty.ensures ∙ c.if-is_empty.true)) first c.if-end-piece.true in
    c.append_body.ensures.fits (rw whole.0 at fits)

pub returns-then-end-piece-clause-held : goal.returns-then-end-piece-clause-held
returns-then-end-piece-clause-held g c =
    let piece = c.args.piece.now in
    let first : IsFirstAt (partial_at (kind_of c.args.self.now) piece) 0 (length piece) c.first_partial-end.result = rw c.as_bytes.ensures.value at c.first_partial-end.ensures in
    let whole = whole-added (kind_of c.args.self.now) (held_by c.args.self.now) piece c.first_partial-end.result (rw c.as_slice.ensures at (sym c.is_empty.ensures ∙ c.if-is_empty.true)) first c.if-end-piece.true in
    on_ok c.append_body.result (sym whole.1)

pub returns-then-end-piece-clause-step : goal.returns-then-end-piece-clause-step
returns-then-end-piece-clause-step g c =
    on_ok_weaker c.append_body.result (step_of (kind_of c.args.self.now) (held_by c.args.self.now) c.args.piece.now _) (returns-then-end-piece-clause-held g c)

pub returns-then-end-piece-clause-goes_on : goal.returns-then-end-piece-clause-goes_on
returns-then-end-piece-clause-goes_on g c =
    on_ok_weaker c.append_body.result (λ step element given added. pushed_more _ _ element given added _ _ refl step) (returns-then-end-piece-clause-step g c)

pub returns-clause-step : goal.returns-clause-step
returns-clause-step g c =
    on_ok_weaker c.add_to_held.result (step_of (kind_of c.args.self.now) (held_by c.args.self.now) c.args.piece.now _) c.add_to_held.ensures.held

pub returns-clause-goes_on : goal.returns-clause-goes_on
returns-clause-goes_on g c =
    on_ok_weaker c.add_to_held.result (λ step element given added. pushed_more _ _ element given added _ _ c.add_to_held.ensures.kind step) (returns-clause-step g c)

pub returns-clause-few : goal.returns-clause-few
returns-clause-few g c = partial-short _ _ c.add_to_held.new.self.partial
