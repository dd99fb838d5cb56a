use Rattle.std.proofs.Common.{rules, ◌≡◌, List, ℕ, true, ◌++◌, take, drop, sym, ap, ◌∙◌}
use Rattle.std.proofs.lemmas.List.{append-nil, take_rest}
use Rattle.hesc_specs.specs.Bodies.Sessions.{is_partial, partial_end}
use Rattle.hesc_specs.proofs.Bodies.Held.{partial-ascii, partial-front, flushed-front, partial_end-front}
use Rattle.hesc_specs.proofs.Bodies.Decided.{partial_end-partial, partial-whole, partial-nothing}
use Rattle.hesc_specs.proofs.Bodies.DecidedChanges.{partial_end-place}
use Rattle.html_escape.specs.Held.{carry_bytes}
use Rattle.html_escape.specs.BodyEncoders.{held_by, kind_of}
use Rattle.html_escape.proofs.body_encoder.session.BodyEncoder.add_to_held.Goals as goal

pub returns-then-is_partial-clause-held : goal.returns-then-is_partial-clause-held
returns-then-is_partial-clause-held g c =
    let kind = kind_of c.args.self.now in
    let text : List ℕ = held_by c.args.self.now ++ c.args.piece.now in
    let front : carry_bytes c.first_of-front.result ≡ take 9 text = rw (c.as_slice.ensures, c.as_bytes.ensures.value) at c.first_of-front.ensures in
    let partial : is_partial kind (take 9 text) ≡ true = rw (c.as_slice-2.ensures, front) at (sym c.if-is_partial.ensures) in
    let whole : take 9 text ≡ text = partial-front kind text partial in
    front ∙ (whole ∙ sym (partial-whole kind text (rw whole at partial)))

pub returns-then-is_partial-clause-appended : goal.returns-then-is_partial-clause-appended
returns-then-is_partial-clause-appended g c =
    let kind = kind_of c.args.self.now in
    let text : List ℕ = held_by c.args.self.now ++ c.args.piece.now in
    let front : carry_bytes c.first_of-front.result ≡ take 9 text = rw (c.as_slice.ensures, c.as_bytes.ensures.value) at c.first_of-front.ensures in
    let partial : is_partial kind (take 9 text) ≡ true = rw (c.as_slice-2.ensures, front) at (sym c.if-is_partial.ensures) in
    let whole : take 9 text ≡ text = partial-front kind text partial in
    rw (partial-nothing kind text (rw whole at partial)) (sym (append-nil _))

pub invariant_of-flushed-clause-ascii : goal.invariant_of-flushed-clause-ascii
invariant_of-flushed-clause-ascii g c =
    rw c.held_text.ensures (partial-ascii (kind_of c.args.self.now) (held_by c.args.self.now) c.args.self.now.partial)

pub returns-in_err-append_parts-clause-fits : goal.returns-in_err-append_parts-clause-fits
returns-in_err-append_parts-clause-fits g c fits =
    let kind = kind_of c.args.self.now in
    let held = held_by c.args.self.now in
    let front : carry_bytes c.first_of-front.result ≡ take 9 (held ++ c.args.piece.now) = rw (c.as_slice.ensures, c.as_bytes.ensures.value) at c.first_of-front.ensures in
    let opened = rw (c.as_slice-3.ensures, c.as_slice-4.ensures) at c.is_opened-opens.ensures in
    let given_out = flushed-front kind held c.args.piece.now (carry_bytes c.first_of-front.result) c.is_opened-opens.result c.args.self.now.partial front
    (rw c.as_slice-2.ensures at (sym c.if-is_partial.ensures)) opened.none opened.some in
    absurd (cc ((rw c.held_text.ensures at c.in_err-append_parts.ensures.fits) (rw given_out.0 at fits)))

pub returns-clause-appended : goal.returns-clause-appended
returns-clause-appended g c =
    let kind = kind_of c.args.self.now in
    let held = held_by c.args.self.now in
    let front : carry_bytes c.first_of-front.result ≡ take 9 (held ++ c.args.piece.now) = rw (c.as_slice.ensures, c.as_bytes.ensures.value) at c.first_of-front.ensures in
    let opened = rw (c.as_slice-3.ensures, c.as_slice-4.ensures) at c.is_opened-opens.ensures in
    let given_out = flushed-front kind held c.args.piece.now (carry_bytes c.first_of-front.result) c.is_opened-opens.result c.args.self.now.partial front
    (rw c.as_slice-2.ensures at (sym c.if-is_partial.ensures)) opened.none opened.some in
    rw given_out.0 (rw c.held_text.ensures at c.in_ok-append_parts.ensures.appended)

pub returns-clause-held : goal.returns-clause-held
returns-clause-held g c =
    let kind = kind_of c.args.self.now in
    let held = held_by c.args.self.now in
    let piece = c.args.piece.now in
    let end = c.args.end in
    let front : carry_bytes c.first_of-front.result ≡ take 9 (held ++ piece) = rw (c.as_slice.ensures, c.as_bytes.ensures.value) at c.first_of-front.ensures in
    let opened = rw (c.as_slice-3.ensures, c.as_slice-4.ensures) at c.is_opened-opens.ensures in
    let given_out = flushed-front kind held piece (carry_bytes c.first_of-front.result) c.is_opened-opens.result c.args.self.now.partial front
    (rw c.as_slice-2.ensures at (sym c.if-is_partial.ensures)) opened.none opened.some in
    let last : carry_bytes c.first_of-self.result ≡ take 9 (drop end piece) = rw (take_rest c.as_bytes-bytes.result.now end, c.as_bytes-bytes.ensures.value) at c.first_of-self.ensures in
    last ∙ (ap (take 9) (sym (partial_end-place kind piece end c.requires)) ∙ (partial_end-front kind piece ∙ sym given_out.1))

pub returns-then-is_partial-clause-kind : goal.returns-then-is_partial-clause-kind
returns-then-is_partial-clause-kind g c = search rules

pub invariant_of-self-2 : goal.invariant_of-self-2
invariant_of-self-2 g c =
    let kind = kind_of c.args.self.now in
    let piece = c.args.piece.now in
    let end = c.args.end in
    let last : carry_bytes c.first_of-self.result ≡ take 9 (drop end piece) = rw (take_rest c.as_bytes-bytes.result.now end, c.as_bytes-bytes.ensures.value) at c.first_of-self.ensures in
    let held : carry_bytes c.first_of-self.result ≡ partial_end kind piece = last ∙ (ap (take 9) (sym (partial_end-place kind piece end c.requires)) ∙ partial_end-front kind piece) in
    record { partial = rw held (partial_end-partial kind piece) }
