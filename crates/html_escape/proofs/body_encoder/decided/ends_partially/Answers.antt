use Rattle.std.proofs.Common.{length, sym, ◌∙◌, arith}
use Rattle.std.proofs.lemmas.Bool.{false_from_ne_true, lt-leb}
use Rattle.hesc_specs.proofs.Bodies.Held.{partial-short}
use Rattle.html_escape.proofs.body_encoder.decided.ends_partially.Goals as goal

pub returns-else-bytes-le-MOST_UNDECIDED : goal.returns-else-bytes-le-MOST_UNDECIDED
returns-else-bytes-le-MOST_UNDECIDED c =
    let many = c.if-bytes-le-MOST_UNDECIDED.false in
    lt-leb (length c.args.bytes.now) 8 many ∙ sym (false_from_ne_true _ (λ partial. absurd (omega (arith, many, partial-short c.args.element c.args.bytes.now partial))))
