use Rattle.std.proofs.Common.{codes, drop}
use Rattle.hesc_sinks.proofs.Took.{failed, first_some}
use Rattle.html_escape.proofs.body_encoder.flush.put_held.Goals as goal

pub returns-in_err-put : goal.returns-in_err-put
returns-in_err-put g c =
    failed _ _ _ c.from_residual.result c.from_residual.ensures.0
    (rw c.if-not-opens.false (first_some _ _ (codes "<\\") (drop 1 c.args.held.now) c.in_err-put.ensures))
