use Rattle.std.proofs.Common.{◌++◌}
use Rattle.hesc_sinks.proofs.Took.{both, both_some, failed, first_some}
use Rattle.html_escape.specs.Encoders.{encoded}
use Rattle.hesc_places.proofs.place.enclosed.put_between.Goals as goal

pub returns-in_err-run : goal.returns-in_err-run
returns-in_err-run g c =
    let made = encoded c.args.encoder c.args.text.now in
    failed _ _ _ c.from_residual-in_err-run.result c.from_residual-in_err-run.ensures.0
    (both_some _ _ _ c.args.before.now (made ++ c.args.after.now) c.in_ok-put.ensures (first_some _ _ made c.args.after.now c.in_err-run.ensures))

pub returns : goal.returns
returns g c =
    let made = encoded c.args.encoder c.args.text.now in
    both _ _ _ c.args.before.now (made ++ c.args.after.now) _ c.in_ok-put.ensures
    (both _ _ _ made c.args.after.now _ c.in_ok-run.ensures c.put-2.ensures)
