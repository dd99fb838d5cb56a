use Rattle.hesc_views.proofs.Flushed.{flushed}
use Rattle.hesc_views.proofs.program.run_and_flush.Goals as goal

pub returns-in-Ok : goal.returns-in-Ok
returns-in-Ok g c =
    flushed _ _ _ _ _ _ _ _ c.flush.result c.after_flush.result c.in-Ok.ensures c.flush.ensures.bytes c.after_flush.ensures
