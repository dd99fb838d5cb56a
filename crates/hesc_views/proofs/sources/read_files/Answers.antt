use Rattle.std.proofs.Common.{◌+◌, arith}
use Rattle.hesc_views.proofs.Read.{read_more}
use Rattle.hesc_views.proofs.sources.read_files.Goals as goal

pub loop-path-preserved : goal.loop-path-preserved
loop-path-preserved g c =
    read_more _ c.args.paths.now c.loop-path.path-index (c.loop-path.path-index + 1) _ _ _ _ (omega arith) (omega arith) c.in-Ok.ensures.items c.loop-path.invariant c.in_ok-text.ensures.text
