use Rattle.hesc_tool.proofs.program.run_and_flush.Goals as goal

pub returns-in-Err : goal.returns-in-Err
returns-in-Err g c = c.in-Err.ensures
