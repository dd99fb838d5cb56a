use Rattle.hesc_tool.proofs.program.serve.Goals as goal

pub returns : goal.returns
returns g c = (_, c.outcome_of-outcome.ensures, c.end.ensures)
