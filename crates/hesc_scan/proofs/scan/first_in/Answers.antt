use Rattle.hesc_scan.proofs.scan.first_in.Goals as goal

pub returns : goal.returns
returns c = c.first_by_blocks.ensures
