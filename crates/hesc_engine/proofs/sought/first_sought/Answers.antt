use Rattle.hesc_engine.proofs.sought.first_sought.Goals as goal

pub returns-in-InClass : goal.returns-in-InClass
returns-in-InClass c = rw c.in-InClass.is c.first_block.ensures
