use Rattle.hesc_specs.proofs.References.Undone.{decoded-encoding}
use Rattle.hesc_table.specs.Table.{rows_of}
use Rattle.hesc_laws.proofs.references_undo_encoders.Goals as goal

pub returns : goal.returns
returns c = decoded-encoding (rows_of c.args.table.now) c.args.table.now.good c.args.class c.args.text.now c.args.rest.now c.requires.html c.requires.other
