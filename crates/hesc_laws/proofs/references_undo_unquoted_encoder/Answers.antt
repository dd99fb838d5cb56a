use Rattle.hesc_specs.proofs.References.Undone.{decoded-unquoted_encoding}
use Rattle.hesc_table.specs.Table.{rows_of}
use Rattle.hesc_laws.proofs.references_undo_unquoted_encoder.Goals as goal

pub returns : goal.returns
returns c = decoded-unquoted_encoding (rows_of c.args.table.now) c.args.table.now.good c.args.text.now c.args.rest.now
