use Rattle.hesc_table.specs.Table.{rows_of}
use Rattle.hesc_specs.proofs.References.Places.{none_left}
use Rattle.hesc_core.proofs.rules.references.ReferencesRule.seeks.Goals as goal

pub returns-clause-ends : goal.returns-clause-ends
returns-clause-ends c source text from boundary none = none_left (rows_of c.args.self.now.0.now) source from none
