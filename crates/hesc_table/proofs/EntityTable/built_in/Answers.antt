use Rattle.std.proofs.Common.{◌≡◌, true, refl, sym, subst}
use Rattle.std.specs.Prelude.{IsTrue}
use Rattle.hesc_specs.specs.References.Rows.{are_short}
use Rattle.hesc_specs.specs.References.TableFaults.{is_table}
use Rattle.hesc_table.specs.Index.{is_index_of}
use Rattle.hesc_table.specs.NamedRows.{named_rows}
use Rattle.hesc_table.proofs.NamedTable.{constant-named_rows, good-named_rows, short-named_rows}
use Rattle.hesc_table.proofs.EntityTable.built_in.Goals as goal

pub invariant_of-result : goal.invariant_of-result
unfolding is_index_of
invariant_of-result c = record {
  good = subst (λ rows. IsTrue (is_table rows)) (sym constant-named_rows) good-named_rows;
  grows = subst (λ rows. IsTrue (are_short rows)) (sym constant-named_rows) short-named_rows;
  complete = rw (c.of.ensures.seeds, c.of.ensures.slots) refl;
}

pub returns-clause-rows : goal.returns-clause-rows
returns-clause-rows c = constant-named_rows
