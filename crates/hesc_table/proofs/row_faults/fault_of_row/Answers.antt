use Rattle.std.proofs.Common.{refl, ◌∙◌}
use Rattle.hesc_table.proofs.Halving.{stored_name, stored_value}
use Rattle.hesc_table.proofs.row_faults.fault_of_row.Goals as goal

pub returns : goal.returns
returns c =
    let name = stored_name c.args.rows.now c.args.i c.requires in
    let value = stored_value c.args.rows.now c.args.i c.requires in
    c.first_of.ensures ∙ rw (c.is_empty.ensures, c.is_alphanumeric-is_bad.ensures, c.is_wrong_common-is_wrong.ensures, c.is_unordered.ensures, name, value) refl
