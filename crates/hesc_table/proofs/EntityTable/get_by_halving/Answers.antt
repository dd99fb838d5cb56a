use Rattle.std.proofs.Common.{◌≡◌, ◌+◌, ◌-◌, ◌/◌, ◌<◌, ◌≤◌, ℕ, List, Bor, Less, Equal, Greater, Ordering, length, sym, ap, ◌∙◌, arith, le_refl}
use Rattle.std.specs.Cmp.Lexicographic.{slice_cmp}
use Rattle.std.specs.Ordering.{nat_cmp}
use Rattle.std.specs.Prelude.{Some}
use Rattle.std.proofs.lemmas.List.{length-map}
use Rattle.hesc_specs.specs.References.Rows.{row_at}
use Rattle.hesc_table.specs.Rows.{rows_in}
use Rattle.hesc_table.specs.Table.{rows_of}
use Rattle.hesc_table.proofs.Halving.{stored, stored_name, stored_value, Below-more, Above-more, found_in_middle, nowhere}
use Rattle.hesc_table.proofs.EntityTable.get_by_halving.Goals as goal

within_rows : (rows : List (Bor (List ℕ) × Bor (List ℕ))) (low high : ℕ) → low < high → high ≤ length rows → low + (high - low) / 2 < length (rows_in rows)
within_rows rows low high some within = rw (length-map rows) (omega arith)

compared : (rows : List (Bor (List ℕ) × Bor (List ℕ))) (i : ℕ) (name : List ℕ) (order : Ordering) → i < length (rows_in rows) → order ≡ slice_cmp nat_cmp (stored rows i).0.now name
    → slice_cmp nat_cmp (row_at (rows_in rows) i).0 name ≡ order
compared rows i name order within is = rw (stored_name rows i (rw (length-map rows) at within)) (sym is)

pub halving-init : goal.halving-init
halving-init c = record {
  within = le_refl _;
  below = λ k lower. absurd (omega (arith, lower));
  above = λ k from within. absurd (omega (arith, from, rw (length-map c.args.self.now.rows.now) at within));
}

pub halving-preserved-in-Less : goal.halving-preserved-in-Less
halving-preserved-in-Less c =
    let rows = c.args.self.now.rows.now in
    let middle = c.halving.low + (c.halving.high - c.halving.low) / 2 in
    let within : middle < length (rows_in rows) = within_rows rows c.halving.low c.halving.high c.halving-test.true c.halving.invariant.within in
    record {
      within = c.halving.invariant.within;
      below = Below-more (rows_in rows) c.args.self.now.good c.args.name.now middle within (compared rows middle c.args.name.now Less within c.in-Less.ensures);
      above = c.halving.invariant.above;
    }

pub halving-preserved : goal.halving-preserved
halving-preserved c =
    let rows = c.args.self.now.rows.now in
    let middle = c.halving.low + (c.halving.high - c.halving.low) / 2 in
    let within : middle < length (rows_in rows) = within_rows rows c.halving.low c.halving.high c.halving-test.true c.halving.invariant.within in
    record {
      within = omega (arith, c.halving.invariant.within, c.halving-test.true);
      below = c.halving.invariant.below;
      above = Above-more (rows_in rows) c.args.self.now.good c.args.name.now middle (compared rows middle c.args.name.now Greater within c.in-Greater.ensures);
    }

pub returns-in-Equal : goal.returns-in-Equal
returns-in-Equal c =
    let rows = c.args.self.now.rows.now in
    let middle = c.halving.low + (c.halving.high - c.halving.low) / 2 in
    let within : middle < length (rows_in rows) = within_rows rows c.halving.low c.halving.high c.halving-test.true c.halving.invariant.within in
    let found = found_in_middle (rows_in rows) c.args.self.now.good c.args.name.now middle within (compared rows middle c.args.name.now Equal within c.in-Equal.ensures) in
    sym (found ∙ ap Some (stored_value rows middle (rw (length-map rows) at within)))

pub returns : goal.returns
returns c = sym (nowhere (rows_of c.args.self.now) c.args.self.now.good c.args.name.now c.halving.low c.halving.high c.halving-test.false c.halving.invariant.below c.halving.invariant.above)
