use Rattle.std.proofs.Common.{◌≡◌, ◌<◌, sym, ap, ◌∙◌, length, true, arith}
use Rattle.std.specs.Prelude.{Some}
use Rattle.std.specs.Str.{bytes_eq}
use Rattle.std.proofs.lemmas.List.{length-map}
use Rattle.hesc_specs.specs.References.Rows.{row_at}
use Rattle.hesc_table.specs.Rows.{rows_in}
use Rattle.hesc_table.proofs.Candidates.{all_candidates, missed, no_row, same_row}
use Rattle.hesc_table.proofs.Halving.{stored_name, stored_value, found_at}
use Rattle.hesc_table.proofs.EntityTable.get_by_index.Goals as goal

pub returns-in_err-candidate-clause-missed : goal.returns-in_err-candidate-clause-missed
returns-in_err-candidate-clause-missed c none complete =
    let self = c.args.self.now in
    missed self.index.seeds.now self.index.slots.now (rows_in self.rows.now) c.args.name.now (all_candidates self.is_complete self.index (rows_in self.rows.now) self.complete complete)
    (λ k within is. no_row _ k _ (sym c.candidate.ensures ∙ c.in_err-candidate.was) is)

pub returns-then-candidate-self-clause-missed : goal.returns-then-candidate-self-clause-missed
returns-then-candidate-self-clause-missed c none complete =
    let self = c.args.self.now in
    missed self.index.seeds.now self.index.slots.now (rows_in self.rows.now) c.args.name.now (all_candidates self.is_complete self.index (rows_in self.rows.now) self.complete complete)
    (λ k within is.
    let same : k ≡ c.in_ok-candidate.candidate = same_row _ _ _ is (sym c.candidate.ensures ∙ c.in_ok-candidate.was) in
    absurd (omega (arith, same, c.if-candidate-self.true, rw (length-map self.rows.now) at within)))

pub returns-clause-other : goal.returns-clause-other
returns-clause-other c none k within is =
    let self = c.args.self.now in
    let same : k ≡ c.in_ok-candidate.candidate = same_row _ _ _ is (sym c.candidate.ensures ∙ c.in_ok-candidate.was) in
    rw (same, stored_name self.rows.now c.in_ok-candidate.candidate c.if-candidate-self.false) (sym c.if-eq.ensures)

pub returns-clause-missed : goal.returns-clause-missed
returns-clause-missed c none complete =
    let self = c.args.self.now in
    missed self.index.seeds.now self.index.slots.now (rows_in self.rows.now) c.args.name.now (all_candidates self.is_complete self.index (rows_in self.rows.now) self.complete complete)
    (returns-clause-other c none)

pub returns-then-eq-clause-found : goal.returns-then-eq-clause-found
returns-then-eq-clause-found c =
    let rows = c.args.self.now.rows.now in
    let i = c.in_ok-candidate.candidate in
    let within : i < length rows = c.if-candidate-self.false in
    let here : bytes_eq (row_at (rows_in rows) i).0 c.args.name.now ≡ true = rw (stored_name rows i within) (sym c.if-eq.ensures) in
    let found = found_at (rows_in rows) c.args.self.now.good c.args.name.now i (rw (length-map rows) within) here in
    found ∙ ap Some (stored_value rows i within)
