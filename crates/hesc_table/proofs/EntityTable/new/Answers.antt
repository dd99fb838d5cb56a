use Rattle.std.proofs.Common.{◌≡◌, ◌∙◌, sym, ◌<◌, length, refl, arith}
use Rattle.std.proofs.lemmas.List.{length-map}
use Rattle.hesc_specs.proofs.References.Tables.{first_fault-row}
use Rattle.hesc_table.specs.Rows.{rows_in}
use Rattle.hesc_table.proofs.Candidates.{not_complete}
use Rattle.hesc_table.proofs.EntityTable.new.Goals as goal

pub returns-in-Some-clause-fault : goal.returns-in-Some-clause-fault
returns-in-Some-clause-fault c =
    let within : c.loop-i.i < length (rows_in c.args.rows.now) = rw (length-map c.args.rows.now) c.loop-i-test.true in
    sym (first_fault-row (rows_in c.args.rows.now) c.loop-i.i c.in-Some.fault within c.loop-i.invariant (sym c.fault_of_row.ensures ∙ c.in-Some.is))

pub returns-clause-made : goal.returns-clause-made
returns-clause-made c = refl

pub returns-clause-fault : goal.returns-clause-fault
returns-clause-fault c =
    let last : c.loop-k.k ≡ 6 = omega (arith, c.loop-k-test.false, c.loop-k.auto.k-end) in
    rw c.loop-k.invariant.faultless (sym (rw last at c.loop-k.invariant.there))

pub loop-k-init : goal.loop-k-init
loop-k-init c =
    let all : length (rows_in c.args.rows.now) ≡ c.loop-i.i = rw (length-map c.args.rows.now) (omega (arith, c.loop-i-test.false, c.loop-i.auto.i-end)) in
    record { faultless = rw all c.loop-i.invariant; there = refl }

pub invariant_of-table-clause-complete : goal.invariant_of-table-clause-complete
invariant_of-table-clause-complete c = not_complete _ _
