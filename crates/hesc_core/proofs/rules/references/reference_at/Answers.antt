use Rattle.std.proofs.Common.{◌≡◌, ◌≢◌, ◌<◌, ◌+◌, false, true, length, slice_index, refl, sym, ne_eqb, arith}
use Rattle.std.proofs.lemmas.Bool.Decides.{nat_tests}
use Rattle.std.proofs.lemmas.Str.{IsCharBoundary-before_ascii, IsCharBoundary-after_ascii}
use Rattle.hesc_specs.specs.Text.FirstPlace.{IsFirstPlace}
use Rattle.hesc_specs.specs.References.Changes.{reference_changes}
use Rattle.hesc_specs.proofs.References.Next.{is_start, is_stop, replaced}
use Rattle.hesc_core.specs.Names.{names_rows}
use Rattle.hesc_engine.specs.Text.{replacement_bytes}
use Rattle.hesc_specs.specs.References.Changes.{refers_at}
use Rattle.hesc_core.proofs.EachPlace.{found-here}
use Rattle.hesc_specs.proofs.References.Places.{cut, step, unended, unvalued, valued}
use Rattle.hesc_core.proofs.rules.references.reference_at.Goals as goal

pub returns-then-end-bytes-clause-none : goal.returns-then-end-bytes-clause-none
returns-then-end-bytes-clause-none c =
    let rows = names_rows c.args.names in
    let text = c.args.text.now in
    let first : IsFirstPlace is_stop text (c.args.place + 1) c.first_of_two-end.result = rw c.as_bytes-bytes.ensures.value at c.first_of_two-end.ensures in
    unended rows text c.args.place c.first_of_two-end.result first (rw c.as_bytes-bytes.ensures.value at c.if-end-bytes.true)

pub returns-then-bytes-end-eq38-clause-none : goal.returns-then-bytes-end-eq38-clause-none
returns-then-bytes-end-eq38-clause-none c =
    let rows = names_rows c.args.names in
    let text = c.args.text.now in
    let first : IsFirstPlace is_stop text (c.args.place + 1) c.first_of_two-end.result = rw c.as_bytes-bytes.ensures.value at c.first_of_two-end.ensures in
    let inner : c.first_of_two-end.result < length text = omega (arith, first.in_range, c.if-end-bytes.false, c.as_bytes-bytes.ensures.len) in
    let start : is_start (slice_index text c.first_of_two-end.result) ≡ true = rw (← c.as_bytes-bytes.ensures.value, c.if-bytes-end-eq38.true) refl in
    cut rows text c.args.place c.first_of_two-end.result first inner start

pub returns-in-None-clause-none : goal.returns-in-None-clause-none
returns-in-None-clause-none c =
    let rows = names_rows c.args.names in
    let text = c.args.text.now in
    let end = c.first_of_two-end.result in
    let first : IsFirstPlace is_stop text (c.args.place + 1) end = rw c.as_bytes-bytes.ensures.value at c.first_of_two-end.ensures in
    let inner : end < length text = omega (arith, first.in_range, c.if-end-bytes.false, c.as_bytes-bytes.ensures.len) in
    let other : slice_index text end ≢ 38 = rw c.as_bytes-bytes.ensures.value at c.if-bytes-end-eq38.false in
    unvalued rows text c.args.place end first inner (ne_eqb (slice_index text end) 38 other) (sym (rw c.as_bytes-bytes.ensures.value at c.in-None.ensures))

pub returns-in-Some-clause-found : goal.returns-in-Some-clause-found
returns-in-Some-clause-found c =
    let rows = names_rows c.args.names in
    let text = c.args.text.now in
    let place = c.args.place in
    let end = c.first_of_two-end.result in
    let first : IsFirstPlace is_stop text (place + 1) end = rw c.as_bytes-bytes.ensures.value at c.first_of_two-end.ensures in
    let within : place < length text = c.requires.within in
    let inner : end < length text = omega (arith, first.in_range, c.if-end-bytes.false, c.as_bytes-bytes.ensures.len) in
    let other : slice_index text end ≢ 38 = rw c.as_bytes-bytes.ensures.value at c.if-bytes-end-eq38.false in
    let ends : is_start (slice_index text end) ≡ false = ne_eqb (slice_index text end) 38 other in
    let value = sym (rw c.as_bytes-bytes.ensures.value at c.in-Some.ensures) in
    let start_ascii : slice_index text place < 128 = grind (arith, nat_tests, c.requires.sought) in
    let end_ascii : slice_index text end < 128 = grind (arith, nat_tests, first.found inner) in
    found-here text (refers_at rows text) (reference_changes rows text) (step rows text) place _ (valued rows text place end first c.requires.sought inner ends (replacement_bytes c.in-Some.replacement) value)
    (omega arith) (omega (arith, first.ordered)) (omega (arith, first.ordered)) (omega (arith, inner))
    (IsCharBoundary-before_ascii text place within start_ascii) (IsCharBoundary-after_ascii text end c.utf8.text inner end_ascii)
    (replaced rows text place end within c.requires.sought first inner ends (replacement_bytes c.in-Some.replacement) value)
