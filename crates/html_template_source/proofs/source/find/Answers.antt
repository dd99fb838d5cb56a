use Rattle.html_template_source.proofs.Cuts.{found_behind, found_nowhere, found_there, slice_from}
use Rattle.html_template_source.proofs.source.find.Goals as goal

pub returns-then-starts_with : goal.returns-then-starts_with
returns-then-starts_with c =
    found_there c.args.mark.now c.args.bytes.now c.first_byte-place.result c.starts_with.result c.requires c.first_byte-place.ensures
    (rw (slice_from c.args.bytes.now c.first_byte-place.result) at c.starts_with.ensures.value) c.if-starts_with.true

pub returns-in-Some : goal.returns-in-Some
returns-in-Some c =
    found_behind c.args.mark.now c.args.bytes.now c.first_byte-place.result c.in-Some.distance c.requires c.first_byte-place.ensures
    (rw (slice_from c.args.bytes.now c.first_byte-place.result) at c.in-Some.ensures)

pub returns-in-None : goal.returns-in-None
returns-in-None c =
    found_nowhere c.args.mark.now c.args.bytes.now c.first_byte-place.result c.requires c.first_byte-place.ensures
    (rw (slice_from c.args.bytes.now c.first_byte-place.result) at c.in-None.ensures)
