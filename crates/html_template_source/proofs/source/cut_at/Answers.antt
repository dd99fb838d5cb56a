use Rattle.html_template_source.proofs.Cuts.{cut_first, lacks_none, sides, whole_text}
use Rattle.html_template_source.proofs.source.cut_at.Goals as goal

pub split_at-requires : goal.split_at-requires
split_at-requires c =
    (sides c.args.mark.now c.args.text.now c.in-Some.place c.utf8.mark c.utf8.text c.requires
    (rw c.as_bytes.ensures.value at (rw c.as_bytes-2.ensures.value at c.in-Some.ensures.1))).0

pub split_at-requires-2 : goal.split_at-requires-2
split_at-requires-2 c =
    (sides c.args.mark.now c.args.text.now c.in-Some.place c.utf8.mark c.utf8.text c.requires
    (rw c.as_bytes.ensures.value at (rw c.as_bytes-2.ensures.value at c.in-Some.ensures.1))).1

pub returns-in_default-clause-none : goal.returns-in_default-clause-none
returns-in_default-clause-none c =
    lacks_none c.args.mark.now c.args.text.now (rw c.as_bytes.ensures.value at (rw c.as_bytes-2.ensures.value at c.in_default.ensures))

pub returns-clause-whole : goal.returns-clause-whole
returns-clause-whole c =
    rw c.split_at.ensures.front (rw c.split_at-2.ensures.back
    (whole_text c.args.mark.now c.args.text.now c.in-Some.place (rw c.as_bytes.ensures.value at (rw c.as_bytes-2.ensures.value at c.in-Some.ensures.1))))

pub returns-clause-first : goal.returns-clause-first
returns-clause-first c =
    rw c.split_at.ensures.front
    (cut_first c.args.mark.now c.args.text.now c.in-Some.place c.requires (rw c.as_bytes.ensures.value at (rw c.as_bytes-2.ensures.value at c.in-Some.ensures.0)))
