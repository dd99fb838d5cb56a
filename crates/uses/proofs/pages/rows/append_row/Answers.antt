use Rattle.std.proofs.Common.{append_assoc}
use Rattle.uses.proofs.pages.rows.append_row.Goals as goal

pub returns : goal.returns
returns c =
    let title = rw c.in_ok-append.was at c.append.follows.holds-at-none in
    let text = rw c.in_ok-append-2.was at c.append-2.follows.holds-at-none in
    rw (c.in_ok-push_str-3.ensures.bytes, text, c.in_ok-push_str-2.ensures.bytes, title, c.in_ok-push_str.ensures.bytes) (simp append_assoc)
