use Rattle.std.proofs.KnownBytes.{Appends-trans}
use Rattle.html_escape.proofs.JoinedWrites.{begins_all, begins_first}
use Rattle.hesc_tool.proofs.program.write_line.Goals as goal

pub returns-in_err-write_whole-clause-began : goal.returns-in_err-write_whole-clause-began
returns-in_err-write_whole-clause-began g c =
    begins_first _ _ _ _ (rw c.as_bytes.ensures.value at c.in_err-write_whole.ensures.began)

pub returns-clause-began : goal.returns-clause-began
returns-clause-began g c =
    let line = rw c.as_bytes.ensures.value at c.in_ok-write_whole.ensures.all in
    begins_all _ _ _ (Appends-trans _ _ _ _ _ line c.in_ok-write_whole-2.ensures.all)

pub returns-clause-all : goal.returns-clause-all
returns-clause-all g c =
    let line = rw c.as_bytes.ensures.value at c.in_ok-write_whole.ensures.all in
    Appends-trans _ _ _ _ _ line c.in_ok-write_whole-2.ensures.all
