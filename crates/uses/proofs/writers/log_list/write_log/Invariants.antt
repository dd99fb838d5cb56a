use Rattle.std.proofs.Common.{◌≡◌, ◌++◌, take, codes}
use Rattle.html_writer.specs.PageWrites.{HasWritten, page_start, page_text}
use Rattle.uses.specs.Writers.Logs.{items_text}
use Rattle.uses.proofs.writers.log_list.write_log.Given as goal

abbrev pub invariant-loop-message : goal.invariant-loop-message
invariant-loop-message g l =
    HasWritten g.W.Write l.page (g.W.Write.contents l.output)
    × (page_start l.page ≡ l.fn.output)
    × (page_text l.page ≡ codes "<ul>" ++ items_text (take l.message-index l.messages))
