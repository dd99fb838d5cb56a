use Rattle.std.proofs.Common.{◌++◌}
use Rattle.html_writer.proofs.page_text.PageText.after_markup.Given as goal

abbrev pub ghost-saying : goal.ghost-saying
ghost-saying a = a._before.now.text ++ a._piece.now
