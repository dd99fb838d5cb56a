use Rattle.std.proofs.Common.{◌++◌}
use Rattle.html_escape.specs.Encoders.{encoded}
use Rattle.html_writer.proofs.page_text.PageText.after_text.Given as goal

abbrev pub ghost-saying : goal.ghost-saying
ghost-saying a = a._before.now.text ++ encoded a._encoder.now a._piece.now
