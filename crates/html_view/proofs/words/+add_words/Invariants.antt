use Rattle.std.proofs.Common.{length}
use Rattle.html_view.proofs.words.+add_words.Given as goal

abbrev pub decreases-add_words : goal.decreases-add_words
decreases-add_words g l = length l.text.now
