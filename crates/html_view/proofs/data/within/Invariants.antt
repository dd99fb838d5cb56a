use Rattle.std.proofs.Common.{◌≡◌, length}
use Rattle.html_template.specs.Templates.{texts_of}
use Rattle.html_view.specs.Data as data_of
use Rattle.html_view.specs.Values.{datum_of}
use Rattle.html_view.proofs.data.within.Given as goal

abbrev pub invariant-words : goal.invariant-words
invariant-words l = data_of.within (texts_of l.words) (datum_of l.value) ≡ data_of.within (texts_of l.rest) (datum_of l.found)

abbrev pub decreases-words : goal.decreases-words
decreases-words l = length l.rest
