-- Names that are cut into their words.
use Rattle.std.specs.Prelude.{[], ◌∷◌}
use Rattle.html_template.specs.Templates.{texts_of}
use Rattle.html_view.specs.Nodes as spec
use Rattle.html_view.specs.declared.words.Words.{Words}
use Rattle.html_view.specs.declared.words.Words.TheVariants.{Innermost, One, Several}

abbrev pub words_in : {A : Type 0} → Words A → spec.Words
words_in Innermost = []
words_in (One word) = word.now ∷ []
words_in (Several first others) = first.now ∷ texts_of others.items
