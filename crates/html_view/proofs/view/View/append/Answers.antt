use Rattle.std.proofs.Common.{rules, ◌∷◌, []}
use Rattle.html_view.specs.Values.{datum_of}
use Rattle.html_view.specs.Views.{nodes_in, unrolled_by}
use Rattle.html_view.proofs.DataPages.{appends_page, renders}
use Rattle.html_view.proofs.view.View.append.Goals as goal

pub returns-clause-appended : goal.returns-clause-appended
returns-clause-appended g c = renders (unrolled_by c.args.self.now (datum_of c.args.value)) _ _ _ (search rules)

pub returns-clause-page : goal.returns-clause-page
returns-clause-page g c = appends_page (nodes_in c.args.self.now) (datum_of c.args.value ∷ []) _ _ _ c.args.self.now.sound (search rules)
