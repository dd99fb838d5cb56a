use Rattle.std.proofs.Common.{◌∷◌, []}
use Rattle.html_view.specs.Values.{datum_of}
use Rattle.html_view.specs.Views.{nodes_in}
use Rattle.html_view.proofs.DataPages.{all_written}
use Rattle.html_view.proofs.view.View.append_to_writer.Goals as goal

pub returns-clause-page : goal.returns-clause-page
returns-clause-page g c =
    all_written (nodes_in c.args.self.now) (datum_of c.args.value ∷ []) _ _ c.write.result c.args.self.now.sound c.write.ensures.written
    c.write.ensures.utf8
