use Rattle.std.specs.Prelude.{[]}
use Rattle.html_template.specs.Words.{IsPageOf}
use Rattle.html_view.specs.Words.{parts_of}
use Rattle.uses.proofs.views.framed_page.framed_page.Goals as goal

-- the frame behind nothing, and the content behind the frame
pub returns : goal.returns
returns c = record {
  joined = λ around inside is_around is_inside.
      let none : IsPageOf [] [] c.new-page.result.bytes.items = rw c.new-page.ensures.bytes c.pages_law.ensures.none in
      c.in_ok-append-2.ensures.page.joins inside is_inside (parts_of around) around.texts (c.in_ok-append.ensures.page.joins around is_around [] [] none);
}
