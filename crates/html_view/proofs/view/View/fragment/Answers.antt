use Rattle.std.proofs.Common.{◌++◌, ◌∙◌, ap, subst, sym}
use Rattle.html_template.specs.Structure.{IsWhole}
use Rattle.html_template.proofs.Pages.{page_passes}
use Rattle.html_view.specs.Rendered.{rendered}
use Rattle.html_view.specs.Views.{parts_of}
use Rattle.html_view.proofs.view.View.fragment.Goals as goal

pub of_page-requires : goal.of_page-requires
of_page-requires g c =
    let made = c.in_ok-append.ensures.appended in
    let found = made.0 in
    record {
      whole = subst IsWhole (sym (made.2 ∙ ap (λ old. old ++ rendered found) c.new-page.ensures.bytes))
          (page_passes (parts_of found) found.texts (rendered found) (c.in_ok-append.ensures.page.page found made.1));
    }
