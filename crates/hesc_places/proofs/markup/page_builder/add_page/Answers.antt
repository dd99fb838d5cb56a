use Rattle.std.proofs.Common.{◌≢◌, arith, ◌++◌, ap, ◌∙◌, length}
use Rattle.std.specs.String.{string_bytes}
use Rattle.std.proofs.lemmas.Grind.{common_steps}
use Rattle.hesc_places.proofs.Pages.FormLaw.{page_again, page_is_form}
use Rattle.hesc_places.proofs.markup.page_builder.add_page.Goals as goal

pub returns-clause-appended : goal.returns-clause-appended
returns-clause-appended g c =
    c.in_ok-append_parts.ensures.appended
    ∙ ap (λ text. string_bytes c.args.output.now ++ text) (page_is_form c.args.a.now c.args.b.now c.args.c.now)

pub returns-clause-read : goal.returns-clause-read
returns-clause-read g c rest =
    let filled : length c.args.a.now ≢ 0 = grind (arith, common_steps) in
    page_again c.args.a.now c.args.b.now c.args.c.now rest filled c.utf8.c

pub returns-then-is_empty-clause-empty_unquoted : goal.returns-then-is_empty-clause-empty_unquoted
returns-then-is_empty-clause-empty_unquoted g c = grind (arith, common_steps)
