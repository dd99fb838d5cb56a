use Rattle.std.proofs.Common.{◌≡◌, arith}
use Rattle.std.proofs.lemmas.Grind.{common_steps}
use Rattle.hesc_places.specs.Pages.PageTexts.{IsReadAsPage, page_text}
use Rattle.hesc_places.proofs.markup.page_builder.append_page.Goals as goal

pub returns : goal.returns
returns g c =
    let part : c.range_from.result.now ≡ page_text c.args.a.now c.args.b.now c.args.c.now = grind (arith, common_steps) in
    let read : IsReadAsPage c.args.a.now c.args.b.now c.args.c.now c.range_from.result.now =
    λ rest. rw part (c.in_ok-add_page.ensures.read rest) in
    grind (arith, common_steps, read)
