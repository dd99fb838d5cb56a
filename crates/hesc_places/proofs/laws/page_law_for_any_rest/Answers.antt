use Rattle.hesc_places.proofs.Pages.FormLaw.{page_again}
use Rattle.hesc_places.proofs.laws.page_law_for_any_rest.Goals as goal

pub returns : goal.returns
returns c rest = page_again c.args.a.now c.args.b.now c.args.c.now rest c.requires c.utf8.c
