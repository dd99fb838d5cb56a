use Rattle.hesc_places.proofs.Pages.FormLaw.{page_again}
use Rattle.hesc_places.proofs.laws.page_law.Goals as goal

pub returns : goal.returns
returns c = page_again c.args.a.now c.args.b.now c.args.c.now c.args.rest.now c.requires c.utf8.c
