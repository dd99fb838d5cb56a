use Rattle.std.proofs.Common.{map}
use Rattle.hesc_places.specs.Pages.FormTexts.{written}
use Rattle.hesc_places.proofs.Pages.FormLaw.{form_again}
use Rattle.hesc_places.proofs.laws.form_law_for_any_rest.Goals as goal

pub returns : goal.returns
returns c rest = form_again (map written c.args.attributes.now) c.args.script.now rest c.requires c.utf8.script
