use Rattle.std.proofs.Common.{rules}
use Rattle.hesc_places.specs.Pages.FormReadings.{alerted}
use Rattle.hesc_places.proofs.markup.form_reader.alerted.Goals as goal

pub returns-then-ne : goal.returns-then-ne
unfolding alerted
returns-then-ne g c = search rules

pub returns : goal.returns
unfolding alerted
returns g c = search rules
