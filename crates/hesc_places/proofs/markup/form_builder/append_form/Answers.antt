use Rattle.std.proofs.Common.{arith}
use Rattle.std.proofs.lemmas.Grind.{common_steps}
use Rattle.hesc_places.proofs.markup.form_builder.append_form.Goals as goal

pub returns : goal.returns
returns g c = grind (arith, common_steps)
