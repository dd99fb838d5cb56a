use Rattle.hesc_places.proofs.Places.Trials.{no_other_passes}
use Rattle.hesc_places.proofs.laws.no_other_pair.Goals as goal

pub returns : goal.returns
returns c = no_other_passes c.args.encoder c.args.place c.requires
