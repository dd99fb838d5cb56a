use Rattle.hesc_places.proofs.Places.PlaceLaw.{is_read_back}
use Rattle.hesc_places.proofs.laws.place_law_for_any_rest.Goals as goal

pub returns : goal.returns
returns c rest = is_read_back c.args.encoder c.args.place c.requires.suits c.args.text.now rest c.utf8.text c.requires.may_hold
