use Rattle.hesc_places.proofs.Places.Bodies.{read_before_tag}
use Rattle.hesc_places.proofs.laws.end_tag_law.Goals as goal

pub returns : goal.returns
returns c = read_before_tag c.args.element c.args.text.now c.args.tag.now c.requires
