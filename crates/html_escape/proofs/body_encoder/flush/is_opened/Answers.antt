use Rattle.hesc_specs.proofs.Bodies.Held.{decided-some}
use Rattle.html_escape.proofs.body_encoder.flush.is_opened.Goals as goal

pub bounds-front-0 : goal.bounds-front-0
bounds-front-0 c = decided-some c.args.element c.args.front.now c.requires
