use Rattle.hesc_specs.proofs.Bodies.Seam.{body_encoding-append}
use Rattle.hesc_laws.proofs.joined_bodies.Goals as goal

pub returns : goal.returns
returns c = body_encoding-append c.args.element c.args.a.now c.args.b.now c.requires
