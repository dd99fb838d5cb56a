use Rattle.hesc_encode.proofs.bodies.encode_style.Goals as goal

pub returns : goal.returns
returns g c = c.to_cow.ensures
