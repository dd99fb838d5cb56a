use Rattle.hesc_decode.proofs.bodies.decode_style.Goals as goal

pub returns : goal.returns
returns g c = c.to_cow.ensures
