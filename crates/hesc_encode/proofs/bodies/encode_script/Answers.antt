use Rattle.hesc_encode.proofs.bodies.encode_script.Goals as goal

pub returns : goal.returns
returns g c = c.to_cow.ensures
