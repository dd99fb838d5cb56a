use Rattle.hesc_encode.proofs.html.encode_safe.Goals as goal

pub returns : goal.returns
returns g c = c.encode_to_cow.ensures
