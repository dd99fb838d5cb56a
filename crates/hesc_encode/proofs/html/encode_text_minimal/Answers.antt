use Rattle.hesc_encode.proofs.html.encode_text_minimal.Goals as goal

pub returns : goal.returns
returns g c = c.encode_to_cow.ensures
