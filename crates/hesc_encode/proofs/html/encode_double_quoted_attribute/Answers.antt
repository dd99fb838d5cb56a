use Rattle.hesc_encode.proofs.html.encode_double_quoted_attribute.Goals as goal

pub returns : goal.returns
returns g c = c.encode_to_cow.ensures
