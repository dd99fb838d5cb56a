use Rattle.hesc_decode.proofs.references.decode_html_entities_with.Goals as goal

pub returns : goal.returns
returns g c = c.to_cow.ensures
