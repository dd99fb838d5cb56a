use Rattle.hesc_decode.proofs.references.decode_html_entities.Goals as goal

pub returns : goal.returns
returns g c = rw c.built_in.ensures.rows at c.to_cow.ensures
