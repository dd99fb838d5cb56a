use Rattle.hesc_decode.proofs.references.decode_html_entities_with_to_writer.Goals as goal

pub returns : goal.returns
returns g c = c.to_writer.ensures
