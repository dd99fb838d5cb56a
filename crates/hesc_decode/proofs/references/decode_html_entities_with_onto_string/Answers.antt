use Rattle.std.proofs.Common.{rules}
use Rattle.hesc_decode.proofs.references.decode_html_entities_with_onto_string.Goals as goal

pub returns : goal.returns
returns g c = search rules
