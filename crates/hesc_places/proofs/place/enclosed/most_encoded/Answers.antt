use Rattle.std.proofs.Common.{arith}
use Rattle.html_escape.proofs.EncoderBounds.{longest_encoded}
use Rattle.hesc_places.proofs.place.enclosed.most_encoded.Goals as goal

pub returns : goal.returns
returns c encoder small =
    omega (arith, longest_encoded encoder c.args.text.now c.utf8.text c.type_inv.text, c.saturating_mul.ensures)
