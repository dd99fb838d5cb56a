use Rattle.std.proofs.lemmas.Str.{IsUtf8-from_ascii}
use Rattle.hesc_specs.proofs.Bodies.Held.{partial-ascii}
use Rattle.html_escape.proofs.body_encoder.session.BodyEncoder.held_text.Goals as goal

pub from_utf8_unchecked-requires : goal.from_utf8_unchecked-requires
from_utf8_unchecked-requires c = rw c.as_slice.ensures (IsUtf8-from_ascii _ (partial-ascii _ _ c.args.self.now.partial))
