use Rattle.std.specs.Prelude.{map}
use Rattle.hesc_specs.proofs.Bodies.Decided.{text_session-joined}
use Rattle.hesc_laws.proofs.joined_text_pieces.Goals as goal

pub returns : goal.returns
returns c = text_session-joined c.args.element (map (λ piece. piece.now) c.args.pieces.now) c.args.added.now c.requires
