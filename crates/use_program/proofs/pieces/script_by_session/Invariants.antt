use Rattle.std.proofs.Common.{take}
use Rattle.std.specs.List.{flat_map}
use Rattle.std.specs.String.{string_bytes}
use Rattle.hesc_specs.specs.declared.elements.Element.TheVariants.{Script}
use Rattle.html_escape.specs.Words.{HasEncoded}
use Rattle.use_program.proofs.pieces.script_by_session.Given as goal

abbrev pub invariant-loop-piece : goal.invariant-loop-piece
invariant-loop-piece l = HasEncoded l.session Script (flat_map (λ piece. piece.now) (take l.piece-index l.pieces)) (string_bytes l.page)
