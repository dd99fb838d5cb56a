use Rattle.std.proofs.Common.{◌≡◌, ℕ, List, ◌++◌, take}
use Rattle.std.specs.List.{flat_map}
use Rattle.std.specs.String.{string_bytes}
use Rattle.html_escape.specs.BodyEncoders.{HasEncoded}
use Rattle.html_escape.proofs.body_encoder.pieces.push_pieces.Given as goal

-- what was added is what the session has encoded of the pieces so far
abbrev pub invariant-loop-piece : goal.invariant-loop-piece
invariant-loop-piece g l =
    (added : List ℕ) × HasEncoded l.session l.fn.kind (flat_map (λ piece. piece.now) (take l.piece-index l.pieces)) added
    × (string_bytes l.output ≡ string_bytes l.initial.output ++ added)
