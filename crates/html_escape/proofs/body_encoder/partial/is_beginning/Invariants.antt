use Rattle.std.proofs.Common.{◌≡◌, drop}
use Rattle.hesc_specs.specs.Text.Words.{is_beginning_in_any_case}
use Rattle.html_escape.proofs.body_encoder.partial.is_beginning.Given as goal

-- the bytes so far are letters of the word, so the rest of it decides
abbrev pub invariant-loop-i : goal.invariant-loop-i
invariant-loop-i l = is_beginning_in_any_case l.word l.bytes ≡ is_beginning_in_any_case (drop l.i l.word) (drop l.i l.bytes)
