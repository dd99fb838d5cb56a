use Rattle.std.proofs.Common.{◌≡◌, ◌*◌, length}
use Rattle.html_escape.specs.Operations.{operation_text}
use Rattle.hesc_speed.proofs.hesc_append.Given as goal

abbrev pub invariant-loop : goal.invariant-loop
invariant-loop l = l.sum ≡ l.counter * length (operation_text l.operation l.text)
