-- What a few bytes are.
use Rattle.std.specs.Prelude.{ℕ, List, take}
use Rattle.html_escape.specs.declared.body_encoder.carry.Carry.{Carry}

abbrev pub carry_bytes : Carry → List ℕ
carry_bytes few = take few.count few.bytes
