use Rattle.std.proofs.Common.{◌-◌, ◌^◌}
use Rattle.std.specs.Prelude.{vec_len}
use Rattle.std.specs.Io.KnownBytes.{Consumes}
use Rattle.hesc_tool.proofs.steps.read_whole.Given as goal

-- the bytes are those that the reader gave
abbrev pub invariant-reading : goal.invariant-reading
invariant-reading g l = Consumes (g.R.Read.remaining l.initial.input) (g.R.Read.remaining l.input) l.bytes.items

-- each read that does not end the input adds a byte, and a vector's length is a 64-bit number
abbrev pub decreases-reading : goal.decreases-reading
decreases-reading g l = 2 ^ 64 - vec_len l.bytes
