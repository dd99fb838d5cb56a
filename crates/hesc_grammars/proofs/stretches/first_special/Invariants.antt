use Rattle.std.proofs.Common.{◌-◌, ◌≤◌, length}
use Rattle.hesc_grammars.proofs.ReadStretches.{NoneSpecial}
use Rattle.hesc_grammars.proofs.stretches.first_special.Given as goal

-- nothing special stands before the place
abbrev pub invariant-symbols : goal.invariant-symbols
invariant-symbols l = record {
  within : l.place ≤ length l.bytes;
  none : NoneSpecial l.bytes l.place;
}

abbrev pub decreases-symbols : goal.decreases-symbols
decreases-symbols l = length l.bytes - l.place
