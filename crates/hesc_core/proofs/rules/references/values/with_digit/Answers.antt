use Rattle.std.proofs.Common.{◌≡◌, ◌≤◌, ℕ, arith}
use Rattle.std.proofs.lemmas.Bool.Decides.{nat_tests}
use Rattle.hesc_specs.specs.References.Numbers.{capped}
use Rattle.hesc_core.proofs.rules.references.values.with_digit.Goals as goal

capped_past : (number : ℕ) → 0x110000 ≤ number → 0x110000 ≡ capped number
capped_past number past = grind (arith, nat_tests)

pub returns-else-longer-lt-PAST_CHARACTERS : goal.returns-else-longer-lt-PAST_CHARACTERS
returns-else-longer-lt-PAST_CHARACTERS c = rw (← c.base.ensures) (capped_past _ c.if-longer-lt-PAST_CHARACTERS.false)
