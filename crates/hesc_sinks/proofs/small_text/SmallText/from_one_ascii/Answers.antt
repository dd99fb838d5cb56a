use Rattle.std.proofs.Common.{ℕ, zero, suc, ◌<◌, [], ◌∷◌, arith}
use Rattle.std.specs.Str.{IsAscii}
use Rattle.std.proofs.lemmas.Str.{IsUtf8-from_ascii}
use Rattle.hesc_sinks.proofs.small_text.SmallText.from_one_ascii.Goals as goal

one : (b : ℕ) → b < 128 → IsAscii (b ∷ [])
one b ascii zero = ascii
one b ascii (suc more) = omega arith

pub invariant_of-result-clause-utf8 : goal.invariant_of-result-clause-utf8
invariant_of-result-clause-utf8 c = ∣ IsUtf8-from_ascii _ (one c.args.byte c.requires) ∣₁
