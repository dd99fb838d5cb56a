use Rattle.std.proofs.lemmas.Str.{IsAscii-take, IsUtf8-from_ascii}
use Rattle.hesc_sinks.proofs.small_text.SmallText.from_ascii.Goals as goal

pub invariant_of-result-clause-utf8 : goal.invariant_of-result-clause-utf8
invariant_of-result-clause-utf8 c = ∣ IsUtf8-from_ascii _ (IsAscii-take c.args.bytes c.args.len c.requires.ascii) ∣₁
