use Rattle.std.proofs.Common.{rules, sym, length-take-le}
use Rattle.hesc_sinks.proofs.small_text.SmallText.len.Goals as goal

pub returns : goal.returns
returns c = sym (length-take-le c.args.self.now.len c.args.self.now.bytes (search rules))
