use Rattle.std.proofs.Common.{ap, length}
use Rattle.hesc_specs.proofs.Strings.Decoded.{unescaped-empty, unescaped-shorter}
use Rattle.hesc_core.proofs.rules.unescape.UnescapeRule.longest.Goals as goal

pub returns-clause-enough : goal.returns-clause-enough
returns-clause-enough c = unescaped-shorter c.args.self.now.0 c.args.text.now

pub returns-clause-empty : goal.returns-clause-empty
returns-clause-empty c nothing = ap length (unescaped-empty c.args.self.now.0 c.args.text.now nothing)
