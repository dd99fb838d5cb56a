use Rattle.hesc_specs.proofs.Strings.Places.{none_left_of}
use Rattle.hesc_core.proofs.rules.unescape.UnescapeRule.seeks.Goals as goal

pub returns-clause-ends : goal.returns-clause-ends
returns-clause-ends c source text from boundary none = none_left_of c.args.self.now.0 source from none
