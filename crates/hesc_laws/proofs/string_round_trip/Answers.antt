use Rattle.std.proofs.Common.{IsTrue, refl}
use Rattle.hesc_specs.specs.Strings.Tokens.{knows}
use Rattle.hesc_specs.specs.declared.quotes.Quotes.{Quotes}
use Rattle.hesc_specs.specs.declared.quotes.Quotes.TheVariants.{Single, Double, Both}
use Rattle.hesc_specs.proofs.Strings.Undone.{string_decoding-encoding}
use Rattle.hesc_laws.proofs.string_round_trip.Goals as goal

knows_own : (quotes : Quotes) → IsTrue (knows quotes quotes)
knows_own Single = refl
knows_own Double = refl
knows_own Both = refl

pub returns-clause-same_marks : goal.returns-clause-same_marks
returns-clause-same_marks c = string_decoding-encoding c.args.element c.args.quotes c.args.quotes c.args.text.now c.args.rest.now (knows_own c.args.quotes) c.utf8.text

pub returns-clause-both_marks : goal.returns-clause-both_marks
returns-clause-both_marks c = string_decoding-encoding c.args.element Both c.args.quotes c.args.text.now c.args.rest.now refl c.utf8.text
