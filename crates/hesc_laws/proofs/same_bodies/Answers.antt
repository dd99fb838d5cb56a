use Rattle.hesc_specs.proofs.Bodies.Same.{same_by_encoding, same_by_decoding}
use Rattle.hesc_laws.proofs.same_bodies.Goals as goal

pub returns-clause-by_encoding : goal.returns-clause-by_encoding
returns-clause-by_encoding c = same_by_encoding c.args.element c.args.text.now c.args.other.now

pub returns-clause-by_decoding : goal.returns-clause-by_decoding
returns-clause-by_decoding c = same_by_decoding c.args.element c.args.text.now c.args.other.now
