use Rattle.hesc_specs.proofs.Bodies.Canonical.{encoding-no_opening, decoding-no_escaped_opening, encode_twice, decode_twice, encode_decoding, decode_encoding, encoding-undone}
use Rattle.hesc_specs.proofs.Bodies.Same.{encoding-same, decoding-same, same_by_encoding, same_by_decoding}
use Rattle.hesc_laws.proofs.canonical_bodies.Goals as goal

pub returns-clause-no_opening : goal.returns-clause-no_opening
returns-clause-no_opening c = encoding-no_opening c.args.element c.args.text.now

pub returns-clause-no_escaped_opening : goal.returns-clause-no_escaped_opening
returns-clause-no_escaped_opening c = decoding-no_escaped_opening c.args.element c.args.text.now

pub returns-clause-encoding_same : goal.returns-clause-encoding_same
returns-clause-encoding_same c = encoding-same c.args.element c.args.text.now

pub returns-clause-decoding_same : goal.returns-clause-decoding_same
returns-clause-decoding_same c = decoding-same c.args.element c.args.text.now

pub returns-clause-by_encoding : goal.returns-clause-by_encoding
returns-clause-by_encoding c = same_by_encoding c.args.element c.args.text.now c.args.other.now

pub returns-clause-by_decoding : goal.returns-clause-by_decoding
returns-clause-by_decoding c = same_by_decoding c.args.element c.args.text.now c.args.other.now

pub returns-clause-encode_twice : goal.returns-clause-encode_twice
returns-clause-encode_twice c = encode_twice c.args.element c.args.text.now

pub returns-clause-decode_twice : goal.returns-clause-decode_twice
returns-clause-decode_twice c = decode_twice c.args.element c.args.text.now

pub returns-clause-encode_decoding : goal.returns-clause-encode_decoding
returns-clause-encode_decoding c = encode_decoding c.args.element c.args.text.now

pub returns-clause-decode_encoding : goal.returns-clause-decode_encoding
returns-clause-decode_encoding c = decode_encoding c.args.element c.args.text.now

pub returns-clause-undone : goal.returns-clause-undone
returns-clause-undone c = encoding-undone c.args.element c.args.text.now
