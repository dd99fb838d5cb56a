use Rattle.hesc_specs.proofs.Bodies.Canonical.{encode_twice, decode_twice, encode_decoding, decode_encoding, encoding-undone}
use Rattle.hesc_laws.proofs.repeated_body.Goals as goal

pub returns-clause-encode_twice : goal.returns-clause-encode_twice
returns-clause-encode_twice c = encode_twice c.args.element c.args.text.now

pub returns-clause-decode_twice : goal.returns-clause-decode_twice
returns-clause-decode_twice c = decode_twice c.args.element c.args.text.now

pub returns-clause-encode_decoding : goal.returns-clause-encode_decoding
returns-clause-encode_decoding c = encode_decoding c.args.element c.args.text.now

pub returns-clause-decode_encoding : goal.returns-clause-decode_encoding
returns-clause-decode_encoding c = decode_encoding c.args.element c.args.text.now

pub returns-clause-undone : goal.returns-clause-undone
returns-clause-undone c = encoding-undone c.args.element c.args.text.now
