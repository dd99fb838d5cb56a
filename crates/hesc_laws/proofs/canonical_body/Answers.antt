use Rattle.hesc_specs.proofs.Bodies.Canonical.{encoding-no_opening, decoding-no_escaped_opening}
use Rattle.hesc_specs.proofs.Bodies.Same.{encoding-same, decoding-same}
use Rattle.hesc_laws.proofs.canonical_body.Goals as goal

pub returns-clause-no_opening : goal.returns-clause-no_opening
returns-clause-no_opening c = encoding-no_opening c.args.element c.args.text.now

pub returns-clause-no_escaped_opening : goal.returns-clause-no_escaped_opening
returns-clause-no_escaped_opening c = decoding-no_escaped_opening c.args.element c.args.text.now

pub returns-clause-encoding_same : goal.returns-clause-encoding_same
returns-clause-encoding_same c = encoding-same c.args.element c.args.text.now

pub returns-clause-decoding_same : goal.returns-clause-decoding_same
returns-clause-decoding_same c = decoding-same c.args.element c.args.text.now
