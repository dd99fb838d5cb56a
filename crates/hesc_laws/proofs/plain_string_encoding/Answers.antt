use Rattle.hesc_specs.proofs.Strings.Plain.{plain-string_encoding}
use Rattle.hesc_laws.proofs.plain_string_encoding.Goals as goal

pub returns : goal.returns
returns c = plain-string_encoding c.args.element c.args.quotes c.args.text.now
