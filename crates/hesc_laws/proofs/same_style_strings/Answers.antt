use Rattle.hesc_specs.specs.declared.elements.Element.TheVariants.{Style}
use Rattle.hesc_specs.proofs.Strings.Different.{same_encoding, same_value}
use Rattle.hesc_laws.proofs.same_style_strings.Goals as goal

pub returns : goal.returns
returns c = (
  same_value c.args.quotes Style c.args.a.now c.args.b.now c.utf8.a c.utf8.b,
  same_encoding c.args.quotes Style c.args.a.now c.args.b.now c.utf8.a c.utf8.b,
)
