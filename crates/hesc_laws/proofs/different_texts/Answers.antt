use Rattle.hesc_specs.proofs.Strings.Different.{escaped-injective}
use Rattle.hesc_laws.proofs.different_texts.Goals as goal

pub returns : goal.returns
returns c = escaped-injective c.args.class c.args.a.now c.args.b.now c.requires c.utf8.a c.utf8.b
