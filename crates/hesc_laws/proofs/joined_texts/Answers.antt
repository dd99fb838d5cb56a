use Rattle.hesc_specs.proofs.Text.JoinedTexts.{escaped-append}
use Rattle.hesc_laws.proofs.joined_texts.Goals as goal

pub returns : goal.returns
returns c = escaped-append c.args.class c.args.a.now c.args.b.now c.utf8.a
