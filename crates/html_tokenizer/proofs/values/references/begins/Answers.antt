use Rattle.std.proofs.Common.{◌∙◌}
use Rattle.hesc_grammars.proofs.NamedReferences.{begins_is}
use Rattle.html_tokenizer.proofs.values.references.begins.Goals as goal

pub returns : goal.returns
returns c = c.starts_with.ensures.value ∙ begins_is c.args.name.now c.args.word.now
