use Rattle.hesc_places.proofs.Pages.ParserLaws.{past-strip}
use Rattle.hesc_places.proofs.markup.prefix.past.Goals as goal

pub returns : goal.returns
returns c = past-strip c.args.word.now c.args.bytes.now c.strip_prefix.result c.strip_prefix.ensures.cases
