use Rattle.std.proofs.Common.{rules}
use Rattle.hesc_tool.proofs.words.without_words.Goals as goal

pub returns-in-OutOfMemory : goal.returns-in-OutOfMemory
returns-in-OutOfMemory c = search rules
