use Rattle.std.proofs.Common.{subst, sym}
use Rattle.std.proofs.lemmas.Str.{IsUtf8-had}
use Rattle.std.specs.Str.{IsUtf8}
use Rattle.hesc_sinks.proofs.TakenText.{word_text}
use Rattle.hesc_sinks.proofs.sinks.store.StoreSinkSink.put_segment.Goals as goal

pub put_small-requires-clause-utf8 : goal.put_small-requires-clause-utf8
put_small-requires-clause-utf8 g c =
    subst IsUtf8 (sym (word_text c.in-Small.text c.word.result c.len.result c.word.ensures c.len.ensures)) (IsUtf8-had _ c.in-Small.text.utf8)
