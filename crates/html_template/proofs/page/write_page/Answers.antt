use Rattle.std.proofs.Common.{ap, map, sym, ◌∙◌}
use Rattle.hesc_sinks.specs.Sinks.{writer_sink_seen}
use Rattle.hesc_sinks.proofs.Took.{took_reference}
use Rattle.hesc_engine.proofs.Written.{writes_text}
use Rattle.html_template.specs.Templates.{chunk_of, page}
use Rattle.html_template.proofs.page.write_page.Goals as goal

pub returns : goal.returns
returns g c =
    let start = writer_sink_seen c.new-sink.result in let now = writer_sink_seen c.put_pieces-outcome.new.sink in
    let reference = took_reference start now (page (map chunk_of c.args.made.now.pieces.now) (g.T.Texts.list c.args.made.now.texts)) c.put_pieces-outcome.result c.put_pieces-outcome.ensures in
    let same = sym (c.into_output-output.ensures.same_reference ∙ reference ∙ c.new-sink.ensures.same_reference) in
    writes_text _ _ _ start now (page (map chunk_of c.args.made.now.pieces.now) (g.T.Texts.list c.args.made.now.texts)) c.put_pieces-outcome.result c.new-sink.ensures.nothing (ap g.W.Write.contents c.new-sink.ensures.start)
    (ap g.W.Write.contents (sym (c.output-1.given.1 same ∙ c.into_output-output.ensures.value))) c.put_pieces-outcome.new.sink.told c.put_pieces-outcome.ensures
