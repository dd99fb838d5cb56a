use Rattle.std.proofs.Common.{◌≡◌, ◌++◌, ap, sym, ◌∙◌}
use Rattle.hesc_sinks.specs.Sinks.{writer_sink_output, writer_sink_start}
use Rattle.hesc_sinks.proofs.Told.{told-all}
use Rattle.html_view.specs.Rendered.{rendered}
use Rattle.html_view.proofs.append.write.Goals as goal

pub returns-in-Ok-outcome-clause-written : goal.returns-in-Ok-outcome-clause-written
returns-in-Ok-outcome-clause-written g c =
    let put = c.in-Ok-outcome.ensures.puts in
    let same = sym (c.into_output-output.ensures.same_reference ∙ c.put_nodes-outcome.ensures.same_reference ∙ c.new-sink.ensures.same_reference) in
    let first : g.W.Write.contents (writer_sink_start c.put_nodes-outcome.new.sink) ≡ g.W.Write.contents c.args.output.now =
    c.put_nodes-outcome.ensures.same_before ∙ ap g.W.Write.contents c.new-sink.ensures.start in
    let last : g.W.Write.contents (writer_sink_output c.put_nodes-outcome.new.sink).now ≡ g.W.Write.contents c.output-1.given.0 =
    ap g.W.Write.contents (sym (c.output-1.given.1 same ∙ c.into_output-output.ensures.value)) in (
      put.found,
      put.same,
      told-all _ _ _ _ _ _ first last (put.taken ∙ ap (λ b. b ++ rendered put.found) c.new-sink.ensures.nothing) c.put_nodes-outcome.new.sink.told,
    )

pub returns-in-Failed-clause-written : goal.returns-in-Failed-clause-written
returns-in-Failed-clause-written g c =
    let begun = rw c.in-Failed.is at c.in-Err-outcome.ensures.puts in
    let took = begun c.in-Ok.ensures.0 c.in-Ok.ensures.1 in
    let same = sym (c.into_output-output.ensures.same_reference ∙ c.put_nodes-outcome.ensures.same_reference ∙ c.new-sink.ensures.same_reference) in
    let first : g.W.Write.contents (writer_sink_start c.put_nodes-outcome.new.sink) ≡ g.W.Write.contents c.args.output.now =
    c.put_nodes-outcome.ensures.same_before ∙ ap g.W.Write.contents c.new-sink.ensures.start in
    let last : g.W.Write.contents (writer_sink_output c.put_nodes-outcome.new.sink).now ≡ g.W.Write.contents c.output-1.given.0 =
    ap g.W.Write.contents (sym (c.output-1.given.1 same ∙ c.into_output-output.ensures.value)) in (
      c.in-Ok.ensures.0,
      c.in-Ok.ensures.1,
      (
        took.0,
        took.1.1,
        told-all _ _ _ _ _ _ first last (took.1.0 ∙ ap (λ b. b ++ took.0) c.new-sink.ensures.nothing) c.put_nodes-outcome.new.sink.told,
      ),
    )
