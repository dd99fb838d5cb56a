use Rattle.std.proofs.Common.{◌≡◌, ◌∙◌, [], ap, arith, length, sym}
use Rattle.std.proofs.Math.Seq.{take-append_seam}
use Rattle.std.specs.Prelude.{unwrap_or, vec_items, vec_len}
use Rattle.hesc_sinks.specs.Sinks.{store_sink_seen}
use Rattle.hesc_sinks.proofs.Took.{took_before, took_reference}
use Rattle.hesc_engine.proofs.forms.parts.put_in_room.Goals as goal

pub returns-then-not-is_put-clause-items : goal.returns-then-not-is_put-clause-items
returns-then-not-is_put-clause-items g c =
    let first = store_sink_seen c.new-sink.result in let now = store_sink_seen c.put_into.new.sink in
    let text = g.P.Parts.text c.args.parts.now in
    let reference = took_reference first now text c.put_into.result c.put_into.ensures in
    let before = took_before first now text c.put_into.result c.put_into.ensures in
    let same = sym (c.into_output-output.ensures.same_reference ∙ reference ∙ c.new-sink.ensures.same_reference) in
    let start = ap (λ bytes. unwrap_or bytes []) before ∙ c.new-sink.ensures.start in
    let long : vec_len c.args.output.now ≡ length c.args.output.now.items = omega (arith, c.args.output.now.ok.0) in
    rw c.if-not-is_put.true
    (ap vec_items (c.output-1.given.1 same) ∙ c.truncate.ensures.items ∙ rw (c.len-start.ensures, c.into_output-output.ensures.items, start, long) (take-append_seam c.args.output.now.items c.put_into.new.sink.log.taken))
