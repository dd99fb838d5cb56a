use Rattle.std.proofs.Common.{option_map, sym, ◌∙◌}
use Rattle.html_view.specs.Kept.{slot_of}
use Rattle.html_view.specs.Values.{datum_of, stack_of}
use Rattle.html_view.proofs.JsonSlots.{plain_found, plain_refused}
use Rattle.html_view.proofs.Putting.{text_begun, text_put}
use Rattle.html_view.proofs.unroll.put_value.Goals as goal

pub returns-in-Ok-put_text-clause-puts : goal.returns-in-Ok-put_text-clause-puts
returns-in-Ok-put_text-clause-puts g c =
    text_put (slot_of c.args.slot.now) (stack_of c.args.around.now) c.in-Ok.text.now (g.S.Sink.seen c.args.sink.now).taken (g.S.Sink.seen c.put_text.new.sink).taken
    (plain_found (slot_of c.args.slot.now) (stack_of c.args.around.now) (option_map datum_of c.args.value) c.in-Ok.text.now (sym c.is_json.ensures ∙ c.if-is_json.false)
    c.requires.means c.in-Ok.ensures.ok) c.in-Ok.ensures.utf8 c.in-Ok-put_text.ensures.taken

pub returns-in-Err-put_text-clause-puts : goal.returns-in-Err-put_text-clause-puts
returns-in-Err-put_text-clause-puts g c =
    text_begun (slot_of c.args.slot.now) (stack_of c.args.around.now) c.in-Ok.text.now (g.S.Sink.seen c.args.sink.now).taken (g.S.Sink.seen c.put_text.new.sink).taken
    (plain_found (slot_of c.args.slot.now) (stack_of c.args.around.now) (option_map datum_of c.args.value) c.in-Ok.text.now (sym c.is_json.ensures ∙ c.if-is_json.false)
    c.requires.means c.in-Ok.ensures.ok) c.in-Err-put_text.ensures.taken

pub returns-in-Err-clause-puts : goal.returns-in-Err-clause-puts
returns-in-Err-clause-puts g c =
    plain_refused (slot_of c.args.slot.now) (stack_of c.args.around.now) (option_map datum_of c.args.value) (c.args.slot.now.asked.position, c.in-Err.why)
    (sym c.is_json.ensures ∙ c.if-is_json.false) c.requires.means c.in-Err.ensures.err
