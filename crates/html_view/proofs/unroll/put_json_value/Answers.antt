use Rattle.std.proofs.Common.{None, ap, option_map, refl, sym, ◌∙◌}
use Rattle.html_view.specs.Kept.{slot_of}
use Rattle.html_view.specs.Values.{datum_of, stack_of}
use Rattle.html_view.specs.declared.faults.ValueFault.TheVariants.{Missing}
use Rattle.html_view.proofs.JsonSlots.{json_puts, json_refused}
use Rattle.html_view.proofs.unroll.put_json_value.Goals as goal

pub returns-in_default-clause-puts : goal.returns-in_default-clause-puts
returns-in_default-clause-puts g c =
    json_refused (slot_of c.args.slot.now) (stack_of c.args.around.now) None (c.args.slot.now.asked.position, Missing) c.requires.json
    (sym (ap (option_map datum_of) c.in_default.is) ∙ c.requires.means) refl

pub returns-clause-puts : goal.returns-clause-puts
returns-clause-puts g c =
    json_puts (slot_of c.args.slot.now) (stack_of c.args.around.now) (datum_of c.in-Some.value) (g.S.Sink.seen c.args.sink.now).taken (g.S.Sink.seen c.put_json.new.sink).taken
    c.put_json.result c.requires.json (sym (ap (option_map datum_of) c.in-Some.is) ∙ c.requires.means) c.put_json.ensures.puts
