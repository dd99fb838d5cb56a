use Rattle.std.proofs.Common.{sym, ap, ◌∙◌}
use Rattle.html_template.specs.OpenUrls.{url_markup}
use Rattle.html_template.specs.TemplateFaults.{slot_at}
use Rattle.html_tokenizer.specs.Tokenizer.Phases.{tokenizer_of}
use Rattle.html_view.specs.Following.{way_of}
use Rattle.html_view.proofs.RunningWays.{slot_taken}
use Rattle.html_view.proofs.way.Way.take_slot.Goals as goal

pub returns-in-Ok-2 : goal.returns-in-Ok-2
returns-in-Ok-2 g c =
    slot_taken c.args.next.now (way_of c.args.self.now) c.clear.new.self.items c.in-Ok.url c.slot-standing.result c.in-Ok-2.found c.before-slot.result
    (tokenizer_of c.slot-standing.new.self)
    c.clear.ensures.items (sym c.is_refused.ensures ∙ c.if-is_refused.false)
    (sym (ap (url_markup c.args.self.now.url) c.deref.ensures.value) ∙ sym c.in_ok-url.ensures ∙ c.in-Ok.is)
    c.slot-standing.ensures.at
    (sym (ap (λ m. slot_at m c.in-Ok.url c.slot-standing.result) c.deref-2.ensures.value) ∙ sym c.in_ok-found.ensures ∙ c.in-Ok-2.is)
    c.slot-standing.ensures.after c.before-slot.ensures
