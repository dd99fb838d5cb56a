use Rattle.std.proofs.Common.{sym, ◌∙◌}
use Rattle.html_tokenizer.specs.Tokenizer.Phases.{tokenizer_of}
use Rattle.html_template.specs.TemplateFaults.{walk_of}
use Rattle.html_template.proofs.Walks.{taken_slot}
use Rattle.html_template.proofs.walk.Walk.take_slot.Goals as goal

pub returns-in-Ok : goal.returns-in-Ok
returns-in-Ok g c = λ parts follows.
    rw c.before-slot.ensures
    (taken_slot c.args.number (walk_of c.args.self.now) c.as_bytes-markup.result.now c.slot-standing.result c.in-Ok.found
    (tokenizer_of c.slot-standing.new.self) c.args.next.now parts (sym c.in_ok-found.ensures ∙ c.in-Ok.is)
    c.as_bytes-markup.ensures.value c.slot-standing.ensures.at c.slot-standing.ensures.after follows)
