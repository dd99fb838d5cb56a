use Rattle.std.proofs.Common.{rules, map, ap, sym, ◌∙◌}
use Rattle.html_template.specs.FillFaults.{fill_fault}
use Rattle.html_template.specs.TemplatePieces.{pieces_of}
use Rattle.html_template.specs.Templates.{chunk_of}
use Rattle.html_template.proofs.FillFaults.{answered}
use Rattle.html_template.proofs.Joined.{page_after}
use Rattle.html_template.proofs.template.Template.append_texts.Goals as goal

pub returns-in-Err-clause-faults : goal.returns-in-Err-clause-faults
returns-in-Err-clause-faults g c =
    answered (Unit {0}) (pieces_of c.args.self.now) (g.T.Texts.list c.args.texts.now) c.in-Err.fault
    (sym (ap (λ pieces. fill_fault (map chunk_of pieces) (g.T.Texts.list c.args.texts.now)) c.deref.ensures.value) ∙ sym c.in-Err.ensures.faults)

pub returns-clause-joins : goal.returns-clause-joins
returns-clause-joins g c =
    page_after (pieces_of c.args.self.now) (g.T.Texts.list c.args.texts.now) (search rules) (search rules) (search rules) (search rules)
