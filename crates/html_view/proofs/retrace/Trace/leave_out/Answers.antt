use Rattle.std.proofs.Common.{◌∷◌, ap, ◌∙◌, sym, subst}
use Rattle.html_view.specs.Frames.{Leads, frame_of, once_stood, work_of}
use Rattle.html_view.specs.Kept.{asked_nodes, opening_of}
use Rattle.html_view.specs.Nodes as node
use Rattle.html_view.specs.Nodes.{written_opening}
use Rattle.html_view.proofs.Retraced.{led_out, led_past}
use Rattle.html_view.proofs.SourceReads.{on_ok}
use Rattle.html_view.proofs.retrace.Trace.leave_out.Goals as goal

pub returns-in-Some : goal.returns-in-Some
returns-in-Some g c =
    let leads : Leads c.args.self.now.standing.items (frame_of c.args.frame ∷ work_of c.args.self.now.work.items)
    c.args.self.now.standing.items (work_of c.add.new.self.work.items) =
    subst (λ again. Leads c.args.self.now.standing.items
    (once_stood again (asked_nodes c.args.frame.nodes.now node.End) ∷ work_of c.args.self.now.work.items)
    c.args.self.now.standing.items (work_of c.add.new.self.work.items)) (sym c.in-Some.is)
    (led_past c.in-Some.field-0 (asked_nodes c.args.frame.nodes.now node.End) (written_opening (opening_of c.requires.0)) c.requires.1
    (asked_nodes c.args.otherwise.now.items node.End) (asked_nodes c.args.rest.now node.End) c.args.self.now.standing.items
    (work_of c.args.self.now.work.items) (work_of c.add.new.self.work.items) c.requires.2 c.in_ok-add.ensures.work) in
    subst (λ s. Leads c.args.self.now.standing.items (frame_of c.args.frame ∷ work_of c.args.self.now.work.items) s.items
    (work_of c.add.new.self.work.items)) (sym c.in_ok-add.ensures.standing) leads

pub returns-in-None : goal.returns-in-None
returns-in-None g c =
    on_ok c.add-in-None.result _ _ c.add-in-None.ensures.work
    (λ more.
    let leads : Leads c.args.self.now.standing.items (frame_of c.args.frame ∷ work_of c.args.self.now.work.items)
    c.args.self.now.standing.items (work_of c.add-in-None.new.self.work.items) =
    subst (λ again. Leads c.args.self.now.standing.items
    (once_stood again (asked_nodes c.args.frame.nodes.now node.End) ∷ work_of c.args.self.now.work.items)
    c.args.self.now.standing.items (work_of c.add-in-None.new.self.work.items)) (sym c.in-None.is)
    (led_out (asked_nodes c.args.frame.nodes.now node.End) (written_opening (opening_of c.requires.0)) c.requires.1
    (asked_nodes c.args.otherwise.now.items node.End) (asked_nodes c.args.rest.now node.End) c.args.self.now.standing.items
    (work_of c.args.self.now.work.items) (work_of c.add-in-None.new.self.work.items) c.requires.2
    (more ∙ ap (λ n. asked_nodes n node.End ∷ work_of c.add.new.self.work.items) c.as_slice.ensures.value
    ∙ ap (λ w. asked_nodes c.args.otherwise.now.items node.End ∷ w) c.in_ok-add.ensures.work)) in
    subst (λ s. Leads c.args.self.now.standing.items (frame_of c.args.frame ∷ work_of c.args.self.now.work.items) s.items
    (work_of c.add-in-None.new.self.work.items)) (sym (c.add-in-None.ensures.standing ∙ c.in_ok-add.ensures.standing)) leads)
