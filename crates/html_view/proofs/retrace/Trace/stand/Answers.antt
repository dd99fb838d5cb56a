use Rattle.std.proofs.Common.{Vec, Some, ◌≡◌, ◌∷◌, ap, ◌∙◌, refl, ⊎_elim}
use Rattle.html_view.specs.Frames.{once_stood, work_of}
use Rattle.html_view.specs.Kept.{asked_nodes}
use Rattle.html_view.specs.Nodes as node
use Rattle.html_view.specs.Nodes.{Asked, Nodes, Opening, written_times}
use Rattle.html_view.specs.Reached.{behind_body}
use Rattle.html_view.specs.declared.node.Times.{Times}
use Rattle.html_view.specs.declared.node.Times.TheVariants.{Attributes, Each, Given, If, Once, Whether}
use Rattle.html_view.specs.declared.retrace.Trace.{Trace}
use Rattle.html_view.proofs.Retraced.{led_again, led_once}
use Rattle.html_view.proofs.SourceReads.{on_ok}
use Rattle.html_view.proofs.retrace.Trace.stand.Goals as goal
use Rattle.html_view.proofs.retrace.Trace.stand.Goals.{in-Each+in_ok-add-in-Each, in-If+in_ok-add-in-If}

once_of : (times other : Times) → ((made : Opening) (b r : Nodes Asked) → behind_body (written_times other) made b r ≡ r) → times ≡ other →
    (made : Opening) (b r : Nodes Asked) → behind_body (written_times times) made b r ≡ r
once_of times other once is made b r = ap (λ t. behind_body (written_times t) made b r) is ∙ once made b r

pub returns : goal.returns
returns g c = elim c.match-opening.branch [
  | in-Each+in_ok-add-in-Each w ↦
      on_ok c.add-2.result _ _ c.add-2.ensures.work
      (λ more.
      led_again c.args.frame c.args.opening c.args.number (asked_nodes c.args.body.now.items node.End) c.requires.0 c.args.rest.now
      c.args.self.now.standing.items c.add-2.new.self.standing.items (work_of c.args.self.now.work.items) (work_of c.add-2.new.self.work.items)
      c.requires.1
      (⊎_elim (λ (is : c.args.opening.times ≡ Each). ap written_times is) (λ (is : c.args.opening.times ≡ Once). ap written_times is) w.in-Each.is)
      (ap (λ (s : Vec _ _). s.items) c.add-2.ensures.standing ∙ ap (λ (t : Trace _). t.standing.items) w.self-is
      ∙ ap (λ (s : Vec _ _). s.items) w.add.ensures.standing ∙ c.in_ok-tell.ensures.standing)
      (more ∙ ap (λ n. asked_nodes n node.End ∷ work_of c.match-opening.self.work.items) c.as_slice.ensures.value
      ∙ ap (λ (t : Trace _). asked_nodes c.args.body.now.items node.End ∷ work_of t.work.items) w.self-is
      ∙ ap (λ x. asked_nodes c.args.body.now.items node.End ∷ x) w.in_ok-add-in-Each.ensures.work
      ∙ ap (λ (x : Vec _ _). asked_nodes c.args.body.now.items node.End ∷ once_stood (Some c.args.number) (asked_nodes c.args.frame.nodes.now node.End) ∷ work_of x.items) c.tell.ensures.work))
  | in-If+in_ok-add-in-If w ↦
      on_ok c.add-2.result _ _ c.add-2.ensures.work
      (λ more.
      led_once c.args.frame c.args.opening (asked_nodes c.args.body.now.items node.End) c.requires.0 c.args.rest.now
      c.args.self.now.standing.items c.add-2.new.self.standing.items (work_of c.args.self.now.work.items) (work_of c.add-2.new.self.work.items)
      c.requires.1
      (⊎_elim (λ (is : c.args.opening.times ≡ If). once_of c.args.opening.times If (λ made b r. refl) is)
      (⊎_elim (λ (is : c.args.opening.times ≡ Whether). once_of c.args.opening.times Whether (λ made b r. refl) is)
      (⊎_elim (λ (is : c.args.opening.times ≡ Given). once_of c.args.opening.times Given (λ made b r. refl) is)
      (λ (is : c.args.opening.times ≡ Attributes). once_of c.args.opening.times Attributes (λ made b r. refl) is))) w.in-If.is)
      (ap (λ (s : Vec _ _). s.items) c.add-2.ensures.standing ∙ ap (λ (t : Trace _). t.standing.items) w.self-is
      ∙ ap (λ (s : Vec _ _). s.items) w.add-in-If.ensures.standing ∙ c.in_ok-tell.ensures.standing)
      (more ∙ ap (λ n. asked_nodes n node.End ∷ work_of c.match-opening.self.work.items) c.as_slice.ensures.value
      ∙ ap (λ (t : Trace _). asked_nodes c.args.body.now.items node.End ∷ work_of t.work.items) w.self-is
      ∙ ap (λ x. asked_nodes c.args.body.now.items node.End ∷ x) w.in_ok-add-in-If.ensures.work
      ∙ ap (λ (x : Vec _ _). asked_nodes c.args.body.now.items node.End ∷ asked_nodes c.args.rest.now node.End ∷ work_of x.items) c.tell.ensures.work))
]
