use Rattle.std.proofs.Common.{Vec, ◌≡◌, List, ◌∷◌, [], Result, Ok, Err, Option, Some, None, arith, refl, sym, ap, ◌∙◌, subst}
use Rattle.std.specs.Result.{IfOk}
use Rattle.std.specs.Option.{IfSome}
use Rattle.html_view.specs.Following.{way_of}
use Rattle.html_view.specs.Frames.{frame_of, work_of}
use Rattle.html_view.specs.Kept.{asked_nodes, asked_of}
use Rattle.html_view.specs.Nodes as node
use Rattle.html_view.specs.Nodes.{Asked, Nodes}
use Rattle.html_view.specs.Reached.{RefusedWith, Shows}
use Rattle.html_view.specs.Ways.{EndsWithin, Way, turned, way_behind}
use Rattle.html_view.specs.declared.faults.Position.{Position}
use Rattle.html_view.specs.declared.faults.Refused.{Refused}
use Rattle.html_view.specs.declared.faults.ViewFault.TheVariants.{Unfinished}
use Rattle.html_view.specs.declared.retrace.Trace.{Trace}
use Rattle.html_view.specs.declared.way.Way as code
use Rattle.html_view.proofs.Retraced.{Traced, begins_section, empty_of, frame_fragment, frame_markup, frame_slot, no_front, shown_end, shown_markup, shown_slot, traced_end, traced_first, traced_fragment, traced_led, traced_markup, traced_popped, traced_slot}
use Rattle.html_view.proofs.retrace.retrace.Goals as goal
use Rattle.html_view.proofs.retrace.retrace.Goals.{in-Markup+in_ok-turn_to_markup-in-Markup+in-Ok+in_ok-add-in-Ok, in-Slot+in_ok-take_slot-in-Slot+in-Ok-2+in_ok-add-in-Ok-2, in-Fragment+in_ok-add-in-Fragment, in-Section+in-Some-pass+in_ok-stand-in-Some-pass, in-Section+in-None+in_ok-leave_out-in-None}

-- the same, by where they come from
same_trace : {A : Type 0} (nodes : Nodes Asked) (way old_way : code.Way A) (trace old : Trace A) → way ≡ old_way → trace ≡ old →
    Traced nodes (way_of old_way) old.standing.items (work_of old.work.items) → Traced nodes (way_of way) trace.standing.items (work_of trace.work.items)
same_trace nodes way old_way trace old same is traced =
    subst (λ (w : code.Way _). Traced nodes (way_of w) trace.standing.items (work_of trace.work.items)) (sym same)
    (subst (λ (t : Trace _). Traced nodes (way_of old_way) t.standing.items (work_of t.work.items)) (sym is) traced)

added : {A : Type 0} (nodes : Nodes Asked) (way : Way) (trace : Trace A) (standing : Vec Position A) (work : List (Nodes Asked)) →
    trace.standing ≡ standing → work_of trace.work.items ≡ work → Traced nodes way standing.items work →
    Traced nodes way trace.standing.items (work_of trace.work.items)
added nodes way trace standing work same is traced =
    subst (λ (s : Vec Position _). Traced nodes way s.items (work_of trace.work.items)) (sym same)
    (subst (λ w. Traced nodes way standing.items w) (sym is) traced)

pub loop-step-init : goal.loop-step-init
loop-step-init g c =
    let nodes : Nodes Asked = asked_nodes c.args.nodes.now node.End in
    let none : c.add.new.self.standing.items ≡ [] = ap (λ (s : _). s.items) c.in_ok-add.ensures.standing ∙ c.new.ensures.items in
    let work : work_of c.add.new.self.work.items ≡ nodes ∷ [] =
    c.in_ok-add.ensures.work ∙ ap (λ w. nodes ∷ work_of w) c.new-2.ensures.items in
    subst (λ s. Traced nodes (way_of c.first-way.result) s (work_of c.add.new.self.work.items)) (sym none)
    (subst (λ w. Traced nodes (way_of c.first-way.result) [] w) (sym work)
    (subst (λ w. Traced nodes w [] (nodes ∷ [])) (sym c.first-way.ensures) (traced_first nodes)))

-- what ends within something shows that
ended_shows : {A E : Type 0} (nodes : Nodes Asked) (way : Way) (standing : Vec Position A) (result : Result (Option (Refused A)) E) →
    Traced nodes way standing.items [] → IfOk result (λ found. IfSome found (λ refused. EndsWithin way)) →
    IfOk result (λ found. IfSome found (λ refused. refused.fault ≡ Unfinished)) → IfOk result (λ found. IfSome found (λ refused. refused.standing ≡ standing)) →
    IfOk result (λ found. IfSome found (λ refused. Shows nodes refused.standing.items refused.fault))
ended_shows nodes way standing (Ok None) traced within told same = tt
ended_shows nodes way standing (Ok (Some refused)) traced within told same =
    subst (λ f. Shows nodes refused.standing.items f) (sym told)
    (subst (λ (s : Vec Position _). Shows nodes s.items Unfinished) (sym same) (shown_end nodes way standing.items traced within))
ended_shows nodes way standing (Err fault) traced within told same = tt

pub returns-in_default : goal.returns-in_default
returns-in_default g c =
    let nodes : Nodes Asked = asked_nodes c.args.nodes.now node.End in
    let none : c.loop-step.trace.work.items ≡ [] =
    empty_of c.loop-step.trace.work.items (omega (arith, c.loop-step.trace.work.ok.0, c.in_default.ensures.cases.0)) in
    ended_shows nodes (way_of c.loop-step.way) c.loop-step.trace.standing c.ended.result
    (subst (λ w. Traced nodes (way_of c.loop-step.way) c.loop-step.trace.standing.items (work_of w)) none c.loop-step.invariant)
    c.ended.ensures.within c.ended.ensures.told c.ended.ensures.standing

pub loop-step-preserved-in_default-nodes : goal.loop-step-preserved-in_default-nodes
loop-step-preserved-in_default-nodes g c =
    traced_end _ (way_of c.loop-step.way) c.loop-step.trace.standing.items (work_of c.pop.new.self.items)
    (traced_popped _ (way_of c.loop-step.way) c.loop-step.trace.standing.items c.loop-step.trace.work.items c.pop.new.self.items c.in-Some.frame node.End
    c.in-Some.ensures.items (no_front c.in-Some.frame c.in_default-nodes.len_below) c.loop-step.invariant)

pub returns-in-Err : goal.returns-in-Err
returns-in-Err g c =
    let nodes : Nodes Asked = asked_nodes c.args.nodes.now node.End in
    let traced = traced_popped nodes (way_of c.loop-step.way) c.loop-step.trace.standing.items c.loop-step.trace.work.items c.pop.new.self.items
    c.in-Some.frame _ c.in-Some.ensures.items
    (frame_markup c.in-Some.frame c.node-item.result c.in-Markup.text c.in-Markup.position c.in-len1-up.len_at_least c.node-item.is c.in-Markup.is)
    c.loop-step.invariant in
    let told : way_behind (turned (way_of c.loop-step.way) c.in-Markup.text.now) c.in-Markup.text.now ≡ Err c.in-Err.why =
    ap (λ b. way_behind (turned (way_of c.loop-step.way) b) b) (sym c.as_bytes.ensures.value) ∙ rw c.in-Err.is at c.in_ok-turn_to_markup-in-Markup.ensures in
    subst (λ f. Shows nodes c.refused.result.standing.items f) (sym c.refused.ensures.fault)
    (subst (λ (s : Vec Position _). RefusedWith nodes s.items c.in-Markup.position c.in-Err.why) (sym c.refused.ensures.standing)
    (shown_markup nodes (way_of c.loop-step.way) c.loop-step.trace.standing.items c.in-Markup.text.now _ (work_of c.pop.new.self.items) c.in-Markup.position
    c.in-Err.why traced told))

pub returns-in-Err-2 : goal.returns-in-Err-2
returns-in-Err-2 g c =
    let nodes : Nodes Asked = asked_nodes c.args.nodes.now node.End in
    let traced = traced_popped nodes (way_of c.loop-step.way) c.loop-step.trace.standing.items c.loop-step.trace.work.items c.pop.new.self.items
    c.in-Some.frame _ c.in-Some.ensures.items
    (frame_slot c.in-Some.frame c.node-item.result c.in-Slot.slot c.in-len1-up.len_at_least c.node-item.is c.in-Slot.is) c.loop-step.invariant in
    subst (λ f. Shows nodes c.refused-in-Err-2.result.standing.items f) (sym c.refused-in-Err-2.ensures.fault)
    (subst (λ (s : Vec Position _). RefusedWith nodes s.items c.in-Slot.slot.position c.in-Err-2.why) (sym c.refused-in-Err-2.ensures.standing)
    (shown_slot nodes (way_of c.loop-step.way) c.loop-step.trace.standing.items (asked_of c.in-Slot.slot) _ (work_of c.pop.new.self.items)
    c.in-Slot.slot.position c.in-Err-2.why refl traced (rw c.in-Err-2.is at c.in_ok-take_slot-in-Slot.ensures)))

pub stand-requires : goal.stand-requires
stand-requires g c = (
  asked_nodes c.in-Section.otherwise.items node.End,
  begins_section c.in-Some.frame.nodes.now c.node-item.result c.in-Section.opening c.in-Section.body c.in-Section.otherwise c.in-len1-up.len_at_least
      c.node-item.is c.in-Section.is,
)

pub leave_out-requires : goal.leave_out-requires
leave_out-requires g c = (
  c.in-Section.opening,
  asked_nodes c.in-Section.body.items node.End,
  begins_section c.in-Some.frame.nodes.now c.node-item.result c.in-Section.opening c.in-Section.body c.in-Section.otherwise c.in-len1-up.len_at_least
      c.node-item.is c.in-Section.is,
)

pub loop-step-preserved : goal.loop-step-preserved
loop-step-preserved g c =
    let nodes : Nodes Asked = asked_nodes c.args.nodes.now node.End in
    let way : Way = way_of c.loop-step.way in
    elim c.match-node.branch [
      | in-Markup+in_ok-turn_to_markup-in-Markup+in-Ok+in_ok-add-in-Ok w ↦
          let traced = traced_popped nodes way c.loop-step.trace.standing.items c.loop-step.trace.work.items c.pop.new.self.items c.in-Some.frame _
          c.in-Some.ensures.items
          (frame_markup c.in-Some.frame c.node-item.result w.in-Markup.text w.in-Markup.position c.in-len1-up.len_at_least c.node-item.is w.in-Markup.is)
          c.loop-step.invariant in
          let told : way_behind (turned way w.in-Markup.text.now) w.in-Markup.text.now ≡ Ok (way_of w.turn_to_markup.new.self) =
          ap (λ b. way_behind (turned way b) b) (sym w.as_bytes.ensures.value) ∙ rw w.in-Ok.is at w.in_ok-turn_to_markup-in-Markup.ensures in
          same_trace nodes _ _ _ _ w.way'-is w.trace-is
          (added nodes (way_of w.turn_to_markup.new.self) w.add-in-Ok.new.self _ _ w.in_ok-add-in-Ok.ensures.standing w.in_ok-add-in-Ok.ensures.work
          (traced_markup nodes way (way_of w.turn_to_markup.new.self) c.loop-step.trace.standing.items w.in-Markup.text.now _ (work_of c.pop.new.self.items)
          traced told))
      | in-Slot+in_ok-take_slot-in-Slot+in-Ok-2+in_ok-add-in-Ok-2 w ↦
          let traced = traced_popped nodes way c.loop-step.trace.standing.items c.loop-step.trace.work.items c.pop.new.self.items c.in-Some.frame _
          c.in-Some.ensures.items
          (frame_slot c.in-Some.frame c.node-item.result w.in-Slot.slot c.in-len1-up.len_at_least c.node-item.is w.in-Slot.is) c.loop-step.invariant in
          same_trace nodes _ _ _ _ w.way'-is w.trace-is
          (added nodes (way_of w.take_slot.new.self) w.add-in-Ok-2.new.self _ _ w.in_ok-add-in-Ok-2.ensures.standing w.in_ok-add-in-Ok-2.ensures.work
          (traced_slot nodes way (way_of w.take_slot.new.self) w.in-Ok-2.field-0 c.loop-step.trace.standing.items (asked_of w.in-Slot.slot) _
          (work_of c.pop.new.self.items) traced (rw w.in-Ok-2.is at w.in_ok-take_slot-in-Slot.ensures)))
      | in-Fragment+in_ok-add-in-Fragment w ↦
          let traced = traced_popped nodes way c.loop-step.trace.standing.items c.loop-step.trace.work.items c.pop.new.self.items c.in-Some.frame _
          c.in-Some.ensures.items
          (frame_fragment c.in-Some.frame c.node-item.result w.in-Fragment.field-0 c.in-len1-up.len_at_least c.node-item.is w.in-Fragment.is)
          c.loop-step.invariant in
          same_trace nodes _ _ _ _ w.way'-is w.trace-is
          (added nodes way w.add-in-Fragment.new.self _ _ w.in_ok-add-in-Fragment.ensures.standing w.in_ok-add-in-Fragment.ensures.work
          (traced_fragment nodes way c.loop-step.trace.standing.items (asked_of w.in-Fragment.field-0) _ (work_of c.pop.new.self.items) traced))
      | in-Section+in-Some-pass+in_ok-stand-in-Some-pass w ↦
          same_trace nodes _ _ _ _ w.way'-is w.trace-is
          (traced_led nodes way c.loop-step.trace.standing.items w.stand.new.self.standing.items (frame_of c.in-Some.frame ∷ work_of c.pop.new.self.items)
          (work_of w.stand.new.self.work.items) w.in_ok-stand-in-Some-pass.ensures
          (traced_popped nodes way c.loop-step.trace.standing.items c.loop-step.trace.work.items c.pop.new.self.items c.in-Some.frame _ c.in-Some.ensures.items
          refl c.loop-step.invariant))
      | in-Section+in-None+in_ok-leave_out-in-None w ↦
          same_trace nodes _ _ _ _ w.way'-is w.trace-is
          (traced_led nodes way c.loop-step.trace.standing.items w.leave_out.new.self.standing.items (frame_of c.in-Some.frame ∷ work_of c.pop.new.self.items)
          (work_of w.leave_out.new.self.work.items) w.in_ok-leave_out-in-None.ensures
          (traced_popped nodes way c.loop-step.trace.standing.items c.loop-step.trace.work.items c.pop.new.self.items c.in-Some.frame _ c.in-Some.ensures.items
          refl c.loop-step.invariant))
    ]
