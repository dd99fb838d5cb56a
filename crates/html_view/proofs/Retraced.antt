-- Reading an unrolling once more: what is reached, and where the way is that reads it.
use Rattle.std.proofs.Common.{Bor, Vec, ℕ, ◌≡◌, ◌<◌, ◌≤◌, ◌-◌, List, [], ◌∷◌, ◌++◌, Option, Some, None, Ok, Err, arith, drop, get_or, length, map, take, refl, sym, ap, ◌∙◌, subst}
use Rattle.std.proofs.lemmas.List.{reverse-append}
use Rattle.html_template.specs.Templates.{Given, GivenMarkup, GivenSlot}
use Rattle.html_template.specs.declared.faults.PartFault.{PartFault}
use Rattle.html_template.specs.declared.open_url.PlacedSlot.{PlacedSlot}
use Rattle.html_view.specs.Frames.{BeginsWith, Leads, frame_of, once_stood, work_of}
use Rattle.html_view.specs.Kept.{asked_node, asked_nodes, asked_of, opening_of}
use Rattle.html_view.specs.Nodes as node
use Rattle.html_view.specs.Nodes.{Asked, Nodes, Opening, written_opening, written_times}
use Rattle.html_view.specs.Reached.{RefusedWith, Reaches, UnfinishedWith, at_first, behind_body, left_out, past_end, past_fragment, past_markup, past_slot, told_with, within}
use Rattle.html_view.specs.Ways.{EndsWithin, Way, first_way, past_slot as after, turned, way_behind, way_slot}
use Rattle.html_view.specs.declared.faults.Position.{Position}
use Rattle.html_view.specs.declared.node.Asked as asked
use Rattle.html_view.specs.declared.node.Node.{Fragment, Markup, Node, Section, Slot}
use Rattle.html_view.specs.declared.node.Opening as code
use Rattle.html_view.specs.declared.node.Times.{Times}
use Rattle.html_view.specs.declared.node.Times.TheVariants as times
use Rattle.html_view.specs.declared.node.Times.TheVariants.{Each, If, Once, Whether}
use Rattle.html_view.specs.declared.retrace.Frame.{Frame}
use Rattle.html_view.proofs.Followed.{asked_fragment, asked_markup, asked_section, asked_slot, take_whole}
use Rattle.html_view.specs.Following.{MovedPast}
use Rattle.html_view.proofs.Refusals.{ReadsParts, before_nothing, end_shown, markup_shown, reads_first, reads_more, reads_past, slot_shown}

-- ---- what the code keeps

pub work_more : {A : Type 0} (old : List (Frame A)) (last : Frame A) → work_of (old ++ last ∷ []) ≡ frame_of last ∷ work_of old
work_more old last = ap (map frame_of) (reverse-append old (last ∷ []))

-- the first of the nodes, before those that follow it
pub front_is : {A : Type 0} (nodes : List (Node A)) (one : Node A) → 1 ≤ length nodes → one ≡ get_or nodes 0 one →
    asked_nodes nodes node.End ≡ asked_node one (asked_nodes (take (length nodes - 1) (drop 1 nodes)) node.End)
front_is [] one some is = absurd (omega arith)
front_is (first ∷ nodes) one some is =
    ap (λ n. asked_node n (asked_nodes nodes node.End)) (sym is)
    ∙ ap (λ n. asked_node one (asked_nodes n node.End)) (sym (take_whole nodes (length (first ∷ nodes) - 1) (omega arith)))

pub no_front : {A : Type 0} (frame : Frame A) → length frame.nodes.now < 1 → frame_of frame ≡ node.End
no_front frame few = go frame.again frame.nodes.now few
  where
    go : {A : Type 0} (again : Option ℕ) (nodes : List (Node A)) → length nodes < 1 → once_stood again (asked_nodes nodes node.End) ≡ node.End
    go None [] few = refl
    go (Some number) [] few = refl
    go again (first ∷ nodes) few = absurd (omega arith)

once_markup : (again : Option ℕ) (bytes : List ℕ) (rest : Nodes Asked) → once_stood again (node.Markup bytes rest) ≡ node.Markup bytes rest
once_markup None bytes rest = refl
once_markup (Some number) bytes rest = refl

once_slot : (again : Option ℕ) (slot : Asked) (rest : Nodes Asked) → once_stood again (node.Slot slot rest) ≡ node.Slot slot rest
once_slot None slot rest = refl
once_slot (Some number) slot rest = refl

once_fragment : (again : Option ℕ) (slot : Asked) (rest : Nodes Asked) → once_stood again (node.Fragment slot rest) ≡ node.Fragment slot rest
once_fragment None slot rest = refl
once_fragment (Some number) slot rest = refl

pub frame_markup : {A : Type 0} (frame : Frame A) (one : Node A) (text : Bor (List ℕ)) (position : Position) → 1 ≤ length frame.nodes.now →
    one ≡ get_or frame.nodes.now 0 one → one ≡ Markup text position →
    frame_of frame ≡ node.Markup text.now (asked_nodes (take (length frame.nodes.now - 1) (drop 1 frame.nodes.now)) node.End)
frame_markup {A} frame one text position some is markup =
    let rest : Nodes Asked = asked_nodes (take (length frame.nodes.now - 1) (drop 1 frame.nodes.now)) node.End in
    ap (once_stood frame.again) (front_is frame.nodes.now one some is ∙ ap (λ n. asked_node n rest) markup ∙ asked_markup A text position rest)
    ∙ once_markup frame.again text.now rest

pub frame_slot : {A : Type 0} (frame : Frame A) (one : Node A) (slot : asked.Asked) → 1 ≤ length frame.nodes.now →
    one ≡ get_or frame.nodes.now 0 one → one ≡ Slot slot →
    frame_of frame ≡ node.Slot (asked_of slot) (asked_nodes (take (length frame.nodes.now - 1) (drop 1 frame.nodes.now)) node.End)
frame_slot {A} frame one slot some is there =
    let rest : Nodes Asked = asked_nodes (take (length frame.nodes.now - 1) (drop 1 frame.nodes.now)) node.End in
    ap (once_stood frame.again) (front_is frame.nodes.now one some is ∙ ap (λ n. asked_node n rest) there ∙ asked_slot A slot rest)
    ∙ once_slot frame.again (asked_of slot) rest

pub frame_fragment : {A : Type 0} (frame : Frame A) (one : Node A) (slot : asked.Asked) → 1 ≤ length frame.nodes.now →
    one ≡ get_or frame.nodes.now 0 one → one ≡ Fragment slot →
    frame_of frame ≡ node.Fragment (asked_of slot) (asked_nodes (take (length frame.nodes.now - 1) (drop 1 frame.nodes.now)) node.End)
frame_fragment {A} frame one slot some is there =
    let rest : Nodes Asked = asked_nodes (take (length frame.nodes.now - 1) (drop 1 frame.nodes.now)) node.End in
    ap (once_stood frame.again) (front_is frame.nodes.now one some is ∙ ap (λ n. asked_node n rest) there ∙ asked_fragment A slot rest)
    ∙ once_fragment frame.again (asked_of slot) rest

pub begins_section : {A : Type 0} (nodes : List (Node A)) (one : Node A) (opening : code.Opening)
    (body otherwise : Vec (Node A) A) → 1 ≤ length nodes → one ≡ get_or nodes 0 one → one ≡ Section opening body otherwise →
    BeginsWith nodes opening (asked_nodes body.items node.End) (asked_nodes otherwise.items node.End) (take (length nodes - 1) (drop 1 nodes))
begins_section nodes one opening body otherwise some is there =
    let rest : Nodes Asked = asked_nodes (take (length nodes - 1) (drop 1 nodes)) node.End in
    front_is nodes one some is ∙ ap (λ n. asked_node n rest) there ∙ asked_section opening body otherwise rest

pub empty_of : {X : Type 0} (items : List X) → length items ≡ 0 → items ≡ []
empty_of [] none = refl
empty_of (first ∷ items) none = absurd (omega arith)

-- ---- sections

-- a section that stands leads into its body
pub led_within : (again : Option ℕ) (raw : Nodes Asked) (opening : Opening) (body otherwise rest : Nodes Asked) (standing new_standing : List Position)
    (old new : List (Nodes Asked)) → raw ≡ node.Section opening body otherwise rest → new_standing ≡ told_with opening.times standing opening.position →
    new ≡ body ∷ behind_body opening.times opening body rest ∷ old → Leads standing (once_stood again raw ∷ old) new_standing new
led_within None raw opening body otherwise rest standing new_standing old new is told more = λ nodes parts markup reached.
    subst (λ s. Reaches nodes s parts markup new) (sym told)
    (subst (λ w. Reaches nodes (told_with opening.times standing opening.position) parts markup w) (sym more)
    (within (subst (λ n. Reaches nodes standing parts markup (n ∷ old)) is reached)))
led_within (Some number) raw opening body otherwise rest standing new_standing old new is told more = λ nodes parts markup reached.
    subst (λ s. Reaches nodes s parts markup new) (sym told)
    (subst (λ w. Reaches nodes (told_with opening.times standing opening.position) parts markup w) (sym more)
    (within (subst (λ n. Reaches nodes standing parts markup (once_stood (Some number) n ∷ old)) is reached)))

told_written : (times : Times) (standing : List Position) (position : Position) → told_with (written_times times) standing position ≡ told_with times standing position
told_written Each standing position = refl
told_written Once standing position = refl
told_written If standing position = refl
told_written Whether standing position = refl
told_written times.Given standing position = refl
told_written times.Attributes standing position = refl

-- of a section that the code keeps, whose body may be repeated
pub led_again : {A : Type 0} (frame : Frame A) (opening : code.Opening) (number : ℕ) (body otherwise : Nodes Asked) (rest : List (Node A))
    (standing new_standing : List Position) (old new : List (Nodes Asked)) → BeginsWith frame.nodes.now opening body otherwise rest →
    written_times opening.times ≡ Each → new_standing ≡ told_with opening.times standing opening.position →
    new ≡ body ∷ once_stood (Some number) (asked_nodes frame.nodes.now node.End) ∷ old → Leads standing (frame_of frame ∷ old) new_standing new
led_again frame opening number body otherwise rest standing new_standing old new begins each told more =
    let made : Opening = written_opening (opening_of opening) in
    let after : Nodes Asked = asked_nodes rest node.End in
    led_within frame.again (asked_nodes frame.nodes.now node.End) made body otherwise after standing new_standing old new begins
    (told ∙ sym (told_written opening.times standing opening.position))
    (more ∙ ap (λ n. body ∷ n ∷ old)
    (ap (once_stood (Some number)) begins ∙ sym (ap (λ t. behind_body t made body after) each)))

-- and of one whose body stands once
pub led_once : {A : Type 0} (frame : Frame A) (opening : code.Opening) (body otherwise : Nodes Asked) (rest : List (Node A))
    (standing new_standing : List Position) (old new : List (Nodes Asked)) → BeginsWith frame.nodes.now opening body otherwise rest →
    ((made : Opening) (b r : Nodes Asked) → behind_body (written_times opening.times) made b r ≡ r) →
    new_standing ≡ told_with opening.times standing opening.position → new ≡ body ∷ asked_nodes rest node.End ∷ old →
    Leads standing (frame_of frame ∷ old) new_standing new
led_once frame opening body otherwise rest standing new_standing old new begins once told more =
    let made : Opening = written_opening (opening_of opening) in
    let after : Nodes Asked = asked_nodes rest node.End in
    led_within frame.again (asked_nodes frame.nodes.now node.End) made body otherwise after standing new_standing old new begins
    (told ∙ sym (told_written opening.times standing opening.position)) (more ∙ ap (λ n. body ∷ n ∷ old) (sym (once made body after)))

-- and one that does not, into its other nodes
pub led_out : (raw : Nodes Asked) (opening : Opening) (body otherwise rest : Nodes Asked) (standing : List Position) (old new : List (Nodes Asked)) →
    raw ≡ node.Section opening body otherwise rest → new ≡ otherwise ∷ rest ∷ old → Leads standing (once_stood None raw ∷ old) standing new
led_out raw opening body otherwise rest standing old new is more = λ nodes parts markup reached.
    subst (λ w. Reaches nodes standing parts markup w) (sym more) (left_out (subst (λ n. Reaches nodes standing parts markup (n ∷ old)) is reached))

-- or past it, where it stood
pub led_past : (number : ℕ) (raw : Nodes Asked) (opening : Opening) (body otherwise rest : Nodes Asked) (standing : List Position) (old new : List (Nodes Asked)) →
    raw ≡ node.Section opening body otherwise rest → new ≡ rest ∷ old → Leads standing (once_stood (Some number) raw ∷ old) standing new
led_past number raw opening body otherwise rest standing old new is more = λ nodes parts markup reached.
    subst (λ w. Reaches nodes standing parts markup w) (sym more)
    (past_end (left_out (subst (λ n. Reaches nodes standing parts markup (once_stood (Some number) n ∷ old)) is reached)))

-- ---- what was read so far

-- this is reached, by this way
pub record Traced (nodes : Nodes Asked) (way : Way) (standing : List Position) (work : List (Nodes Asked)) : Type 0 where
  pub parts : List Given
  pub markup : List ℕ
  pub reached : Reaches nodes standing parts markup work
  pub reads : ReadsParts way parts markup

pub traced_first : (nodes : Nodes Asked) → Traced nodes first_way [] (nodes ∷ [])
traced_first nodes = record { parts = []; markup = []; reached = at_first; reads = reads_first }

-- of what the code keeps, by its innermost nodes
pub traced_popped : {A : Type 0} (nodes : Nodes Asked) (way : Way) (standing : List Position) (old new : List (Frame A)) (frame : Frame A) (next : Nodes Asked) →
    old ≡ new ++ frame ∷ [] → frame_of frame ≡ next → Traced nodes way standing (work_of old) → Traced nodes way standing (next ∷ work_of new)
traced_popped nodes way standing old new frame next is here traced =
    subst (λ w. Traced nodes way standing w) (ap work_of is ∙ work_more new frame ∙ ap (λ n. n ∷ work_of new) here) traced

pub traced_end : (nodes : Nodes Asked) (way : Way) (standing : List Position) (work : List (Nodes Asked)) → Traced nodes way standing (node.End ∷ work) →
    Traced nodes way standing work
traced_end nodes way standing work traced = record { parts = traced.parts; markup = traced.markup; reached = past_end traced.reached; reads = traced.reads }

pub traced_fragment : (nodes : Nodes Asked) (way : Way) (standing : List Position) (slot : Asked) (rest : Nodes Asked) (work : List (Nodes Asked)) →
    Traced nodes way standing (node.Fragment slot rest ∷ work) → Traced nodes way standing (rest ∷ work)
traced_fragment nodes way standing slot rest work traced =
    record { parts = traced.parts; markup = traced.markup; reached = past_fragment traced.reached; reads = traced.reads }

pub traced_led : (nodes : Nodes Asked) (way : Way) (standing new_standing : List Position) (old new : List (Nodes Asked)) → Leads standing old new_standing new →
    Traced nodes way standing old → Traced nodes way new_standing new
traced_led nodes way standing new_standing old new leads traced = record {
  parts = traced.parts;
  markup = traced.markup;
  reached = leads nodes traced.parts traced.markup traced.reached;
  reads = traced.reads;
}

pub traced_markup : (nodes : Nodes Asked) (way next : Way) (standing : List Position) (bytes : List ℕ) (rest : Nodes Asked) (work : List (Nodes Asked)) →
    Traced nodes way standing (node.Markup bytes rest ∷ work) → way_behind (turned way bytes) bytes ≡ Ok next → Traced nodes next standing (rest ∷ work)
traced_markup nodes way next standing bytes rest work traced goes = record {
  parts = traced.parts;
  markup = traced.markup ++ bytes;
  reached = past_markup traced.reached;
  reads = reads_more way next traced.parts traced.markup bytes traced.reads goes;
}

pub traced_slot : (nodes : Nodes Asked) (way next : Way) (slot : PlacedSlot) (standing : List Position) (asked : Asked) (rest : Nodes Asked)
    (work : List (Nodes Asked)) → Traced nodes way standing (node.Slot asked rest ∷ work) → MovedPast [] way next slot →
    Traced nodes next standing (rest ∷ work)
traced_slot nodes way next slot standing asked rest work traced moves = record {
  parts = traced.parts ++ GivenMarkup traced.markup ∷ GivenSlot ∷ [];
  markup = [];
  reached = past_slot traced.reached;
  reads = subst (λ w. ReadsParts w (traced.parts ++ GivenMarkup traced.markup ∷ GivenSlot ∷ []) [])
      (sym (moves.past ∙ ap (after way) (moves.is ∙ before_nothing moves.found)))
      (reads_past way moves.found traced.parts traced.markup traced.reads moves.stands);
}

-- ---- faults

pub shown_markup : (nodes : Nodes Asked) (way : Way) (standing : List Position) (bytes : List ℕ) (rest : Nodes Asked) (work : List (Nodes Asked))
    (position : Position) (why : PartFault) → Traced nodes way standing (node.Markup bytes rest ∷ work) → way_behind (turned way bytes) bytes ≡ Err why →
    RefusedWith nodes standing position why
shown_markup nodes way standing bytes rest work position why traced told = record {
  parts = traced.parts;
  markup = traced.markup;
  next = node.Markup bytes rest;
  work = work;
  reached = traced.reached;
  refused = markup_shown way traced.parts traced.markup bytes why traced.reads told;
}

pub shown_slot : (nodes : Nodes Asked) (way : Way) (standing : List Position) (asked : Asked) (rest : Nodes Asked) (work : List (Nodes Asked))
    (position : Position) (why : PartFault) → position ≡ asked.position → Traced nodes way standing (node.Slot asked rest ∷ work) → way_slot way ≡ Err why →
    RefusedWith nodes standing position why
shown_slot nodes way standing asked rest work position why here traced told = record {
  parts = traced.parts;
  markup = traced.markup;
  next = node.Slot asked rest;
  work = work;
  reached = traced.reached;
  refused = (here, slot_shown way traced.parts traced.markup why traced.reads told);
}

pub shown_end : (nodes : Nodes Asked) (way : Way) (standing : List Position) → Traced nodes way standing [] → EndsWithin way → UnfinishedWith nodes standing
shown_end nodes way standing traced ends = record {
  parts = traced.parts;
  markup = traced.markup;
  reached = traced.reached;
  unfinished = end_shown way traced.parts traced.markup ends.url traced.reads ends.read ends.may_not ends.told;
}
