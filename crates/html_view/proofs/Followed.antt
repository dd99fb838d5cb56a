-- Following nodes, one behind another, and through a section.
use Rattle.std.proofs.Common.{Bor, Vec, rules, ℕ, zero, suc, ◌≡◌, ◌≢◌, ◌<◌, ◌≤◌, List, [], ◌∷◌, ◌++◌, get_or, length, take, refl, sym, ap, ◌∙◌, subst, arith}
use Rattle.std.specs.Prelude.{Result, Ok, Err, OnOk}
use Rattle.html_view.specs.Following.{Adds, Follows, FollowsBody}
use Rattle.html_view.specs.Kept.{Before, asked_node, asked_nodes, asked_of, behind, named_of, opened_of, opening_of, placed_node, placed_nodes, slot_of}
use Rattle.html_view.specs.Names.{words_of}
use Rattle.html_view.specs.Nodes as node
use Rattle.html_view.specs.Nodes.{Nodes, written, written_opening, written_times}
use Rattle.html_view.specs.Takes.{Among, AreAmong, GoesOn, GoesPast, LeadsBack, Takes}
use Rattle.html_view.specs.Ways.{Way, first_way}
use Rattle.html_view.specs.declared.faults.Position.{Position}
use Rattle.html_view.specs.declared.node.Asked.{Asked}
use Rattle.html_template.specs.declared.stored.StoredMarkup.{StoredMarkup}
use Rattle.html_view.specs.declared.node.Node as asked
use Rattle.html_view.specs.declared.node.Node.{Node}
use Rattle.html_view.specs.declared.node.Opening.{Opening}
use Rattle.html_view.specs.declared.placed.Named.{Named}
use Rattle.html_view.specs.declared.placed.Opened.{Opened}
use Rattle.html_view.specs.declared.placed.Placed.{Placed}
use Rattle.html_view.specs.declared.placed.PlacedNode as placed
use Rattle.html_view.specs.declared.placed.PlacedNode.{PlacedNode}
use Rattle.html_view.specs.declared.node.Times.{Times}
use Rattle.html_view.specs.declared.node.Times.TheVariants.{Attributes, Each, Given, If, Once, Whether}

-- what follows from a clause of a success
pub when_ok : {T E P Q : Type 0} (result : Result T E) → (P → Q) → OnOk result P → OnOk result Q
when_ok (Ok done) then met = then met
when_ok (Err fault) then met = tt

-- nothing is followed yet
pub followed_none : (ways here : List Way) → here ≡ ways → Follows (λ rest. rest) (λ rest. rest) ways here
followed_none ways here same = record {
  same = λ rest. refl;
  takes = λ rest others takes. subst (λ w. Takes w rest others) same takes;
}

-- the same, of what is told the same
pub followed_same : (asked told : Before node.Asked) (placed made : Before node.Placed) (ways next : List Way) →
    ((rest : Nodes node.Asked) → told rest ≡ asked rest) → ((rest : Nodes node.Placed) → made rest ≡ placed rest) →
    Follows asked placed ways next → Follows told made ways next
followed_same asked told placed made ways next same again follows = record {
  same = λ rest. ap written (again rest) ∙ follows.same rest ∙ sym (same (written rest));
  takes = λ rest others takes. subst (λ n. Takes ways n others) (sym (again rest)) (follows.takes rest others takes);
}

-- ---- nodes, one behind another

pub behind_more : {S : Type 0} (first : List (Before S)) (last : Before S) (rest : Nodes S) → behind (first ++ last ∷ []) rest ≡ behind first (last rest)
behind_more [] last rest = refl
behind_more (one ∷ first) last rest = ap one (behind_more first last rest)

placed_more : {A : Type 0} (nodes : List (PlacedNode A)) (last : PlacedNode A) (rest : Nodes node.Placed) →
    placed_nodes (nodes ++ last ∷ []) rest ≡ placed_nodes nodes (placed_node last rest)
placed_more [] last rest = refl
placed_more (first ∷ nodes) last rest = ap (placed_node first) (placed_more nodes last rest)

pub asked_more : {A : Type 0} (nodes : List (Node A)) (i : ℕ) (next : Node A) (rest : Nodes node.Asked) → i < length nodes →
    next ≡ get_or nodes i next → asked_nodes (take (suc i) nodes) rest ≡ asked_nodes (take i nodes) (asked_node next rest)
asked_more [] i next rest below is = absurd (omega arith)
asked_more (first ∷ nodes) zero next rest below is = ap (λ (n : Node _). asked_node n rest) (sym is)
asked_more (first ∷ nodes) (suc i) next rest below is = ap (asked_node first) (asked_more nodes i next rest (omega arith) is)

pub followed_start : {A : Type 0} (nodes : List (Node A)) (placed : List (PlacedNode A)) (ways here : List Way) → placed ≡ [] → here ≡ ways →
    Follows (asked_nodes (take 0 nodes)) (placed_nodes placed) ways here
followed_start {A} [] placed ways here none same =
    subst (λ p. Follows (asked_nodes {A = A} []) (placed_nodes p) ways here) (sym none) (followed_none ways here same)
followed_start {A} (first ∷ nodes) placed ways here none same =
    subst (λ p. Follows (asked_nodes {A = A} []) (placed_nodes p) ways here) (sym none) (followed_none ways here same)

-- a node that is placed behind others
pub added : {A : Type 0} (old new : List (PlacedNode A)) (made : PlacedNode A) → new ≡ old ++ made ∷ [] → (asked : Before node.Asked) (ways next : List Way) →
    Follows asked (placed_node made) ways next → Adds asked (placed_nodes old) (placed_nodes new) ways next
added old new made pushed asked ways next after front first before =
    subst (λ n. Follows (λ rest. front (asked rest)) (placed_nodes n) first next) (sym pushed)
    (record {
      same = λ rest. ap written (placed_more old made rest) ∙ before.same (placed_node made rest) ∙ ap front (after.same rest);
      takes = λ rest others takes.
          subst (λ n. Takes first n others) (sym (placed_more old made rest)) (before.takes (placed_node made rest) others (after.takes rest others takes));
    })

-- the same, of a node that is told the same
pub added_same : (asked told : Before node.Asked) (old new : Before node.Placed) (ways next : List Way) →
    ((rest : Nodes node.Asked) → told rest ≡ asked rest) → Adds asked old new ways next → Adds told old new ways next
added_same asked told old new ways next same adds front first before =
    followed_same (λ rest. front (asked rest)) (λ rest. front (told rest)) new new first next (λ rest. ap front (same rest)) (λ rest. refl)
    (adds front first before)

pub followed_more : {A : Type 0} (nodes all : List (Node A)) (i j : ℕ) (one : Node A) (old new : List (PlacedNode A)) (ways here next : List Way) →
    nodes ≡ all → j ≡ suc i → i < length nodes → one ≡ get_or nodes i one → Adds (asked_node one) (placed_nodes old) (placed_nodes new) here next →
    Follows (asked_nodes (take i all)) (placed_nodes old) ways here → Follows (asked_nodes (take j all)) (placed_nodes new) ways next
followed_more nodes all i j one old new ways here next whole more below is adds before =
    subst (λ k. Follows (asked_nodes (take k all)) (placed_nodes new) ways next) (sym more)
    (subst (λ n. Follows (asked_nodes (take (suc i) n)) (placed_nodes new) ways next) whole
    (followed_same (λ rest. asked_nodes (take i nodes) (asked_node one rest)) (asked_nodes (take (suc i) nodes)) (placed_nodes new) (placed_nodes new) ways next
    (λ rest. asked_more nodes i one rest below is) (λ rest. refl)
    (adds (asked_nodes (take i nodes)) ways (subst (λ n. Follows (asked_nodes (take i n)) (placed_nodes old) ways here) (sym whole) before))))

pub take_whole : {A : Type 0} (nodes : List (Node A)) (i : ℕ) → length nodes ≤ i → take i nodes ≡ nodes
take_whole [] zero long = refl
take_whole [] (suc i) long = refl
take_whole (first ∷ nodes) zero long = absurd (omega arith)
take_whole (first ∷ nodes) (suc i) long = ap (λ n. first ∷ n) (take_whole nodes i (omega arith))

pub followed_all : {A : Type 0} (nodes : List (Node A)) (i : ℕ) (placed : List (PlacedNode A)) (ways here : List Way) → length nodes ≤ i →
    Follows (asked_nodes (take i nodes)) (placed_nodes placed) ways here → Follows (asked_nodes nodes) (placed_nodes placed) ways here
followed_all nodes i placed ways here long follows =
    subst (λ n. Follows (asked_nodes n) (placed_nodes placed) ways here) (take_whole nodes i long) follows

-- ---- one node

pub asked_markup : (A : Type 0) (text : Bor (List ℕ)) (p : Position) (rest : Nodes node.Asked) →
    asked_node {A = A} (asked.Markup text p) rest ≡ node.Markup text.now rest
asked_markup A text p rest = search (rules, asked.the_lemmas)

pub placed_markup : (A : Type 0) (markup : StoredMarkup) (rest : Nodes node.Placed) →
    placed_node {A = A} (placed.Markup markup) rest ≡ node.Markup markup.text.now rest
placed_markup A markup rest = search (rules, placed.the_lemmas)

pub asked_slot : (A : Type 0) (slot : Asked) (rest : Nodes node.Asked) → asked_node {A = A} (asked.Slot slot) rest ≡ node.Slot (asked_of slot) rest
asked_slot A slot rest = search (rules, asked.the_lemmas)

pub placed_slot : {A : Type 0} (slot : Placed A) (rest : Nodes node.Placed) → placed_node (placed.Slot slot) rest ≡ node.Slot (slot_of slot) rest
placed_slot slot rest = search (rules, placed.the_lemmas)

pub asked_fragment : (A : Type 0) (slot : Asked) (rest : Nodes node.Asked) →
    asked_node {A = A} (asked.Fragment slot) rest ≡ node.Fragment (asked_of slot) rest
asked_fragment A slot rest = search (rules, asked.the_lemmas)

pub placed_fragment : {A : Type 0} (slot : Named A) (rest : Nodes node.Placed) →
    placed_node (placed.Fragment slot) rest ≡ node.Fragment (named_of slot) rest
placed_fragment slot rest = search (rules, placed.the_lemmas)

pub markup_followed : (A : Type 0) (text : Bor (List ℕ)) (markup : StoredMarkup) (ways next : List Way) → markup.text.now ≡ text.now →
    ((way : Way) → Among way ways → GoesOn way text.now next) → Follows (node.Markup text.now) (placed_node {A = A} (placed.Markup markup)) ways next
markup_followed A text markup ways next is goes =
    followed_same (node.Markup text.now) (node.Markup text.now) (node.Markup text.now) _ ways next (λ rest. refl)
    (λ rest. placed_markup A markup rest ∙ ap (λ bytes. node.Markup bytes rest) is)
    (record { same = λ rest. refl; takes = λ rest others takes. (next, goes, takes) })

pub slot_followed : {A : Type 0} (slot : Asked) (made : Placed A) (ways next : List Way) → named_of made.asked ≡ asked_of slot →
    ((way : Way) → Among way ways → GoesPast way (slot_of made) next) →
    Follows (node.Slot (asked_of slot)) (placed_node (placed.Slot made)) ways next
slot_followed slot made ways next is goes =
    followed_same (node.Slot (asked_of slot)) (node.Slot (asked_of slot)) (node.Slot (slot_of made)) _ ways next (λ rest. refl) (placed_slot made)
    (record { same = λ rest. ap (λ a. node.Slot a (written rest)) is; takes = λ rest others takes. (next, goes, takes) })

pub fragment_followed : {A : Type 0} (slot : Asked) (made : Named A) (ways : List Way) → named_of made ≡ asked_of slot →
    ((way : Way) → Among way ways → way ≡ first_way) →
    Follows (node.Fragment (asked_of slot)) (placed_node (placed.Fragment made)) ways ways
fragment_followed slot made ways is first =
    followed_same (node.Fragment (asked_of slot)) (node.Fragment (asked_of slot)) (node.Fragment (named_of made)) _ ways ways (λ rest. refl)
    (placed_fragment made)
    (record {
      same = λ rest. ap (λ a. node.Fragment a (written rest)) is;
      takes = λ rest others takes. (ways, λ way among. (first way among, among), takes);
    })

-- ---- a section

-- the same ways, with more of them behind a body
pub all_among : (ways : List Way) → AreAmong ways ways
all_among ways way among = among

-- nodes that end lead among the ways behind them
pub ended : (asked : Before node.Asked) (placed : Before node.Placed) (ways next others : List Way) → Follows asked placed ways next → AreAmong next others →
    Takes ways (placed node.End) others
ended asked placed ways next others follows among = follows.takes node.End others among

-- a section, of its body and of what stands where that does not
pub followed_section : (opening made : node.Opening) (body otherwise : Before node.Asked) (placed other : Before node.Placed) (ways out away next : List Way) →
    written_opening made ≡ written_opening opening → FollowsBody body placed made.times ways out → Follows otherwise other ways away → AreAmong out next → AreAmong away next →
    Follows (λ rest. node.Section (written_opening opening) (body node.End) (otherwise node.End) rest)
    (λ rest. node.Section made (placed node.End) (other node.End) rest) ways next
followed_section opening made body otherwise placed other ways out away next is passes follows out_next away_next = record {
  same = λ rest.
      ap (λ o. node.Section o (written (placed node.End)) (written (other node.End)) (written rest)) is
      ∙ ap (λ b. node.Section (written_opening opening) b (written (other node.End)) (written rest)) (passes.body.same node.End)
      ∙ ap (λ b. node.Section (written_opening opening) (body node.End) b (written rest)) (follows.same node.End);
  takes = λ rest others takes. (
    passes.head,
    out,
    next,
    passes.begins,
    ended body placed passes.head out out passes.body (all_among out),
    passes.back,
    out_next,
    ended otherwise other ways away next follows away_next,
    takes,
  );
}

pub asked_section : {A : Type 0} (opening : Opening) (body otherwise : Vec (Node A) A) (rest : Nodes node.Asked) →
    asked_node (asked.Section opening body otherwise) rest
    ≡ node.Section (written_opening (opening_of opening)) (asked_nodes body.items node.End) (asked_nodes otherwise.items node.End) rest
asked_section opening body otherwise rest = search (rules, asked.the_lemmas)

pub placed_section : {A : Type 0} (opened : Opened A) (body otherwise : Vec (PlacedNode A) A) (rest : Nodes node.Placed) →
    placed_node (placed.Section opened body otherwise) rest
    ≡ node.Section (opened_of opened) (placed_nodes body.items node.End) (placed_nodes otherwise.items node.End) rest
placed_section opened body otherwise rest = search (rules, placed.the_lemmas)

times_written : {A : Type 0} (opening : Opening) (made : Opened A) → named_of made.tag ≡ record { name = words_of opening.name.now; position = opening.position } →
    written_times made.times ≡ written_times opening.times → written_opening (opened_of made) ≡ written_opening (opening_of opening)
times_written opening made tag times =
    ap (λ (t : node.Asked). record { name = t.name; position = t.position; times = written_times made.times }) tag
    ∙ ap (λ t. record { name = words_of opening.name.now; position = opening.position; times = t }) times

pub section_followed : {A : Type 0} (opening : Opening) (made : Opened A) (body otherwise : Before node.Asked) (inner other : Vec (PlacedNode A) A)
    (ways out away next : List Way) → named_of made.tag ≡ record { name = words_of opening.name.now; position = opening.position } →
    written_times made.times ≡ written_times opening.times → FollowsBody body (placed_nodes inner.items) made.times ways out →
    Follows otherwise (placed_nodes other.items) ways away → AreAmong out next → AreAmong away next →
    Follows (λ rest. node.Section (written_opening (opening_of opening)) (body node.End) (otherwise node.End) rest)
    (placed_node (placed.Section made inner other)) ways next
section_followed opening made body otherwise inner other ways out away next tag times passes follows out_next away_next =
    followed_same _ _ _ _ ways next (λ rest. refl) (placed_section made inner other)
    (followed_section (opening_of opening) (opened_of made) body otherwise (placed_nodes inner.items)
    (placed_nodes other.items) ways out away next (times_written opening made tag times) passes follows out_next away_next)

-- ---- bodies

-- from fewer ways on
pub body_wider : (asked : Before node.Asked) (placed : Before node.Placed) (times : Times) (ways head out : List Way) → AreAmong ways head →
    FollowsBody asked placed times head out → FollowsBody asked placed times ways out
body_wider asked placed times ways head out are passes = record {
  head = passes.head;
  begins = λ way among. passes.begins way (are way among);
  body = passes.body;
  back = passes.back;
}

leads_once : (times : Times) (out head : List Way) → times ≢ Each → LeadsBack times out head
leads_once Each out head not_each = absurd (not_each refl)
leads_once Once out head not_each = tt
leads_once If out head not_each = tt
leads_once Whether out head not_each = tt
leads_once Given out head not_each = tt
leads_once Attributes out head not_each = tt

-- a body that stands once
pub body_once : (asked : Before node.Asked) (placed : Before node.Placed) (times : Times) (ways here out : List Way) → times ≢ Each → here ≡ ways →
    Follows asked placed here out → FollowsBody asked placed times ways out
body_once asked placed times ways here out not_each same follows = record {
  head = here;
  begins = subst (λ w. AreAmong ways w) (sym same) (all_among ways);
  body = follows;
  back = leads_once times out here not_each;
}

-- a body that leads back to where it begins
pub body_back : (asked : Before node.Asked) (placed : Before node.Placed) (times : Times) (ways out : List Way) → AreAmong out ways →
    FollowsBody asked placed times ways out → FollowsBody asked placed Each ways out
body_back asked placed times ways out back passes = record {
  head = passes.head;
  begins = passes.begins;
  body = passes.body;
  back = λ way among. passes.begins way (back way among);
}
