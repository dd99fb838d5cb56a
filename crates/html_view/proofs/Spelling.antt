-- Spelling nodes out, one behind another; and of the nodes of a view nothing is left to be spelled out.
use Rattle.std.proofs.Common.{Bor, Vec, ℕ, suc, ◌≡◌, ◌≢◌, ◌<◌, ◌≤◌, true, false, List, [], ◌∷◌, ◌++◌, get_or, length, take, IfOk, Result, Ok, Err, refl, sym, ap, ◌∙◌, subst, inl, ⊎_elim}
use Rattle.std.proofs.lemmas.Bool.{cases_Bool}
use Rattle.html_template.specs.OpenUrls.{before, url_markup}
use Rattle.html_template.specs.TemplateFaults.{slot_at}
use Rattle.html_template.specs.declared.faults.PartFault.{PartFault}
use Rattle.html_template.specs.declared.faults.PartFault.TheVariants as fault
use Rattle.html_template.specs.declared.open_url.OpenUrl.{OpenUrl}
use Rattle.html_template.specs.declared.open_url.OpenUrl.TheVariants.{Outside, Within, Listed, Whole, Front, Declaration}
use Rattle.html_template.specs.declared.open_url.PlacedSlot.{PlacedSlot}
use Rattle.html_template.proofs.Walks.{same_after_slot}
use Rattle.html_tokenizer.specs.declared.elements.Content.{Content}
use Rattle.html_tokenizer.specs.declared.reader.Standing.{Standing}
use Rattle.html_tokenizer.specs.declared.reader.Standing.TheVariants.{Barred, InDeclaration, InJson, InLink, InListedUrl, InScript, InUrl, Nowhere, Stands}
use Rattle.html_tokenizer.specs.Standing.{AfterStanding, is_between_attributes, is_refused, standing, standing_in}
use Rattle.html_tokenizer.specs.Tokenizer.States as state
use Rattle.html_tokenizer.specs.Tokenizer.States.{Attribute, State, Tokenizer}
use Rattle.html_tokenizer.specs.Tokenizer.Tokenization.{state_after}
use Rattle.html_tokenizer.specs.UrlValues.{is_of_urls}
use Rattle.html_view.specs.Attributes.{attributes, opened_at}
use Rattle.html_view.specs.Following.{Follows}
use Rattle.html_view.specs.Kept.{Before, asked_node, asked_nodes, asked_of, opening_of}
use Rattle.html_view.specs.Names.{words_of}
use Rattle.html_view.specs.Nodes as node
use Rattle.html_view.specs.Nodes.{Nodes, written, written_opening}
use Rattle.html_view.specs.Spelled.{Spells, behind, past_slot, past_standing, spelled, spelled_from}
use Rattle.html_view.specs.Takes.{Among, GoesOn, GoesPast, Takes}
use Rattle.html_view.specs.Ways as spec
use Rattle.html_view.specs.Ways.{Way, first_way, let_go, on_ok, settled, slot_in, way_behind, way_slot}
use Rattle.html_view.specs.declared.faults.Position.{Position}
use Rattle.html_view.specs.declared.node.Asked.{Asked}
use Rattle.html_view.specs.declared.node.Node.{Fragment, Markup, Node, Section, Slot}
use Rattle.html_view.specs.declared.node.Opening.{Opening}
use Rattle.html_view.specs.declared.node.Times.TheVariants.{Once}
use Rattle.html_view.proofs.Followed.{all_among, asked_fragment, asked_markup, asked_more, asked_section, asked_slot, take_whole}
use Rattle.html_view.proofs.SourceReads.{asked_pushed, written_same}

pub if_ok : {T E : Type 0} (result : Result T E) (P Q : T → Type 0) → IfOk result P → ((made : T) → P made → Q made) → IfOk result Q
if_ok (Ok made) P Q told go_on = go_on made told
if_ok (Err fault) P Q told go_on = tt

-- ---- where a slot stands between attributes

nowhere_in : (s : State) (content : Content) (attribute : Attribute) → is_between_attributes s ≡ true → standing_in s content attribute ≡ Nowhere
nowhere_in state.BeforeName content attribute is = refl
nowhere_in (state.AfterName name) content attribute is = refl
nowhere_in state.AfterValue content attribute is = refl
nowhere_in other content attribute is = absurd (cc)

-- a slot there leaves the tokenizer where it is
stays_between : (t : Tokenizer) → is_between_attributes t.state ≡ true → past_slot t ≡ t
stays_between t is = ap (λ s. past_standing s t) (nowhere_in t.state t.content t.attribute is)

-- ---- nodes, one behind another

pub spells_start : {A : Type 0} (nodes made : List (Node A)) (t u : Tokenizer) → made ≡ [] → u ≡ t →
    Spells (asked_nodes (take 0 nodes)) (asked_nodes made) t u
spells_start {A} [] made t u none same = record {
  same = λ rest. ap (λ v. spelled_from v rest) (sym same) ∙ ap (λ m. asked_nodes {A = A} m (spelled_from u rest)) (sym none);
  goes = λ rest. ap (λ v. behind v rest) (sym same);
}
spells_start {A} (first ∷ nodes) made t u none same = record {
  same = λ rest. ap (λ v. spelled_from v rest) (sym same) ∙ ap (λ m. asked_nodes {A = A} m (spelled_from u rest)) (sym none);
  goes = λ rest. ap (λ v. behind v rest) (sym same);
}

pub spells_more : {A : Type 0} (nodes all : List (Node A)) (i j : ℕ) (one : Node A) (old new : List (Node A)) (made : Node A)
    (t u v : Tokenizer) → nodes ≡ all → j ≡ suc i → i < length nodes → one ≡ get_or nodes i one → new ≡ old ++ made ∷ [] →
    Spells (asked_nodes (take i all)) (asked_nodes old) t u → Spells (asked_node one) (asked_node made) u v →
    Spells (asked_nodes (take j all)) (asked_nodes new) t v
spells_more nodes all i j one old new made t u v whole more below is pushed before after =
    subst (λ k. Spells (asked_nodes (take k all)) (asked_nodes new) t v) (sym more)
    (subst (λ n. Spells (asked_nodes (take (suc i) n)) (asked_nodes new) t v) whole
    (subst (λ n. Spells (asked_nodes (take (suc i) nodes)) (asked_nodes n) t v) (sym pushed)
    (let first : Spells (asked_nodes (take i nodes)) (asked_nodes old) t u =
    subst (λ n. Spells (asked_nodes (take i n)) (asked_nodes old) t u) (sym whole) before in
    record {
      same = λ rest.
          ap (spelled_from t) (asked_more nodes i one rest below is)
          ∙ first.same (asked_node one rest)
          ∙ ap (asked_nodes old) (after.same rest)
          ∙ sym (asked_pushed old (old ++ made ∷ []) made (spelled_from v rest) refl);
      goes = λ rest.
          ap (behind t) (asked_more nodes i one rest below is)
          ∙ first.goes (asked_node one rest)
          ∙ after.goes rest;
    })))

pub spells_all : {A : Type 0} (nodes : List (Node A)) (i : ℕ) (made : List (Node A)) (t u : Tokenizer) → length nodes ≤ i →
    Spells (asked_nodes (take i nodes)) (asked_nodes made) t u → Spells (asked_nodes nodes) (asked_nodes made) t u
spells_all nodes i made t u long spells =
    subst (λ n. Spells (asked_nodes n) (asked_nodes made) t u) (take_whole nodes i long) spells

-- ---- one node

pub spells_markup : {A : Type 0} (one : Node A) (text : Bor (List ℕ)) (p q : Position) (t u : Tokenizer) → one ≡ Markup text p → u ≡ state_after t text.now →
    Spells (asked_node one) (asked_node {A = A} (Markup text q)) t u
spells_markup {A} one text p q t u is goes =
    subst (λ (n : Node A). Spells (asked_node n) (asked_node {A = A} (Markup text q)) t u) (sym is)
    (record {
      same = λ rest.
          ap (spelled_from t) (asked_markup A text p rest)
          ∙ ap (λ w. node.Markup text.now (spelled_from w rest)) (sym goes)
          ∙ sym (asked_markup A text q (spelled_from u rest));
      goes = λ rest. ap (behind t) (asked_markup A text p rest) ∙ ap (λ w. behind w rest) (sym goes);
    })

pub spells_slot : {A : Type 0} (one : Node A) (slot : Asked) (t u : Tokenizer) → one ≡ Slot slot → is_between_attributes t.state ≡ false → u ≡ past_slot t →
    Spells (asked_node one) (asked_node {A = A} (Slot slot)) t u
spells_slot {A} one slot t u is outside goes =
    subst (λ (n : Node A). Spells (asked_node n) (asked_node {A = A} (Slot slot)) t u) (sym is)
    (record {
      same = λ rest.
          ap (spelled_from t) (asked_slot A slot rest)
          ∙ rw outside (ap (λ w. node.Slot (asked_of slot) (spelled_from w rest)) (sym goes)
          ∙ sym (asked_slot A slot (spelled_from u rest)));
      goes = λ rest. ap (behind t) (asked_slot A slot rest) ∙ ap (λ w. behind w rest) (sym goes);
    })

pub spells_fragment : {A : Type 0} (one : Node A) (slot : Asked) (t : Tokenizer) → one ≡ Fragment slot →
    Spells (asked_node one) (asked_node {A = A} (Fragment slot)) t t
spells_fragment {A} one slot t is =
    subst (λ (n : Node A). Spells (asked_node n) (asked_node {A = A} (Fragment slot)) t t) (sym is)
    (record {
      same = λ rest. ap (spelled_from t) (asked_fragment A slot rest) ∙ sym (asked_fragment A slot (spelled_from t rest));
      goes = λ rest. ap (behind t) (asked_fragment A slot rest);
    })

pub spells_attributes : {A : Type 0} (one made : Node A) (slot : Asked) (t : Tokenizer) → one ≡ Slot slot → is_between_attributes t.state ≡ true →
    ((rest : Nodes node.Asked) → asked_node made rest ≡ attributes (asked_of slot) rest) → Spells (asked_node one) (asked_node made) t t
spells_attributes {A} one made slot t is between written_so =
    let stays = stays_between t between in
    subst (λ (n : Node A). Spells (asked_node n) (asked_node made) t t) (sym is)
    (record {
      same = λ rest.
          ap (spelled_from t) (asked_slot A slot rest)
          ∙ rw between (ap (λ w. attributes (asked_of slot) (spelled_from w rest)) stays ∙ sym (written_so (spelled_from t rest)));
      goes = λ rest. ap (behind t) (asked_slot A slot rest) ∙ ap (λ w. behind w rest) stays;
    })

pub spells_section : {A : Type 0} (one : Node A) (opening : Opening) (body otherwise made other : Vec (Node A) A) (t u v : Tokenizer) →
    one ≡ Section opening body otherwise → Spells (asked_nodes body.items) (asked_nodes made.items) t u →
    Spells (asked_nodes otherwise.items) (asked_nodes other.items) t v → Spells (asked_node one) (asked_node (Section opening made other)) t u
spells_section {A} one opening body otherwise made other t u v is passes others =
    subst (λ (n : Node A). Spells (asked_node n) (asked_node (Section opening made other)) t u) (sym is)
    (record {
      same = λ rest.
          let o = written_opening (opening_of opening) in
          ap (spelled_from t) (asked_section opening body otherwise rest)
          ∙ ap (λ b. node.Section o b (spelled_from t (asked_nodes otherwise.items node.End)) (spelled_from (behind t (asked_nodes body.items node.End)) rest)) (passes.same node.End)
          ∙ ap (λ b. node.Section o (asked_nodes made.items node.End) b (spelled_from (behind t (asked_nodes body.items node.End)) rest)) (others.same node.End)
          ∙ ap (λ w. node.Section o (asked_nodes made.items node.End) (asked_nodes other.items node.End) (spelled_from w rest)) (passes.goes node.End)
          ∙ sym (asked_section opening made other (spelled_from u rest));
      goes = λ rest. ap (behind t) (asked_section opening body otherwise rest) ∙ ap (λ w. behind w rest) (passes.goes node.End);
    })

-- the section of an attribute, or of all
pub section_written : {A : Type 0} (opening : Opening) (body none : Vec (Node A) A) (inner rest : Nodes node.Asked) → opening.times ≢ Once →
    none.items ≡ [] → asked_nodes body.items node.End ≡ inner →
    asked_node (Section opening body none) rest ≡ node.Section (opened_at (words_of opening.name.now) opening.position opening.times) inner node.End rest
section_written opening body none inner rest other empty is =
    let name = words_of opening.name.now in
    asked_section opening body none rest
    ∙ ap (λ t. node.Section (opened_at name opening.position t) (asked_nodes body.items node.End) (asked_nodes none.items node.End) rest) (written_same opening.times other)
    ∙ ap (λ n. node.Section (opened_at name opening.position opening.times) n (asked_nodes none.items node.End) rest) is
    ∙ ap (λ (n : List (Node _)). node.Section (opened_at name opening.position opening.times) inner (asked_nodes n node.End) rest) empty

-- ---- where each way leads through nodes, none of them is left to be spelled out

same_settled : (way next : Way) (found : Result OpenUrl PartFault) → on_ok found (λ url. Ok (let_go way url)) ≡ Ok next → next.tokenizer ≡ way.tokenizer
same_settled way next (Err why) told = absurd (cc)
same_settled way next (Ok Outside) told = let here : let_go way Outside ≡ next = cc in ap (λ (w : Way). w.tokenizer) (sym here)
same_settled way next (Ok (Within p open_part)) told = let here : way ≡ next = cc in ap (λ (w : Way). w.tokenizer) (sym here)
same_settled way next (Ok (Listed p open_part)) told = let here : way ≡ next = cc in ap (λ (w : Way). w.tokenizer) (sym here)
same_settled way next (Ok (Whole p)) told = let here : way ≡ next = cc in ap (λ (w : Way). w.tokenizer) (sym here)
same_settled way next (Ok (Front p behind)) told = let here : way ≡ next = cc in ap (λ (w : Way). w.tokenizer) (sym here)
same_settled way next (Ok (Declaration p)) told = let here : way ≡ next = cc in ap (λ (w : Way). w.tokenizer) (sym here)

settled_state : (way next : Way) → settled way ≡ Ok next → next.tokenizer ≡ way.tokenizer
settled_state way next told =
    ⊎_elim
    (λ (in_url : is_of_urls way.tokenizer.attribute ≡ true).
    let same : Ok way ≡ Ok next = rw in_url at told in
    let here : way ≡ next = cc in ap (λ (w : Way). w.tokenizer) (sym here))
    (λ (outside : is_of_urls way.tokenizer.attribute ≡ false). same_settled way next (url_markup way.url way.markup) (rw outside at told))
    (cases_Bool (is_of_urls way.tokenizer.attribute))

markup_state : (way next : Way) (bytes : List ℕ) → way_behind way bytes ≡ Ok next → next.tokenizer ≡ state_after way.tokenizer bytes
markup_state way next bytes told =
    ⊎_elim
    (λ (refused : is_refused (state_after way.tokenizer bytes).state ≡ true).
    let here : Err fault.Malformed ≡ Ok next = rw refused at told in absurd (cc))
    (λ (read : is_refused (state_after way.tokenizer bytes).state ≡ false). settled_state (spec.behind way bytes) next (rw read at told))
    (cases_Bool (is_refused (state_after way.tokenizer bytes).state))

after_standing : (s : Standing) (t : Tokenizer) → AfterStanding s t (past_standing s t)
after_standing (Stands p) t = refl
after_standing (InUrl p) t = refl
after_standing (InLink p) t = refl
after_standing (InListedUrl p) t = refl
after_standing (InDeclaration p) t = refl
after_standing InScript t = refl
after_standing InJson t = refl
after_standing Barred t = refl
after_standing Nowhere t = refl

-- a slot that stands is not between attributes, and the tokenizer goes on behind it
record IsPlain (t : Tokenizer) (next : Way) : Type 0 where
  outside : is_between_attributes t.state ≡ false
  goes : next.tokenizer ≡ past_slot t

plain_at : (way : Way) (guess : List ℕ) (found : PlacedSlot) (url : OpenUrl) → slot_at way.markup url (standing way.tokenizer) ≡ Ok found →
    IsPlain way.tokenizer (spec.past_slot way (before guess found))
plain_at way guess found url told =
    let t = way.tokenizer in
    record {
      outside = ⊎_elim
          (λ (between : is_between_attributes t.state ≡ true).
          let here : Err fault.NoPlace ≡ Ok found = sym (ap (slot_at way.markup url) (nowhere_in t.state t.content t.attribute between)) ∙ told in absurd (cc))
          (λ (outside : is_between_attributes t.state ≡ false). outside)
          (cases_Bool (is_between_attributes t.state));
      goes = sym (same_after_slot guess way.markup url (standing t) found t (past_slot t) told refl (after_standing (standing t) t));
    }

plain_told : (way : Way) (guess : List ℕ) (found : PlacedSlot) (opened : Result OpenUrl PartFault) → on_ok opened (slot_in way) ≡ Ok found →
    IsPlain way.tokenizer (spec.past_slot way (before guess found))
plain_told way guess found (Ok url) told = plain_at way guess found url told
plain_told way guess found (Err why) told = absurd (cc)

plain_slot : (way : Way) (guess : List ℕ) (found : PlacedSlot) → way_slot way ≡ Ok found → IsPlain way.tokenizer (spec.past_slot way (before guess found))
plain_slot way guess found told =
    ⊎_elim
    (λ (refused : is_refused way.tokenizer.state ≡ true). let here : Err fault.Malformed ≡ Ok found = rw refused at told in absurd (cc))
    (λ (read : is_refused way.tokenizer.state ≡ false). plain_told way guess found (url_markup way.url way.markup) (rw read at told))
    (cases_Bool (is_refused way.tokenizer.state))

-- nodes that are spelled out as they are, and behind which one of these ways is
record ArePlain (t : Tokenizer) (nodes : Nodes node.Asked) (others : List Way) : Type 0 where
  same : spelled_from t nodes ≡ nodes
  last : Way
  among : Among last others
  goes : last.tokenizer ≡ behind t nodes

plain_from : (nodes : Nodes node.Placed) (ways others : List Way) → Takes ways nodes others → (way : Way) → Among way ways →
    ArePlain way.tokenizer (written nodes) others
plain_from node.End ways others takes way among = record { same = refl; last = way; among = takes way among; goes = refl }
plain_from (node.Markup bytes rest) ways others takes way among =
    let here : GoesOn way bytes takes.0 = takes.1 way among in
    let goes = markup_state way here.next bytes here.goes in
    let more = plain_from rest takes.0 others takes.2 here.next here.among in
    record {
      same = ap (node.Markup bytes) (ap (λ t. spelled_from t (written rest)) (sym goes) ∙ more.same);
      last = more.last;
      among = more.among;
      goes = more.goes ∙ ap (λ t. behind t (written rest)) goes;
    }
plain_from (node.Slot slot rest) ways others takes way among =
    let here : GoesPast way slot takes.0 = takes.1 way among in
    let plain = plain_slot way here.guess here.found here.stands in
    let more = plain_from rest takes.0 others takes.2 (spec.past_slot way (before here.guess here.found)) here.among in
    record {
      same = rw plain.outside (ap (node.Slot slot.asked) (ap (λ t. spelled_from t (written rest)) (sym plain.goes) ∙ more.same));
      last = more.last;
      among = more.among;
      goes = more.goes ∙ ap (λ t. behind t (written rest)) plain.goes;
    }
plain_from (node.Fragment slot rest) ways others takes way among =
    let more = plain_from rest takes.0 others takes.2 way (takes.1 way among).1 in
    record { same = ap (node.Fragment slot) more.same; last = more.last; among = more.among; goes = more.goes }
plain_from (node.Section opening body otherwise rest) ways others takes way among =
    let passes = plain_from body takes.0 takes.1 takes.4 way (takes.3 way among) in
    let other = plain_from otherwise ways takes.2 takes.7 way among in
    let more = plain_from rest takes.2 others takes.8 passes.last (takes.6 passes.last passes.among) in
    let o = written_opening opening in
    record {
      same = ap (λ b. node.Section o b (spelled_from way.tokenizer (written otherwise)) (spelled_from (behind way.tokenizer (written body)) (written rest))) passes.same
          ∙ ap (λ b. node.Section o (written body) b (spelled_from (behind way.tokenizer (written body)) (written rest))) other.same
          ∙ ap (node.Section o (written body) (written otherwise)) (ap (λ t. spelled_from t (written rest)) (sym passes.goes) ∙ more.same);
      last = more.last;
      among = more.among;
      goes = more.goes ∙ ap (λ t. behind t (written rest)) passes.goes;
    }

pub view_plain : (asked : Before node.Asked) (placed : Before node.Placed) (first ways : List Way) → first ≡ first_way ∷ [] → Follows asked placed first ways →
    spelled (asked node.End) ≡ asked node.End
view_plain asked placed first ways is follows =
    let taken = subst (λ w. Takes w (placed node.End) ways) is (follows.takes node.End ways (all_among ways)) in
    let plain = plain_from (placed node.End) (first_way ∷ []) ways taken first_way (inl refl) in
    let same = follows.same node.End in
    ap spelled (sym same) ∙ plain.same ∙ same
