-- What is put for a node.
use Rattle.std.proofs.Common.{Vec, ℕ, zero, suc, ◌≡◌, ◌<◌, ◌+◌, List, [], ◌∷◌, length, get_or, drop, arith, Option, Ok, Result, sym, ap, ◌∙◌, subst}
use Rattle.html_template.specs.Templates.{Fill}
use Rattle.html_template.specs.declared.stored.StoredMarkup.{StoredMarkup}
use Rattle.html_view.specs.Attributes.{refused_for}
use Rattle.html_view.specs.Data.{Datum, Stack, look_up, stacks}
use Rattle.html_view.specs.Nodes as node
use Rattle.html_view.specs.Nodes.{Nodes, Opening}
use Rattle.html_view.specs.Putting.{Puts, PutsFront}
use Rattle.html_view.specs.Rendered.{Unrolled, Unrolling, unrolled, unrolled_section}
use Rattle.html_view.specs.declared.faults.ValueFault.{ValueFault}
use Rattle.html_view.specs.Kept.{named_of, nodes_of, opened_of, placed_node, slot_of}
use Rattle.html_view.specs.declared.placed.Named.{Named}
use Rattle.html_view.specs.declared.placed.Opened.{Opened}
use Rattle.html_view.specs.declared.placed.Placed.{Placed}
use Rattle.html_view.specs.declared.placed.PlacedNode.{Fragment, Markup, PlacedNode, Section, Slot}
use Rattle.html_view.specs.declared.unroll.Refusal.{Refusal}
use Rattle.html_view.specs.declared.unroll.Stop.{Stop}
use Rattle.html_view.proofs.Followed.{placed_fragment, placed_markup, placed_section, placed_slot}
use Rattle.html_view.proofs.Putting.{IsSoFar, front_same, same_told, section_put}
use Rattle.html_view.proofs.Unrolling.{are_either, is_unrolling}

-- what is put for what the code keeps is put for its node
pub node_put : {A F : Type 0} (one : PlacedNode A) (seen : Nodes node.Placed → Nodes node.Placed) (stack : Stack) (old new : List ℕ) (refusal : Refusal)
    (result : Result (Unit {0}) (Stop F)) → ((rest : Nodes node.Placed) → placed_node one rest ≡ seen rest) →
    PutsFront (λ rest. unrolled (seen rest) stack) stack old new refusal result →
    PutsFront (λ rest. unrolled (placed_node one rest) stack) stack old new refusal result
node_put one seen stack old new refusal result same puts =
    front_same (λ rest. unrolled (seen rest) stack) (λ rest. unrolled (placed_node one rest) stack) stack old new refusal result
    (λ rest. ap (λ n. unrolled n stack) (same rest)) puts

pub markup_node : {A F : Type 0} (one : PlacedNode A) (markup : StoredMarkup) (stack : Stack) (old new : List ℕ) (refusal : Refusal)
    (result : Result (Unit {0}) (Stop F)) → one ≡ Markup markup →
    PutsFront (λ rest. unrolled (node.Markup markup.text.now rest) stack) stack old new refusal result →
    PutsFront (λ rest. unrolled (placed_node one rest) stack) stack old new refusal result
markup_node {A} one markup stack old new refusal result is puts =
    node_put one (λ rest. node.Markup markup.text.now rest) stack old new refusal result
    (λ rest. ap (λ (n : PlacedNode A). placed_node n rest) is ∙ placed_markup A markup rest) puts

pub slot_node : {A F : Type 0} (one : PlacedNode A) (slot : Placed A) (stack : Stack) (old new : List ℕ) (refusal : Refusal)
    (result : Result (Unit {0}) (Stop F)) → one ≡ Slot slot →
    PutsFront (λ rest. unrolled (node.Slot (slot_of slot) rest) stack) stack old new refusal result →
    PutsFront (λ rest. unrolled (placed_node one rest) stack) stack old new refusal result
slot_node {A} one slot stack old new refusal result is puts =
    node_put one (λ rest. node.Slot (slot_of slot) rest) stack old new refusal result
    (λ rest. ap (λ (n : PlacedNode A). placed_node n rest) is ∙ placed_slot slot rest) puts

pub fragment_node : {A F : Type 0} (one : PlacedNode A) (slot : Named A) (stack : Stack) (old new : List ℕ) (refusal : Refusal)
    (result : Result (Unit {0}) (Stop F)) → one ≡ Fragment slot →
    PutsFront (λ rest. unrolled (node.Fragment (named_of slot) rest) stack) stack old new refusal result →
    PutsFront (λ rest. unrolled (placed_node one rest) stack) stack old new refusal result
fragment_node {A} one slot stack old new refusal result is puts =
    node_put one (λ rest. node.Fragment (named_of slot) rest) stack old new refusal result
    (λ rest. ap (λ (n : PlacedNode A). placed_node n rest) is ∙ placed_fragment slot rest) puts

pub section_node : {A F : Type 0} (one : PlacedNode A) (opening : Opened A) (body otherwise : Vec (PlacedNode A) A) (stack : Stack) (old new : List ℕ)
    (refusal : Refusal) (result : Result (Unit {0}) (Stop F)) → one ≡ Section opening body otherwise →
    PutsFront (λ rest. unrolled (node.Section (opened_of opening) (nodes_of body.items) (nodes_of otherwise.items) rest) stack) stack old new refusal result →
    PutsFront (λ rest. unrolled (placed_node one rest) stack) stack old new refusal result
section_node {A} one opening body otherwise stack old new refusal result is puts =
    node_put one (λ rest. node.Section (opened_of opening) (nodes_of body.items) (nodes_of otherwise.items) rest) stack old new refusal result
    (λ rest. ap (λ (n : PlacedNode A). placed_node n rest) is ∙ placed_section opening body otherwise rest) puts

pub nodes_fill : (nodes : Nodes node.Placed) (stack : Stack) (found : Unrolling) → unrolled nodes stack ≡ Ok found → Fill found.pieces found.texts
nodes_fill nodes stack found told = (is_unrolling nodes stack found told).full

section_fills : (opening : Opening) (refused : Option ValueFault) (body otherwise : Nodes node.Placed) (stack : Stack) (around : List Stack) (found : Unrolling) →
    unrolled_section opening refused (λ inner. unrolled body inner) (unrolled otherwise stack) around ≡ Ok found → Fill found.pieces found.texts
section_fills opening refused body otherwise stack around found told =
    (are_either opening refused body otherwise (λ inner. unrolled body inner) (unrolled otherwise stack)
    (λ inner value is. is_unrolling body inner value is) (λ value is. is_unrolling otherwise stack value is) around found told).full

-- a section whose name means this value makes what is put
pub section_made : {F : Type 0} (opening : Opening) (body otherwise : Nodes node.Placed) (value : Option Datum) (stack : Stack)
    (told : Unrolled) (old new : List ℕ) (refusal : Refusal) (result : Result (Unit {0}) (Stop F)) → value ≡ look_up opening.name stack →
    unrolled_section opening (refused_for opening.times value) (λ inner. unrolled body inner) (unrolled otherwise stack) (stacks opening.times value stack) ≡ told →
    Puts told old new refusal result → PutsFront (λ rest. unrolled (node.Section opening body otherwise rest) stack) stack old new refusal result
section_made opening body otherwise value stack told old new refusal result means same puts =
    let refused = refused_for opening.times (look_up opening.name stack) in
    let around = stacks opening.times (look_up opening.name stack) stack in
    let made = unrolled_section opening refused (λ inner. unrolled body inner) (unrolled otherwise stack) around in
    section_put made stack old new refusal result (section_fills opening refused body otherwise stack around)
    (same_told told made old new refusal result
    (ap (λ v. unrolled_section opening (refused_for opening.times v) (λ inner. unrolled body inner) (unrolled otherwise stack) (stacks opening.times v stack)) (sym means)
    ∙ same) puts)

-- ---- nodes from one on

nodes_at : {A : Type 0} (nodes : List (PlacedNode A)) (i : ℕ) (s : PlacedNode A) → i < length nodes → s ≡ get_or nodes i s →
    nodes_of (drop i nodes) ≡ placed_node s (nodes_of (drop (suc i) nodes))
nodes_at [] i s below is = absurd (omega arith)
nodes_at {A} (m ∷ nodes) zero s below is = ap (λ (x : PlacedNode A). placed_node x (nodes_of nodes)) (sym is)
nodes_at (m ∷ nodes) (suc i) s below is = nodes_at nodes i s (omega arith) is

pub nodes_from : {A : Type 0} (nodes all : List (PlacedNode A)) (i : ℕ) (n : PlacedNode A) → nodes ≡ all → i < length nodes → n ≡ get_or nodes i n →
    nodes_of (drop i all) ≡ placed_node n (nodes_of (drop (i + 1) all))
nodes_from {A} nodes all i n same below is =
    let here = subst (λ (l : List (PlacedNode A)). nodes_of (drop i l) ≡ placed_node n (nodes_of (drop (suc i) l))) same (nodes_at nodes i n below is) in
    let next : suc i ≡ i + 1 = omega arith in
    subst (λ k. nodes_of (drop i all) ≡ placed_node n (nodes_of (drop k all))) next here

-- so far all before this node is put
pub before_node : {A : Type 0} (told : Unrolled) (nodes all : List (PlacedNode A)) (i : ℕ) (n : PlacedNode A) (stack : Stack) (old new : List ℕ) →
    nodes ≡ all → i < length nodes → n ≡ get_or nodes i n → IsSoFar told (unrolled (nodes_of (drop i all)) stack) old new →
    IsSoFar told (unrolled (placed_node n (nodes_of (drop (i + 1) all))) stack) old new
before_node told nodes all i n stack old new same below is so_far =
    subst (λ x. IsSoFar told (unrolled x stack) old new) (nodes_from nodes all i n same below is) so_far
