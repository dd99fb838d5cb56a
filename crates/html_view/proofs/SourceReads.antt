-- Steps of reading a source.
use Rattle.std.proofs.Common.{Vec, ℕ, zero, suc, ◌≡◌, ◌≢◌, ◌+◌, ◌<◌, true, false, ◌==◌, List, [], ◌∷◌, ◌++◌, Some, Result, Ok, Err, OnOk, get_or, length, take, refl, sym, ap, ◌∙◌, append_assoc, add-one, arith}
use Rattle.std.proofs.lemmas.Bool.{eqb-true}
use Rattle.html_view.specs.Kept.{asked_node, asked_nodes, opening_of}
use Rattle.html_view.specs.Names.{words_of}
use Rattle.html_view.specs.Nodes as node
use Rattle.html_view.specs.Nodes.{Nodes, written_opening, written_times}
use Rattle.html_view.specs.Reading.{all_marked, marked, opened, sectioned, spaces_of, times_of, with_space}
use Rattle.html_view.specs.declared.node.Node.{Markup, Node, Section}
use Rattle.html_view.specs.declared.node.Opening.{Opening}
use Rattle.html_view.specs.declared.node.Times.{Times}
use Rattle.html_view.specs.declared.node.Times.TheVariants.{Attributes, Each, Given, If, Once, Whether}
use Rattle.html_view.specs.declared.source.cursor.Piece.{Piece}
use Rattle.html_view.specs.declared.source.cursor.Tag.{Tag}
use Rattle.html_view.specs.declared.source.tag.Sign.{Sign}
use Rattle.html_view.specs.declared.source.tag.Sign.TheVariants as sign
use Rattle.html_view.proofs.Followed.{asked_markup, asked_section}

pub on_ok : {T E : Type 0} (result : Result T E) (P Q : Type 0) → OnOk result P → (P → Q) → OnOk result Q
on_ok (Ok done) P Q told go_on = go_on told
on_ok (Err fault) P Q told go_on = tt

-- ---- nodes, one behind another

asked_last : {A : Type 0} (nodes : List (Node A)) (last : Node A) (after : Nodes node.Asked) →
    asked_nodes (nodes ++ last ∷ []) after ≡ asked_nodes nodes (asked_node last after)
asked_last [] last after = refl
asked_last (first ∷ nodes) last after = ap (asked_node first) (asked_last nodes last after)

pub asked_pushed : {A : Type 0} (nodes new : List (Node A)) (last : Node A) (after : Nodes node.Asked) →
    new ≡ nodes ++ last ∷ [] → asked_nodes new after ≡ asked_nodes nodes (asked_node last after)
asked_pushed nodes new last after pushed = ap (λ (n : List (Node _)). asked_nodes n after) pushed ∙ asked_last nodes last after

-- ---- white space

pub kept_space : (markup : List ℕ) (spaces : List (List ℕ)) → with_space markup spaces ≡ with_space markup [] ++ spaces
kept_space [] spaces = refl
kept_space (b ∷ markup) spaces = refl

spaces_last : (pieces : List Piece) (last : Piece) → spaces_of (pieces ++ last ∷ []) ≡ spaces_of pieces ++ last.markup.now ∷ []
spaces_last [] last = refl
spaces_last (piece ∷ pieces) last = ap (λ x. piece.markup.now ∷ x) (spaces_last pieces last)

with_some : (markup : List ℕ) (spaces : List (List ℕ)) → (length markup == 0) ≡ false → with_space markup spaces ≡ markup ∷ spaces
with_some [] spaces some = cc
with_some (b ∷ markup) spaces some = refl

with_none : (markup : List ℕ) (spaces : List (List ℕ)) → (length markup == 0) ≡ true → with_space markup spaces ≡ spaces
with_none [] spaces none = refl
with_none (b ∷ markup) spaces none = let is = eqb-true (length (b ∷ markup)) 0 none in absurd (omega arith)

pub keeps_none : (pieces : List Piece) (markup : List ℕ) (spaces : List (List ℕ)) → (length markup == 0) ≡ true →
    spaces_of pieces ++ spaces ≡ spaces_of pieces ++ with_space markup spaces
keeps_none pieces markup spaces none = ap (λ x. spaces_of pieces ++ x) (sym (with_none markup spaces none))

pub keeps_some : (pieces new : List Piece) (last : Piece) (spaces : List (List ℕ)) → (length last.markup.now == 0) ≡ false → new ≡ pieces ++ last ∷ [] →
    spaces_of new ++ spaces ≡ spaces_of pieces ++ with_space last.markup.now spaces
keeps_some pieces new last spaces some pushed =
    ap (λ x. spaces_of x ++ spaces) pushed ∙ ap (λ x. x ++ spaces) (spaces_last pieces last)
    ∙ append_assoc (spaces_of pieces) (last.markup.now ∷ []) spaces ∙ ap (λ x. spaces_of pieces ++ x) (sym (with_some last.markup.now spaces some))

pub marked_none : (markup : List ℕ) (after : Nodes node.Asked) → (length markup == 0) ≡ true → after ≡ marked markup after
marked_none [] after none = refl
marked_none (b ∷ markup) after none = let is = eqb-true (length (b ∷ markup)) 0 none in absurd (omega arith)

pub marked_some : (markup : List ℕ) (after : Nodes node.Asked) → (length markup == 0) ≡ false → node.Markup markup after ≡ marked markup after
marked_some [] after some = cc
marked_some (b ∷ markup) after some = refl

-- ---- sections

pub written_same : (times : Times) → times ≢ Once → written_times times ≡ times
written_same Each other = refl
written_same Once other = absurd (other refl)
written_same If other = refl
written_same Whether other = refl
written_same Given other = refl
written_same Attributes other = refl

pub opened_is : (opening : Opening) (tag : Tag) (times : Times) → opening.name.now ≡ tag.name.now → opening.position ≡ tag.position →
    opening.times ≡ times → times ≢ Once → written_opening (opening_of opening) ≡ opened tag times
opened_is opening tag times name position is other =
    let same : written_times opening.times ≡ times = ap written_times is ∙ written_same times other in
    let words : words_of opening.name.now ≡ words_of tag.name.now = ap words_of name in cc

spaces_some : (pieces : List Piece) → (length pieces == 0) ≡ false → (space : List ℕ) × (spaces : List (List ℕ)) × (spaces_of pieces ≡ space ∷ spaces)
spaces_some [] some = cc
spaces_some (piece ∷ pieces) some = (piece.markup.now, spaces_of pieces, refl)

pub two_sides : {A : Type 0} (tag : Tag) (times : Times) (pieces : List Piece) (first whether : Opening) (body none nodes others : Vec (Node A) A)
    (added : List (Node A)) (rest after : Nodes node.Asked) → (length pieces == 0) ≡ false
    → written_opening (opening_of first) ≡ opened tag times → written_opening (opening_of whether) ≡ opened tag Whether
    → none.items ≡ [] → ((x : Nodes node.Asked) → asked_nodes added x ≡ asked_node (Section first body none) x)
    → ((x : Nodes node.Asked) → asked_nodes nodes.items x ≡ asked_nodes added (all_marked (spaces_of pieces) x))
    → asked_nodes others.items node.End ≡ all_marked (spaces_of pieces) rest
    → asked_node (Section whether nodes others) after
    ≡ sectioned tag times (spaces_of pieces) (asked_nodes body.items node.End) rest after
two_sides tag times pieces first whether body none nodes others added rest after some first_is whether_is none_is one spaced other =
    let s = spaces_some pieces some in
    let inner : asked_nodes nodes.items node.End
    ≡ node.Section (opened tag times) (asked_nodes body.items node.End) node.End (all_marked (spaces_of pieces) node.End) =
    spaced node.End ∙ one (all_marked (spaces_of pieces) node.End)
    ∙ asked_section first body none (all_marked (spaces_of pieces) node.End)
    ∙ ap (λ o. node.Section o (asked_nodes body.items node.End) (asked_nodes none.items node.End) (all_marked (spaces_of pieces) node.End)) first_is
    ∙ ap (λ (n : List (Node _)). node.Section (opened tag times) (asked_nodes body.items node.End) (asked_nodes n node.End) (all_marked (spaces_of pieces) node.End)) none_is in
    asked_section whether nodes others after
    ∙ ap (λ o. node.Section o (asked_nodes nodes.items node.End) (asked_nodes others.items node.End) after) whether_is
    ∙ ap (λ n. node.Section (opened tag Whether) n (asked_nodes others.items node.End) after) inner
    ∙ ap (λ n. node.Section (opened tag Whether) (node.Section (opened tag times) (asked_nodes body.items node.End) node.End (all_marked (spaces_of pieces) node.End)) n after) other
    ∙ sectioned_some s.0 s.1 (spaces_of pieces) s.2
  where
    sectioned_some : (space : List ℕ) (spaces all : List (List ℕ)) → all ≡ space ∷ spaces
        → node.Section (opened tag Whether) (node.Section (opened tag times) (asked_nodes body.items node.End) node.End (all_marked all node.End)) (all_marked all rest) after
        ≡ sectioned tag times all (asked_nodes body.items node.End) rest after
    sectioned_some space spaces all is = rw is refl

-- one more piece of white space
marked_more : (pieces : List Piece) (i : ℕ) (d : Piece) (after : Nodes node.Asked) → i < length pieces →
    all_marked (spaces_of (take (suc i) pieces)) after ≡ all_marked (spaces_of (take i pieces)) (node.Markup (get_or pieces i d).markup.now after)
marked_more [] i d after below = absurd (omega arith)
marked_more (first ∷ pieces) zero d after below = refl
marked_more (first ∷ pieces) (suc i) d after below = ap (node.Markup first.markup.now) (marked_more pieces i d after (omega arith))

pub space_more : {A : Type 0} (pieces items : List Piece) (i : ℕ) (d : Piece) (old before new : List (Node A)) (after : Nodes node.Asked) →
    pieces ≡ items → i < length items
    → ((x : Nodes node.Asked) → asked_nodes old x ≡ asked_nodes before (all_marked (spaces_of (take i items)) x))
    → asked_nodes new after ≡ asked_nodes old (asked_node {A = A} (Markup (get_or pieces i d).markup (get_or pieces i d).position) after)
    → asked_nodes new after ≡ asked_nodes before (all_marked (spaces_of (take (i + 1) items)) after)
space_more pieces items i d old before new after same below so_far added =
    added ∙ ap (asked_nodes old) (asked_markup _ (get_or pieces i d).markup (get_or pieces i d).position after)
    ∙ so_far (node.Markup (get_or pieces i d).markup.now after)
    ∙ ap (λ p. asked_nodes before (all_marked (spaces_of (take i items)) (node.Markup (get_or p i d).markup.now after))) same
    ∙ ap (asked_nodes before) (sym (marked_more items i d after below))
    ∙ ap (λ n. asked_nodes before (all_marked (spaces_of (take n items)) after)) (sym (add-one i))

pub times_once : (sign : Sign) (times : Times) → times_of sign ≡ Some times → times ≢ Once
times_once sign.Each times is once = cc
times_once sign.If times is once = cc
times_once sign.Slot times is once = cc
times_once sign.Fragment times is once = cc
times_once sign.Braced times is once = cc
times_once sign.Quoted times is once = cc
times_once sign.Comment times is once = cc
times_once sign.Unless times is once = cc
times_once sign.End times is once = cc
times_once sign.Partial times is once = cc
times_once sign.Layout times is once = cc
times_once sign.Block times is once = cc

pub section_added : {A : Type 0} (opening : Opening) (tag : Tag) (times : Times) (body others : Vec (Node A) A) (old new : List (Node A))
    (after : Nodes node.Asked) → written_opening (opening_of opening) ≡ opened tag times → others.items ≡ []
    → asked_nodes new after ≡ asked_nodes old (asked_node (Section opening body others) after)
    → asked_nodes new after ≡ asked_nodes old (node.Section (opened tag times) (asked_nodes body.items node.End) node.End after)
section_added opening tag times body others old new after is none added =
    added ∙ ap (asked_nodes old) (asked_section opening body others after
    ∙ ap (λ o. node.Section o (asked_nodes body.items node.End) (asked_nodes others.items node.End) after) is
    ∙ ap (λ (n : List (Node _)). node.Section (opened tag times) (asked_nodes body.items node.End) (asked_nodes n node.End) after) none)

pub unless_added : {A : Type 0} (opening : Opening) (tag : Tag) (times : Times) (body others : Vec (Node A) A) (old new : List (Node A))
    (after : Nodes node.Asked) → written_opening (opening_of opening) ≡ opened tag times → body.items ≡ []
    → asked_nodes new after ≡ asked_nodes old (asked_node (Section opening body others) after)
    → asked_nodes new after ≡ asked_nodes old (node.Section (opened tag times) node.End (asked_nodes others.items node.End) after)
unless_added opening tag times body others old new after is none added =
    added ∙ ap (asked_nodes old) (asked_section opening body others after
    ∙ ap (λ o. node.Section o (asked_nodes body.items node.End) (asked_nodes others.items node.End) after) is
    ∙ ap (λ (n : List (Node _)). node.Section (opened tag times) (asked_nodes n node.End) (asked_nodes others.items node.End) after) none)

-- no nodes
pub none_before : {A : Type 0} (nodes : List (Node A)) (after : Nodes node.Asked) → nodes ≡ [] → asked_nodes nodes after ≡ after
none_before nodes after none = ap (λ (n : List (Node _)). asked_nodes n after) none
