-- The lines of nodes.
use Rattle.std.proofs.Common.{Vec, rules, ◌≡◌, ◌==◌, ◌<◌, ℕ, suc, List, [], ◌∷◌, ◌++◌, Option, Result, Ok, Err, get_or, length, take, map, refl, sym, ap, ◌∙◌, append_assoc, append-nil, OnOk, subst}
use Rattle.std.specs.List.{concat}
use Rattle.std.specs.Vec.{vec_len}
use Rattle.std.proofs.Math.Seq.{take-suc}
use Rattle.std.proofs.lemmas.Grind.{flat_map-append}
use Rattle.std.proofs.lemmas.List.{length-map}
use Rattle.html_view.specs.declared.placed.Opened.{Opened}
use Rattle.html_view.specs.declared.placed.PlacedNode.{PlacedNode, Section, the_lemmas}
use Rattle.hesc_views.specs.Checks.{body_lines, body_sign, has_none, lines_of, node_lines, otherwise_sign, section_lines, tag_line}

pub vec_has_none : {X A : Type 0} (v : Vec X A) → (vec_len v == 0) ≡ has_none v.items
vec_has_none v = ap (λ n. n == 0) v.ok.0

has_none-map : {X Y : Type 0} (f : X → Y) (xs : List X) → has_none (map f xs) ≡ has_none xs
has_none-map f xs = ap (λ n. n == 0) (length-map xs f)

concat-lines : {A : Type 0} (nodes : List (PlacedNode A)) → concat (map node_lines nodes) ≡ lines_of nodes
concat-lines [] = refl
concat-lines (node ∷ nodes) = ap (λ rest. node_lines node ++ rest) (concat-lines nodes)

section_fold : {A : Type 0} (opened : Opened A) (body otherwise : Vec (PlacedNode A) A) →
    node_lines (Section opened body otherwise) ≡ section_lines opened (map node_lines body.items) (map node_lines otherwise.items)
section_fold opened body otherwise = search (rules, the_lemmas)

-- the lines of a section are those of its tags and of its nodes
section_node : {A : Type 0} (opened : Opened A) (body otherwise : Vec (PlacedNode A) A) →
    node_lines (Section opened body otherwise)
    ≡ body_lines opened.times opened.tag (body_sign opened.times (has_none body.items) (has_none otherwise.items)) (lines_of body.items)
    ++ (tag_line (otherwise_sign (has_none otherwise.items)) opened.tag ++ lines_of otherwise.items)
section_node opened body otherwise =
    section_fold opened body otherwise
    ∙ rw (has_none-map node_lines body.items, has_none-map node_lines otherwise.items, concat-lines body.items, concat-lines otherwise.items) refl

three : (old a b c : List ℕ) → (((old ++ a) ++ b) ++ c) ≡ old ++ (a ++ (b ++ c))
three old a b c = append_assoc (old ++ a) b c ∙ append_assoc old a (b ++ c)

-- the lines of a section were appended one after the other
pub section_appended : {A T E : Type 0} (opened : Opened A) (body otherwise : Vec (PlacedNode A) A) (node : PlacedNode A)
    (old first second new : List ℕ) (sign other : Option (List ℕ)) (result : Result T E) → node ≡ Section opened body otherwise →
    sign ≡ body_sign opened.times (has_none body.items) (has_none otherwise.items) → other ≡ otherwise_sign (has_none otherwise.items) →
    first ≡ old ++ body_lines opened.times opened.tag sign (lines_of body.items) → second ≡ first ++ tag_line other opened.tag →
    OnOk result (new ≡ second ++ lines_of otherwise.items) → OnOk result (new ≡ old ++ node_lines node)
section_appended opened body otherwise node old first second new sign other (Ok done) is opens opens_other one two three_is =
    three_is ∙ rw (two, one, opens, opens_other, is, section_node opened body otherwise)
    (three old (body_lines opened.times opened.tag (body_sign opened.times (has_none body.items) (has_none otherwise.items)) (lines_of body.items))
    (tag_line (otherwise_sign (has_none otherwise.items)) opened.tag) (lines_of otherwise.items))
section_appended opened body otherwise node old first second new sign other (Err fault) is opens opens_other one two three_is = tt

-- the lines of one node more were appended
pub lines_more : {A : Type 0} (nodes all : List (PlacedNode A)) (i j : ℕ) (node : PlacedNode A) (old before after : List ℕ) →
    nodes ≡ all → j ≡ suc i → i < length nodes → node ≡ get_or nodes i node →
    before ≡ old ++ lines_of (take i all) → after ≡ before ++ node_lines node → after ≡ old ++ lines_of (take j all)
lines_more nodes all i j node old before after same next within is so_far one =
    let last : lines_of (take (suc i) all) ≡ lines_of (take i all) ++ node_lines node =
    ap lines_of (take-suc all i node (subst (λ n. i < length n) same within)) ∙ (flat_map-append node_lines (take i all) (get_or all i node ∷ [])
    ∙ ap (λ n. lines_of (take i all) ++ n) (append-nil (node_lines (get_or all i node)) ∙ ap node_lines (sym (subst (λ n. node ≡ get_or n i node) same is)))) in
    one ∙ (ap (λ n. n ++ node_lines node) so_far ∙ (append_assoc old (lines_of (take i all)) (node_lines node)
    ∙ (ap (λ n. old ++ n) (sym last) ∙ ap (λ n. old ++ lines_of (take n all)) (sym next))))
