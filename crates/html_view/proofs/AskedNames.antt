-- The names of nodes, one behind another.
use Rattle.std.proofs.Common.{Vec, ℕ, ◌≡◌, ◌<◌, ◌+◌, List, [], ◌∷◌, ◌++◌, map, drop, get_or, length, OnOk, Result, Ok, Err, sym, ap, ◌∙◌, append_assoc}
use Rattle.std.proofs.lemmas.List.{map-append}
use Rattle.html_view.specs.AskedNames.{AddsNames, AskedName, asked_name, names_in, opened_names}
use Rattle.html_view.specs.Kept.{Before, nodes_of, opened_of, placed_node}
use Rattle.html_view.specs.Nodes.{Nodes, Placed}
use Rattle.html_view.specs.declared.names.Name.{Name}
use Rattle.html_view.specs.declared.placed.Opened.{Opened}
use Rattle.html_view.specs.declared.placed.PlacedNode.{PlacedNode, Section}
use Rattle.html_view.proofs.Followed.{placed_section}
use Rattle.html_view.proofs.Sections.{nodes_from}

-- a node with one name
pub one_added : {T E : Type 0} (result : Result T E) (old new : List Name) (one : Name) (told : AskedName) (first : Before Placed) →
    OnOk result (new ≡ old ++ one ∷ []) → asked_name one ≡ told → ((rest : Nodes Placed) → names_in (first rest) ≡ told ∷ names_in rest) →
    OnOk result (AddsNames (map asked_name old) first (map asked_name new))
one_added (Ok done) old new one told first pushed is begins = λ rest.
    ap (λ n. map asked_name n ++ names_in rest) pushed
    ∙ ap (λ n. n ++ names_in rest) (map-append asked_name old (one ∷ []))
    ∙ append_assoc (map asked_name old) (asked_name one ∷ []) (names_in rest)
    ∙ ap (λ t. map asked_name old ++ t ∷ names_in rest) is
    ∙ ap (λ n. map asked_name old ++ n) (sym (begins rest))
one_added (Err fault) old new one told first pushed is begins = tt

-- a section, of the names of its body and of its other nodes
pub section_added : {A T E : Type 0} (result : Result T E) (old middle new : List AskedName) (node : PlacedNode A) (opened : Opened A)
    (body otherwise : Vec (PlacedNode A) A) → node ≡ Section opened body otherwise →
    middle ≡ old ++ opened_names opened.times (opened_of opened).name (names_in (nodes_of body.items)) →
    OnOk result (new ≡ middle ++ names_in (nodes_of otherwise.items)) → OnOk result (AddsNames old (placed_node node) new)
section_added {A} (Ok done) old middle new node opened body otherwise is one two = λ rest.
    let inner = opened_names opened.times (opened_of opened).name (names_in (nodes_of body.items)) in
    let others = names_in (nodes_of otherwise.items) in
    ap (λ n. n ++ names_in rest) (two ∙ ap (λ n. n ++ others) one)
    ∙ append_assoc (old ++ inner) others (names_in rest)
    ∙ append_assoc old inner (others ++ names_in rest)
    ∙ ap (λ n. old ++ names_in n) (sym (ap (λ (n : PlacedNode A). placed_node n rest) is ∙ placed_section opened body otherwise rest))
section_added (Err fault) old middle new node opened body otherwise is one two = tt

-- a node more
pub more_added : {A : Type 0} (nodes all : List (PlacedNode A)) (i : ℕ) (n : PlacedNode A) (old new told : List AskedName) → nodes ≡ all → i < length nodes →
    n ≡ get_or nodes i n → old ++ names_in (nodes_of (drop i all)) ≡ told → AddsNames old (placed_node n) new →
    new ++ names_in (nodes_of (drop (i + 1) all)) ≡ told
more_added nodes all i n old new told same below is so_far adds =
    adds (nodes_of (drop (i + 1) all)) ∙ ap (λ x. old ++ names_in x) (sym (nodes_from nodes all i n same below is)) ∙ so_far
