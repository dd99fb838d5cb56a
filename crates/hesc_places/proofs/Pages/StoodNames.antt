-- Names in order: what a further one adds, and that each name stands once where none stood before it.
use Rattle.std.proofs.Common.{Ordering, Less, Equal, Greater, ℕ, ◌≡◌, Bool, true, false, not, ◌&&◌, ◌||◌, List, [], ◌∷◌, bytes_eq, refl, sym, ap, ◌∙◌}
use Rattle.std.specs.Borrow.{Bor}
use Rattle.std.specs.List.{list_all, list_any}
use Rattle.std.specs.Ordering.{match_ordering, nat_cmp, is_eq}
use Rattle.std.specs.Cmp.Lexicographic.{slice_cmp}
use Rattle.std.specs.BTreeSet.{insert_key}
use Rattle.std.proofs.lemmas.Map.Text.{is_eq-slice_cmp}
use Rattle.std.proofs.lemmas.Slice.Eq.{bytes_eq-Decides}
use Rattle.std.proofs.lemmas.Bool.Decides.{same_from_decides}
use Rattle.hesc_places.specs.Pages.AttributeReadings.{differ}
use Rattle.hesc_places.specs.Pages.StoodNames.{has}

or_again : (b r : Bool) → (b || r) ≡ (b || (b || r))
or_again true r = refl
or_again false r = refl

or_swap : (a b r : Bool) → (a || (b || r)) ≡ (b || (a || r))
or_swap true true r = refl
or_swap true false r = refl
or_swap false true r = refl
or_swap false false r = refl

abbrev in_order : Bor (List ℕ) → Bor (List ℕ) → Ordering
in_order one other = slice_cmp nat_cmp one.now other.now

same_name : (one other : List ℕ) → slice_cmp nat_cmp one other ≡ Equal → one ≡ other
same_name one other equal = (bytes_eq-Decides one other).0 (sym (is_eq-slice_cmp one other) ∙ ap is_eq equal)

add_first : (o : Ordering) (name first : Bor (List ℕ)) (others : List (Bor (List ℕ))) (asked : List ℕ) → in_order name first ≡ o →
    has (insert_key in_order others name) asked ≡ (bytes_eq asked name.now || has others asked) →
    has (match_ordering o (name ∷ first ∷ others) (first ∷ others) (first ∷ insert_key in_order others name)) asked
    ≡ (bytes_eq asked name.now || (bytes_eq asked first.now || has others asked))
add_first Less name first others asked is added = refl
add_first Equal name first others asked is added = rw (same_name name.now first.now is) (or_again (bytes_eq asked first.now) (has others asked))
add_first Greater name first others asked is added =
    ap (λ b. bytes_eq asked first.now || b) added ∙ or_swap (bytes_eq asked first.now) (bytes_eq asked name.now) (has others asked)

-- a name is there once it was added, and others as before
pub has-insert : (names : List (Bor (List ℕ))) (name : Bor (List ℕ)) (asked : List ℕ) →
    has (insert_key in_order names name) asked ≡ (bytes_eq asked name.now || has names asked)
has-insert [] name asked = refl
has-insert (first ∷ others) name asked = add_first (in_order name first) name first others asked refl (has-insert others name asked)

-- a search in order finds the names
pub has-searched : (names : List (Bor (List ℕ))) (name : List ℕ) →
    list_any (λ one. is_eq (slice_cmp nat_cmp name one.now)) names ≡ has names name
has-searched [] name = refl
has-searched (first ∷ others) name = rw (is_eq-slice_cmp name first.now, has-searched others name) refl

-- none of the names stood before
abbrev pub are_new : List (Bor (List ℕ)) → List (List ℕ) → Bool
are_new stood names = list_all (λ name. not (has stood name)) names

pub none_stood : (names : List (List ℕ)) → are_new [] names ≡ true
none_stood [] = refl
none_stood (name ∷ names) = none_stood names

apart : (same stood all none : Bool) → (not (same || stood) && (all && not none)) ≡ ((not stood && all) && not (same || none))
apart true true all none = refl
apart true false true none = refl
apart true false false none = refl
apart false true all none = refl
apart false false true none = refl
apart false false false none = refl

same_either_way : (one other : List ℕ) → bytes_eq one other ≡ bytes_eq other one
same_either_way one other =
    let there = bytes_eq-Decides one other in let back = bytes_eq-Decides other one in
    same_from_decides (bytes_eq one other) (bytes_eq other one) there ((λ e. sym (back.0 e)), (λ e. back.1 (sym e)))

-- the names are new after one more where they were new before and none of them is that one
pub new_after : (stood more : List (Bor (List ℕ))) (name : List ℕ) →
    ((asked : List ℕ) → has more asked ≡ (bytes_eq asked name || has stood asked)) →
    (names : List (List ℕ)) → are_new more names ≡ (are_new stood names && not (list_any (bytes_eq name) names))
new_after stood more name added [] = refl
new_after stood more name added (first ∷ names) =
    rw (added first, same_either_way first name, new_after stood more name added names)
    (apart (bytes_eq name first) (has stood first) (are_new stood names) (list_any (bytes_eq name) names))

-- the first name stood before, so the names are not all new
pub old_first : (stood : List (Bor (List ℕ))) (first : List ℕ) (names : List (List ℕ)) (all : Bool) →
    true ≡ has stood first → (are_new stood (first ∷ names) && differ (first ∷ names)) ≡ all → false ≡ all
old_first stood first names all is known = rw (sym is) at known

and_turn : (one other third : Bool) → ((one && other) && third) ≡ (one && (other && third))
and_turn true other third = refl
and_turn false other third = refl

-- the first name is new, and stands before the others
pub new_first : (stood more : List (Bor (List ℕ))) (first : List ℕ) (names : List (List ℕ)) (all : Bool) →
    false ≡ has stood first →
    ((asked : List ℕ) → has more asked ≡ (bytes_eq asked first || has stood asked)) →
    (are_new stood (first ∷ names) && differ (first ∷ names)) ≡ all → (are_new more names && differ names) ≡ all
new_first stood more first names all is added known =
    rw (new_after stood more first added names) (and_turn (are_new stood names) (not (list_any (bytes_eq first) names)) (differ names) ∙ (rw (sym is) at known))

pub not_not : (b : Bool) → not (not b) ≡ b
not_not true = refl
not_not false = refl
