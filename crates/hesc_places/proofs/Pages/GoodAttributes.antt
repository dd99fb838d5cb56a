-- Attributes have no fault exactly where they are good.
use Rattle.std.proofs.Common.{ℕ, ◌≡◌, ◌↔◌, Bool, true, false, not, ◌+◌, ◌&&◌, if◌then◌else◌, List, [], ◌∷◌, ◌++◌, Option, Some, None, bytes_eq, map, refl, sym, arith, Err}
use Rattle.std.specs.List.{list_any, AllByRecursion}
use Rattle.std.specs.Option.{option_or}
use Rattle.std.proofs.lemmas.Bool.{and_parts, or_parts, not-true}
use Rattle.std.proofs.lemmas.Bool.Decides.{same_from_decides}
use Rattle.std.proofs.lemmas.List.Folds.{list_any-append}
use Rattle.std.proofs.lemmas.Slice.Eq.{bytes_eq-Decides}
use Rattle.hesc_places.specs.declared.markup.types.Quoting.{Quoting}
use Rattle.hesc_places.specs.declared.markup.types.Quoting.TheVariants.{Unquoted, Single, Double}
use Rattle.hesc_places.specs.Pages.AttributeReadings.{Entry, differ}
use Rattle.hesc_places.specs.Pages.FormFaults.{attribute_fault, fault_from, first_fault, is_unfilled, AnswersFormFault}
use Rattle.hesc_places.specs.Pages.FormTexts.{AreGood, IsFilled, is_name}
use Rattle.hesc_places.specs.declared.markup.types.FormFault.{FormFault}
use Rattle.hesc_places.specs.declared.markup.types.FormFault.TheVariants.{BadName, EmptyUnquoted, Memory}

-- no attribute has one of these names
abbrev HaveOthers : List (List ℕ) → List Entry → Type 0
HaveOthers names = AllByRecursion (λ a. list_any (bytes_eq a.name) names ≡ false)

same_either_way : (one other : List ℕ) → bytes_eq one other ≡ bytes_eq other one
same_either_way one other =
    let there = bytes_eq-Decides one other in let back = bytes_eq-Decides other one in
    same_from_decides (bytes_eq one other) (bytes_eq other one) there ((λ e. sym (back.0 e)), (λ e. back.1 (sym e)))

others_of_one : (name : List ℕ) (attributes : List Entry) →
    list_any (bytes_eq name) (map (λ a. a.name) attributes) ≡ false → HaveOthers (name ∷ []) attributes
others_of_one name [] none = tt
others_of_one name (a ∷ others) none =
    let parts = or_parts (bytes_eq name a.name) (list_any (bytes_eq name) (map (λ a. a.name) others)) none in
    (rw (same_either_way a.name name, parts.0) refl, others_of_one name others parts.1)

one_of_others : (name : List ℕ) (attributes : List Entry) →
    HaveOthers (name ∷ []) attributes → list_any (bytes_eq name) (map (λ a. a.name) attributes) ≡ false
one_of_others name [] have = refl
one_of_others name (a ∷ others) have =
    let parts = or_parts (bytes_eq a.name name) false have.0 in
    rw (same_either_way name a.name, parts.0) (one_of_others name others have.1)

others_of_both : (names more : List (List ℕ)) (attributes : List Entry) →
    HaveOthers names attributes → HaveOthers more attributes → HaveOthers (names ++ more) attributes
others_of_both names more [] have had = tt
others_of_both names more (a ∷ others) have had =
    (rw (list_any-append (bytes_eq a.name) names more, have.0) had.0, others_of_both names more others have.1 had.1)

both_of_others : (names more : List (List ℕ)) (attributes : List Entry) →
    HaveOthers (names ++ more) attributes → HaveOthers names attributes × HaveOthers more attributes
both_of_others names more [] have = (tt, tt)
both_of_others names more (a ∷ others) have =
    let parts = or_parts (list_any (bytes_eq a.name) names) (list_any (bytes_eq a.name) more) (rw (list_any-append (bytes_eq a.name) names more) at have.0) in
    let rest = both_of_others names more others have.1 in
    ((parts.0, rest.0), (parts.1, rest.1))

others_of_none : (attributes : List Entry) → HaveOthers [] attributes
others_of_none [] = tt
others_of_none (a ∷ others) = (refl, others_of_none others)

filled : (quoting : Quoting) (value : List ℕ) → is_unfilled quoting value ≡ false → IsFilled quoting value
filled Unquoted [] is = cc
filled Unquoted (b ∷ value) is = λ none. omega (arith, none)
filled Single value is = tt
filled Double value is = tt

unfilled : (quoting : Quoting) (value : List ℕ) → IsFilled quoting value → is_unfilled quoting value ≡ false
unfilled Unquoted [] full = absurd (full refl)
unfilled Unquoted (b ∷ value) full = refl
unfilled Single value full = refl
unfilled Double value full = refl

neither : {T : Type 0} (one other : Option T) → option_or one other ≡ None → (one ≡ None) × (other ≡ None)
neither None other none = (refl, none)
neither (Some x) other none = cc

no_choice : {T : Type 0} (named stood unfilled : Bool) (one other : T) →
    (if named && not stood then (if unfilled then Some one else None) else Some other) ≡ None →
    (named ≡ true) × (stood ≡ false) × (unfilled ≡ false)
no_choice true false false one other none = (refl, refl, refl)
no_choice true false true one other none = cc
no_choice true true unfilled one other none = cc
no_choice false stood unfilled one other none = cc

-- after these names nothing is wrong with the attributes
record StandAfter (earlier : List (List ℕ)) (attributes : List Entry) : Type 0 where
  good : AreGood attributes
  others : HaveOthers earlier attributes

stand_after : (earlier : List (List ℕ)) (place : ℕ) (attributes : List Entry) →
    fault_from earlier place attributes ≡ None → StandAfter earlier attributes
stand_after earlier place [] none = record { good = record { names = tt; differ = refl; filled = tt }; others = tt }
stand_after earlier place (a ∷ others) none =
    let both = neither (attribute_fault earlier place a) (fault_from (earlier ++ a.name ∷ []) (place + 1) others) none in
    let first = no_choice (is_name a.name) (list_any (bytes_eq a.name) earlier) (is_unfilled a.quoting a.value) _ _ both.0 in
    let rest = stand_after (earlier ++ a.name ∷ []) (place + 1) others both.1 in
    let apart = both_of_others earlier (a.name ∷ []) others rest.others in
    record {
      good = record {
        names = (first.0, rest.good.names);
        differ = rw (one_of_others a.name others apart.1) rest.good.differ;
        filled = (filled a.quoting a.value first.2, rest.good.filled);
      };
      others = (first.1, apart.0);
    }

nothing_wrong : (earlier : List (List ℕ)) (place : ℕ) (attributes : List Entry) →
    AreGood attributes → HaveOthers earlier attributes → fault_from earlier place attributes ≡ None
nothing_wrong earlier place [] good have = refl
nothing_wrong earlier place (a ∷ others) good have =
    let differs = and_parts (not (list_any (bytes_eq a.name) (map (λ b. b.name) others))) (differ (map (λ b. b.name) others)) good.differ in
    let none : list_any (bytes_eq a.name) (map (λ b. b.name) others) ≡ false = not-true _ differs.0 in
    let rest : AreGood others = record { names = good.names.1; differ = differs.1; filled = good.filled.1 } in
    let following : HaveOthers (earlier ++ a.name ∷ []) others =
    others_of_both earlier (a.name ∷ []) others have.1 (others_of_one a.name others none) in
    rw (good.names.0, have.0, unfilled a.quoting a.value good.filled.0) (nothing_wrong (earlier ++ a.name ∷ []) (place + 1) others rest following)

-- attributes have no fault exactly where they are good
pub good_without_fault : (attributes : List Entry) → (first_fault attributes ≡ None) ↔ AreGood attributes
good_without_fault attributes = (
  (λ none. (stand_after [] 0 attributes none).good),
  (λ good. nothing_wrong [] 0 attributes good (others_of_none attributes)),
)

-- ---- the first fault of attributes is answered

not_here : (named unfilled : Bool) (place : ℕ) (others : Option FormFault) → (others ≡ Some Memory → ⊥) →
    option_or (if named then (if unfilled then Some (EmptyUnquoted place) else None) else Some (BadName place)) others ≡ Some Memory → ⊥
not_here true true place others none is = cc
not_here true false place others none is = none is
not_here false unfilled place others none is = cc

-- want of memory is no fault of attributes
never_memory : (earlier : List (List ℕ)) (place : ℕ) (attributes : List Entry) → fault_from earlier place attributes ≡ Some Memory → ⊥
never_memory earlier place [] is = cc
never_memory earlier place (a ∷ others) is =
    not_here (is_name a.name && not (list_any (bytes_eq a.name) earlier)) (is_unfilled a.quoting a.value) place _
    (never_memory (earlier ++ a.name ∷ []) (place + 1) others) is

pub answered : (attributes : List Entry) (fault : FormFault) → Some fault ≡ first_fault attributes →
    AnswersFormFault {T = Unit {0}} attributes (Err fault)
answered attributes (BadName place) first = sym first
answered attributes (EmptyUnquoted place) first = sym first
answered attributes Memory first = absurd (never_memory [] 0 attributes (sym first))

pub not_good : (attributes : List Entry) (fault : FormFault) → Some fault ≡ first_fault attributes → AreGood attributes → ⊥
not_good attributes fault first good = let none = (good_without_fault attributes).1 good in cc

pub good : (attributes : List Entry) → None ≡ first_fault attributes → AreGood attributes
good attributes none = (good_without_fault attributes).0 (sym none)
