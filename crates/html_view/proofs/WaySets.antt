-- Ways among others.
use Rattle.std.proofs.Common.{ℕ, zero, suc, ◌≡◌, ◌<◌, ◌≤◌, Result, Ok, Err, IfOk, OnOk, List, [], ◌∷◌, ◌++◌, map, take, get_or, length, arith, refl, sym, ap, ◌∙◌, subst, inl, inr, ⊎_elim}
use Rattle.std.proofs.lemmas.List.{map-append}
use Rattle.html_template.specs.declared.open_url.PlacedSlot.{PlacedSlot}
use Rattle.html_template.specs.OpenUrls.{before}
use Rattle.html_view.specs.Following.{MovedPast, way_of}
use Rattle.html_view.specs.Nodes.{Placed}
use Rattle.html_view.specs.Takes.{Among, AreAmong, GoesOn, GoesPast}
use Rattle.html_view.specs.Ways as spec
use Rattle.html_view.specs.Ways.{past_slot, way_behind, way_slot}
use Rattle.html_view.specs.declared.way.Way.{Way}

-- each way of a list is among them
among_item : {A : Type 0} (ways : List (Way A)) (i : ℕ) (way : Way A) → i < length ways → way ≡ get_or ways i way → Among (way_of way) (map way_of ways)
among_item [] i way below is = absurd (omega arith)
among_item (first ∷ ways) zero way below is = inl (ap way_of is)
among_item (first ∷ ways) (suc i) way below is = inr (among_item ways i way (omega arith) is)

pub among_at : {A : Type 0} (ways all : List (Way A)) (i : ℕ) (way : Way A) → ways ≡ all → i < length ways → way ≡ get_or ways i way →
    Among (way_of way) (map way_of all)
among_at ways all i way same below is = subst (λ w. Among (way_of way) (map way_of w)) same (among_item ways i way below is)

-- one way more
pub among_last : (ways : List spec.Way) (way : spec.Way) → Among way (ways ++ way ∷ [])
among_last [] way = inl refl
among_last (first ∷ ways) way = inr (among_last ways way)

pub among_more : (ways : List spec.Way) (last : spec.Way) → AreAmong ways (ways ++ last ∷ [])
among_more [] last way among = absurd among
among_more (first ∷ ways) last way among =
    ⊎_elim (λ (same : way ≡ first). inl same) (λ (later : Among way ways). inr (among_more ways last way later)) among

pub among_same : (ways : List spec.Way) (way other : spec.Way) → way ≡ other → Among other ways → Among way ways
among_same ways way other same among = subst (λ w. Among w ways) (sym same) among

-- what was pushed is among the ways, and so are those before
pub pushed_among : {A : Type 0} (old new : List (Way A)) (way : Way A) → new ≡ old ++ way ∷ [] → Among (way_of way) (map way_of new)
pushed_among old new way is =
    subst (λ w. Among (way_of way) (map way_of w)) (sym is) (subst (Among (way_of way)) (sym (map-append way_of old (way ∷ []))) (among_last (map way_of old) (way_of way)))

pub pushed_kept : {A : Type 0} (old new : List (Way A)) (way : Way A) → new ≡ old ++ way ∷ [] → AreAmong (map way_of old) (map way_of new)
pushed_kept old new way is =
    subst (λ w. AreAmong (map way_of old) (map way_of w)) (sym is)
    (subst (AreAmong (map way_of old)) (sym (map-append way_of old (way ∷ []))) (among_more (map way_of old) (way_of way)))

-- the same, behind a first one
pub pushed_behind : {A : Type 0} (first : Way A) (old new : List (Way A)) (way : Way A) → new ≡ old ++ way ∷ [] →
    AreAmong (way_of first ∷ map way_of old) (way_of first ∷ map way_of new)
pushed_behind first old new way is =
    λ one among. ⊎_elim (λ (same : one ≡ way_of first). inl same) (λ (later : Among one (map way_of old)). inr (pushed_kept old new way is one later)) among

pub only_among : (ways : List spec.Way) (way : spec.Way) → ways ≡ way ∷ [] → Among way ways
only_among ways way is = subst (Among way) (sym is) (inl refl)

-- ---- so far, of so many ways of a list
abbrev pub AllTaken : {A : Type 0} → (spec.Way → Type 0) → List (Way A) → ℕ → Type 0
AllTaken P ways i = (way : spec.Way) → Among way (map way_of (take i ways)) → P way

pub taken_none : {A : Type 0} (P : spec.Way → Type 0) (ways : List (Way A)) → AllTaken P ways 0
taken_none P [] way among = absurd among
taken_none P (first ∷ ways) way among = absurd among

taken_next : {A : Type 0} (P : spec.Way → Type 0) (ways : List (Way A)) (i : ℕ) (next : Way A) → i < length ways → next ≡ get_or ways i next →
    AllTaken P ways i → P (way_of next) → AllTaken P ways (suc i)
taken_next P [] i next below is all here = absurd (omega arith)
taken_next P (first ∷ ways) zero next below is all here = λ way among.
    ⊎_elim (λ (same : way ≡ way_of first). subst P (sym (same ∙ ap way_of (sym is))) here) (λ (none : Among way (map way_of (take 0 ways))). taken_none P ways way none) among
taken_next P (first ∷ ways) (suc i) next below is all here = λ way among.
    ⊎_elim
    (λ (same : way ≡ way_of first). all way (inl same))
    (λ (later : Among way (map way_of (take (suc i) ways))).
    taken_next P ways i next (omega arith) is (λ w w_among. all w (inr w_among)) here way later)
    among

pub taken_more : {A : Type 0} (P : spec.Way → Type 0) (ways all : List (Way A)) (i j : ℕ) (next : Way A) → ways ≡ all → j ≡ suc i → i < length ways →
    next ≡ get_or ways i next → AllTaken P all i → P (way_of next) → AllTaken P all j
taken_more P ways all i j next same more below is taken here =
    subst (λ k. AllTaken P all k) (sym more)
    (subst (λ w. AllTaken P w (suc i)) same
    (taken_next P ways i next below is (subst (λ w. AllTaken P w i) (sym same) taken) here))

take_whole : {A : Type 0} (ways : List (Way A)) (i : ℕ) → length ways ≤ i → take i ways ≡ ways
take_whole [] zero long = refl
take_whole [] (suc i) long = refl
take_whole (first ∷ ways) zero long = absurd (omega arith)
take_whole (first ∷ ways) (suc i) long = ap (λ w. first ∷ w) (take_whole ways i (omega arith))

pub taken_all : {A : Type 0} (P : spec.Way → Type 0) (ways : List (Way A)) (i : ℕ) → length ways ≤ i → AllTaken P ways i →
    (way : spec.Way) → Among way (map way_of ways) → P way
taken_all P ways i long taken way among = taken way (subst (λ w. Among way (map way_of w)) (sym (take_whole ways i long)) among)

-- and of one before them
pub taken_first : {A : Type 0} (P : spec.Way → Type 0) (first : Way A) (ways : List (Way A)) → P (way_of first) →
    ((way : spec.Way) → Among way (map way_of ways) → P way) → (way : spec.Way) → Among way (way_of first ∷ map way_of ways) → P way
taken_first P first ways here taken way among =
    ⊎_elim (λ (same : way ≡ way_of first). subst P (sym same) here) (λ (later : Among way (map way_of ways)). taken way later) among

-- the slot stands as it was found
abbrev pub IsFound : PlacedSlot → Placed → Type 0
IsFound found slot = (found.place ≡ slot.place) × (found.kind ≡ slot.kind)

-- ---- one way on, among more of them

pub goes_on : (item moved new : spec.Way) (bytes : List ℕ) (next : List spec.Way) → moved ≡ item → way_behind moved bytes ≡ Ok new → Among new next →
    GoesOn item bytes next
goes_on item moved new bytes next same goes among = record { next = new; goes = sym (ap (λ w. way_behind w bytes) same) ∙ goes; among = among }

pub goes_wider : (way : spec.Way) (bytes : List ℕ) (ways others : List spec.Way) → AreAmong ways others → GoesOn way bytes ways → GoesOn way bytes others
goes_wider way bytes ways others are goes = record { next = goes.next; goes = goes.goes; among = are goes.next goes.among }

pub goes_past : (guess : List ℕ) (item moved new : spec.Way) (told : PlacedSlot) (slot : Placed) (next : List spec.Way) → moved ≡ item →
    MovedPast guess moved new told → told.place ≡ slot.place → told.kind ≡ slot.kind → Among new next → GoesPast item slot next
goes_past guess item moved new told slot next same moves place kind among = record {
  found = moves.found;
  stands = sym (ap way_slot same) ∙ moves.stands;
  guess = guess;
  place = sym (ap (λ (s : PlacedSlot). s.place) moves.is) ∙ place;
  kind = sym (ap (λ (s : PlacedSlot). s.kind) moves.is) ∙ kind;
  among = subst (λ w. Among w next) (moves.past ∙ ap (λ w. past_slot w told) same ∙ ap (past_slot item) moves.is) among;
}

pub past_wider : (way : spec.Way) (slot : Placed) (ways others : List spec.Way) → AreAmong ways others → GoesPast way slot ways → GoesPast way slot others
past_wider way slot ways others are past = record {
  found = past.found;
  stands = past.stands;
  guess = past.guess;
  place = past.place;
  kind = past.kind;
  among = are (past_slot way (before past.guess past.found)) past.among;
}

-- ---- where there is one way

only : {A : Type 0} (P : spec.Way → Type 0) (first : Way A) (others : List (Way A)) → others ≡ [] → P (way_of first) →
    (way : spec.Way) → Among way (way_of first ∷ map way_of others) → P way
only P first [] none here way among = ⊎_elim (λ (same : way ≡ way_of first). subst P (sym same) here) (λ (never : ⊥). absurd never) among
only P first (other ∷ others) none here way among = absurd (cc)

pub only_goes_on : {A T F : Type 0} (first moved : Way A) (others : List (Way A)) (bytes : List ℕ) (result : Result T F) → others ≡ [] →
    OnOk result (way_behind (way_of first) bytes ≡ Ok (way_of moved)) →
    OnOk result ((way : spec.Way) → Among way (way_of first ∷ map way_of others) → GoesOn way bytes (way_of moved ∷ map way_of others))
only_goes_on first moved others bytes (Ok done) none goes =
    only (λ way. GoesOn way bytes (way_of moved ∷ map way_of others)) first others none
    (record { next = way_of moved; goes = goes; among = inl refl })
only_goes_on first moved others bytes (Err fault) none goes = tt

pub only_goes_past : {A F : Type 0} (guess : List ℕ) (first moved : Way A) (others : List (Way A)) (result : Result PlacedSlot F) → others ≡ [] →
    IfOk result (MovedPast guess (way_of first) (way_of moved)) →
    IfOk result (λ found. (slot : Placed) → found.place ≡ slot.place → found.kind ≡ slot.kind → (way : spec.Way) →
    Among way (way_of first ∷ map way_of others) → GoesPast way slot (way_of moved ∷ map way_of others))
only_goes_past guess first moved others (Ok told) none moves = λ slot place kind.
    only (λ way. GoesPast way slot (way_of moved ∷ map way_of others)) first others none
    (goes_past guess (way_of first) (way_of first) (way_of moved) told slot (way_of moved ∷ map way_of others) refl moves place kind (inl refl))
only_goes_past guess first moved others (Err fault) none moves = tt
