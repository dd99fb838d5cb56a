-- Parts that leave no escape open are split in parts that leave none.
use Rattle.std.proofs.Common.{◌≡◌, ℕ, ◌<◌, false, ◌==◌, List, [], ◌∷◌, ◌++◌, length, Some, unwrap_or, All, sym, refl, ap, subst, append_assoc, append-nil, arith, inl, inr}
use Rattle.std.proofs.lemmas.Bool.Decides.{nat_tests}
use Rattle.std.proofs.lemmas.Bool.{cases_Bool}
use Rattle.std.proofs.lemmas.List.Elements.{All-cons, All-head, All-nil, All-tail}
use Rattle.std.specs.Bool.{⊤}
use Rattle.form_urlencoded.specs.Form.{onto_first, split}
use Rattle.url.specs.Input.{split_once}
use Rattle.html_urls.specs.declared.place.UrlPlace.{UrlPlace}
use Rattle.html_urls.specs.Pieces.{behind_slash, onto_piece, open_path, pieces}
use Rattle.html_urls.specs.Shapes.{before_fragment_parts, from_slot, front_of, path_parts, query_parts, split_parts}
use Rattle.html_urls.specs.Slots.{Given, Markup, Slot, ends_in_escape}
use Rattle.html_urls.proofs.OpenEscapes.{ClosesEscapes, both_closed, closed_before, closed_behind, closed_markup, end_closed, later_closed}
use Rattle.html_urls.proofs.Splits.{split_some}
use Rattle.html_urls.proofs.Shapes.Fills.{Halves, clear, found, markup_split}
use Rattle.html_urls.proofs.Shapes.Fronts.{no_slot_still}
use Rattle.html_urls.proofs.Shapes.Pieces.{onto_front, onto_nothing, onto_pieces, pieces_are}

-- ---- halves

abbrev pub HalvesClose : Halves → Type 0
HalvesClose halves = ClosesEscapes halves.0 × ClosesEscapes (unwrap_or halves.1 [])

-- what stands behind the mark
after_closed : (mark : ℕ) (bytes after : List ℕ) → (split_once mark bytes).1 ≡ Some after → ends_in_escape bytes ≡ false → ends_in_escape after ≡ false
unfolding split_once
after_closed mark [] after is closed = cc
after_closed mark (b ∷ bytes) after is closed =
    elim (cases_Bool (b == mark)) [
      | inl here ↦ let same : bytes ≡ after = some_is (rw here at is) in subst (λ l. ends_in_escape l ≡ false) same (later_closed b bytes closed)
      | inr other ↦ after_closed mark bytes after (rw other at is) (later_closed b bytes closed)
    ]
  where
    some_is : Some bytes ≡ Some after → bytes ≡ after
    some_is same = cc

pub halves_close : (mark : ℕ) (parts : List Given) → ClosesEscapes parts → HalvesClose (split_parts mark parts)
halves_close mark [] closed = (refl, refl)
halves_close mark (Markup bytes ∷ []) closed = elim (markup_split mark bytes []) [ found before after is halves whole ↦ rw halves (refl, refl) | clear halves whole ↦ rw halves (refl, refl) ]
halves_close mark (Markup bytes ∷ part ∷ parts) closed =
    let later = halves_close mark (part ∷ parts) (closed_behind bytes (part ∷ parts) closed) in
    let ended = closed_markup bytes part parts closed in
    elim (markup_split mark bytes (part ∷ parts)) [
      | found before after is halves whole ↦ rw halves (refl, closed_before after (part ∷ parts) (after_closed mark bytes after is ended) (closed_behind bytes (part ∷ parts) closed))
      | clear halves whole ↦ rw halves (closed_before bytes (split_parts mark (part ∷ parts)).0 ended later.0, later.1)
    ]
halves_close mark (Slot at ∷ parts) closed = halves_close mark parts closed

-- ---- pieces

-- the last of the strings leaves none open
abbrev LastCloses : List (List ℕ) → Type 0
LastCloses [] = ⊤
LastCloses (bytes ∷ []) = ends_in_escape bytes ≡ false
LastCloses (bytes ∷ next ∷ more) = LastCloses (next ∷ more)

first_of_more : (bytes : List ℕ) (l : List (List ℕ)) → 0 < length l → LastCloses l → LastCloses (bytes ∷ l)
first_of_more bytes l some closed = grind (arith, nat_tests)

onto_both : (front : List ℕ) (b : ℕ) (l : List (List ℕ)) → onto_front (front ++ b ∷ []) l ≡ onto_front front (onto_first b l)
onto_both front b [] = refl
onto_both front b (piece ∷ more) = ap (λ p. p ∷ more) (append_assoc front (b ∷ []) piece)

last_closes : (mark : ℕ) (front bytes : List ℕ) → ends_in_escape (front ++ bytes) ≡ false → LastCloses (onto_front front (split mark bytes))
unfolding split
last_closes mark front [] closed = closed
last_closes mark front (b ∷ bytes) closed =
    elim (cases_Bool (b == mark)) [
      | inl here ↦ let later : LastCloses (onto_front [] (split mark bytes)) = last_closes mark [] bytes (later_closed b bytes (end_closed front (b ∷ bytes) closed)) in
          rw here (first_of_more (front ++ []) (split mark bytes) (split_some mark bytes) (subst LastCloses (onto_nothing (split mark bytes) (split_some mark bytes)) later))
      | inr other ↦ let later : LastCloses (onto_front (front ++ b ∷ []) (split mark bytes)) = last_closes mark (front ++ b ∷ []) bytes (subst (λ l. ends_in_escape l ≡ false) (sym (append_assoc front (b ∷ []) bytes)) closed) in
          rw other (subst LastCloses (onto_both front b (split mark bytes)) later)
    ]

nothing_behind : (l : List (List ℕ)) → All ClosesEscapes (onto_pieces l ([] ∷ []))
nothing_behind [] = All-cons ClosesEscapes [] [] refl (All-nil ClosesEscapes)
nothing_behind (bytes ∷ []) = All-cons ClosesEscapes (Markup bytes ∷ []) [] refl (All-nil ClosesEscapes)
nothing_behind (bytes ∷ next ∷ more) = All-cons ClosesEscapes (Markup bytes ∷ []) (onto_pieces (next ∷ more) ([] ∷ [])) refl (nothing_behind (next ∷ more))

markup_closes : (l : List (List ℕ)) (later : List (List Given)) → LastCloses l → All ClosesEscapes later → All ClosesEscapes (onto_pieces l later)
markup_closes [] later last all = all
markup_closes (bytes ∷ []) [] last all = All-cons ClosesEscapes (Markup bytes ∷ []) [] refl (All-nil ClosesEscapes)
markup_closes (bytes ∷ []) (piece ∷ more) last all =
    All-cons ClosesEscapes (Markup bytes ∷ piece) more (closed_before bytes piece last (All-head ClosesEscapes piece more all)) (All-tail ClosesEscapes piece more all)
markup_closes (bytes ∷ next ∷ more) later last all = All-cons ClosesEscapes (Markup bytes ∷ []) (onto_pieces (next ∷ more) later) refl (markup_closes (next ∷ more) later last all)

slot_closes : (at : UrlPlace) (l : List (List Given)) → All ClosesEscapes l → All ClosesEscapes (onto_piece (Slot at) l)
slot_closes at [] all = All-cons ClosesEscapes (Slot at ∷ []) [] refl (All-nil ClosesEscapes)
slot_closes at (piece ∷ more) all = All-cons ClosesEscapes (Slot at ∷ piece) more (All-head ClosesEscapes piece more all) (All-tail ClosesEscapes piece more all)

pub pieces_close : (mark : ℕ) (parts : List Given) → ClosesEscapes parts → All ClosesEscapes (pieces mark parts)
pieces_close mark [] closed = All-cons ClosesEscapes [] [] refl (All-nil ClosesEscapes)
pieces_close mark (Markup bytes ∷ []) closed = subst (All ClosesEscapes) (sym (pieces_are mark bytes ([] ∷ []))) (nothing_behind (split mark bytes))
pieces_close mark (Markup bytes ∷ part ∷ parts) closed =
    subst (All ClosesEscapes) (sym (pieces_are mark bytes (pieces mark (part ∷ parts))))
    (markup_closes (split mark bytes) (pieces mark (part ∷ parts))
    (subst LastCloses (onto_nothing (split mark bytes) (split_some mark bytes)) (last_closes mark [] bytes (closed_markup bytes part parts closed)))
    (pieces_close mark (part ∷ parts) (closed_behind bytes (part ∷ parts) closed)))
pieces_close mark (Slot at ∷ parts) closed = slot_closes at (pieces mark parts) (pieces_close mark parts closed)

-- ---- a query, and the path from its open segment on

pub query_closes : (parts own : List Given) → ClosesEscapes parts → query_parts parts ≡ Some own → All ClosesEscapes (pieces 38 own)
query_closes parts own closed is =
    pieces_close 38 own (subst (λ o. ClosesEscapes (unwrap_or o [])) is (halves_close 63 (before_fragment_parts parts) (halves_close 35 parts closed).0).1)

from_slot_closes : (parts : List Given) → ClosesEscapes parts → ClosesEscapes (from_slot parts)
from_slot_closes [] closed = refl
from_slot_closes (Markup bytes ∷ parts) closed = from_slot_closes parts (closed_behind bytes parts closed)
from_slot_closes (Slot at ∷ parts) closed = closed

-- the markup before the first slot
front_closes : (parts : List Given) (first : Given) (later : List Given) → ClosesEscapes parts → from_slot parts ≡ first ∷ later → ends_in_escape (front_of parts) ≡ false
front_closes [] first later closed is = cc
front_closes (Markup bytes ∷ []) first later closed is = cc
front_closes (Markup bytes ∷ part ∷ parts) first later closed is =
    both_closed bytes (front_of (part ∷ parts)) (closed_markup bytes part parts closed) (front_closes (part ∷ parts) first later (closed_behind bytes (part ∷ parts) closed) is)
front_closes (Slot at ∷ parts) first later closed is = refl

-- its last segment
behind_closes : (so_far bytes : List ℕ) → ends_in_escape (so_far ++ bytes) ≡ false → ends_in_escape (behind_slash so_far bytes) ≡ false
behind_closes so_far [] closed = subst (λ l. ends_in_escape l ≡ false) (append-nil so_far) closed
behind_closes so_far (b ∷ bytes) closed =
    elim (cases_Bool (b == 47)) [
      | inl here ↦ rw here (behind_closes [] bytes (later_closed b bytes (end_closed so_far (b ∷ bytes) closed)))
      | inr other ↦ rw other (behind_closes (so_far ++ b ∷ []) bytes (subst (λ l. ends_in_escape l ≡ false) (sym (append_assoc so_far (b ∷ []) bytes)) closed))
    ]

pub open_closes : (parts : List Given) → ClosesEscapes parts → ClosesEscapes (open_path parts)
open_closes parts closed = by_slot (from_slot parts) refl
  where
    last : List ℕ
    last = behind_slash [] (front_of parts)

    by_slot : (l : List Given) → from_slot parts ≡ l → ClosesEscapes (Markup last ∷ from_slot (path_parts parts))
    by_slot [] none = subst (λ l. ClosesEscapes (Markup last ∷ l)) (sym (no_slot_still 63 (before_fragment_parts parts) (no_slot_still 35 parts none))) refl
    by_slot (first ∷ later) is =
        closed_before last (from_slot (path_parts parts)) (behind_closes [] (front_of parts) (front_closes parts first later closed is))
        (from_slot_closes (path_parts parts) (halves_close 63 (before_fragment_parts parts) (halves_close 35 parts closed).0).0)
