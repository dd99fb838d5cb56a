-- The changes of a body encoder: which comes first, when none is left, and that they make the encoding.
use Rattle.std.proofs.Common.{◌≡◌, ℕ, zero, suc, add-zero, ◌+◌, ◌-◌, ◌≤◌, ◌<◌, List, [], ◌∷◌, ◌++◌, Bool, true, false, length, drop, refl, ap, ◌∙◌, append_assoc, arith}
use Rattle.std.proofs.lemmas.Bool.Decides.{nat_tests}
use Rattle.std.specs.Prelude.{slice_range, slice_index}
use Rattle.std.proofs.lemmas.List.{drop-drop, drop_more, length-drop}
use Rattle.std.proofs.lemmas.List.Folds.{drop_split}
use Rattle.std.proofs.Math.Seq.{drop-length}
use Rattle.hesc_specs.specs.Text.Ascii.{less_than, backslash}
use Rattle.hesc_specs.specs.Bodies.Encoding.{body_encoding}
use Rattle.hesc_specs.specs.Bodies.Changes.{body_encoding_changes, body_encoding_changes_of}
use Rattle.hesc_specs.specs.Text.Changes.{applied}
use Rattle.hesc_specs.specs.Text.FirstPlace.{IsFirstAt}
use Rattle.hesc_specs.specs.Bodies.Openings.{is_opening, opens_at}
use Rattle.hesc_specs.specs.declared.elements.Element.{Element}
use Rattle.hesc_specs.proofs.Text.SliceRanges.{slice_range-more, drop-next}

-- no opening begins at the first n places
kept-changes_of : (element : Element) (at : ℕ) (bytes : List ℕ) (n : ℕ) → n ≤ length bytes → ((k : ℕ) → k < n → is_opening element (drop k bytes) ≡ false)
    → body_encoding_changes_of element at bytes ≡ body_encoding_changes_of element (at + n) (drop n bytes)
kept-changes_of element at bytes zero within before = rw add-zero refl
kept-changes_of element at [] (suc n) within before = absurd (omega arith)
kept-changes_of element at (b ∷ bytes) (suc n) within before =
    let later : body_encoding_changes_of element (at + 1) bytes ≡ body_encoding_changes_of element ((at + 1) + n) (drop n bytes) =
    kept-changes_of element (at + 1) bytes n (omega arith) (λ k below. before (suc k) (omega arith)) in
    let there : (at + 1) + n ≡ at + suc n = omega arith in
    rw (before 0 (omega arith)) (rw there at later)

-- the changes from a place on are those from the first opening on
reached-changes : (element : Element) (source : List ℕ) (from at : ℕ) → IsFirstAt (opens_at element source) from (length source) at
    → body_encoding_changes element source from ≡ body_encoding_changes element source at
reached-changes element source from at first =
    let there : from + (at - from) ≡ at = omega (arith, first.ordered) in
    kept-changes_of element from (drop from source) (at - from) (omega (arith, length-drop from source, first.in_range))
    (λ k below. rw (drop-drop k from source) (first.before (from + k) (omega arith) (omega arith)))
    ∙ rw (drop-drop (at - from) from source, there) refl

-- none is left where no opening begins any more
pub no-body_encoding_changes : (element : Element) (source : List ℕ) (from at : ℕ) → IsFirstAt (opens_at element source) from (length source) at
    → at ≡ length source → body_encoding_changes element source from ≡ []
no-body_encoding_changes element source from at first is_end = reached-changes element source from at first ∙ rw (is_end, drop-length source) refl

-- the first is that of the first opening
pub next-body_encoding_changes : (element : Element) (source : List ℕ) (from at : ℕ) → IsFirstAt (opens_at element source) from (length source) at → at < length source
    → body_encoding_changes element source from ≡ record { start = at + 1; end = at + 1; bytes = backslash ∷ [] } ∷ body_encoding_changes element source (at + 1)
next-body_encoding_changes element source from at first within =
    reached-changes element source from at first
    ∙ rw (drop_more source at 0 within) (rw (rw (drop_more source at 0 within) at (first.found within)) refl)

-- an opening begins with a `<`
pub opening-byte : (element : Element) (source : List ℕ) (place : ℕ) → place < length source → opens_at element source place ≡ true → slice_index source place ≡ less_than
opening-byte element source place within opens = grind (arith, nat_tests, drop_more)

-- one byte more, by whether an opening begins at it
applied-step : (element : Element) (source : List ℕ) (from at b : ℕ) (bytes : List ℕ) (t : Bool) → is_opening element (b ∷ bytes) ≡ t → from ≤ at → drop at source ≡ b ∷ bytes
    → applied source from (body_encoding_changes_of element (at + 1) bytes) ≡ slice_range source from (at + 1) ++ body_encoding element bytes
    → applied source (at + 1) (body_encoding_changes_of element (at + 1) bytes) ≡ slice_range source (at + 1) (at + 1) ++ body_encoding element bytes
    → applied source from (body_encoding_changes_of element at (b ∷ bytes)) ≡ slice_range source from at ++ body_encoding element (b ∷ bytes)
applied-step element source from at b bytes true opens ordered is on next =
    let nothing : (at + 1) - (at + 1) ≡ 0 = omega arith in
    let after : applied source (at + 1) (body_encoding_changes_of element (at + 1) bytes) ≡ body_encoding element bytes = rw nothing at next in
    rw (opens, after, slice_range-more source from at b bytes ordered is)
    (append_assoc (slice_range source from at) (b ∷ []) (backslash ∷ body_encoding element bytes))
applied-step element source from at b bytes false plain ordered is on next =
    rw plain (on ∙ rw (slice_range-more source from at b bytes ordered is) (append_assoc (slice_range source from at) (b ∷ []) (body_encoding element bytes)))

-- the changes made, from a place before the bytes on
applied-changes_of : (element : Element) (source : List ℕ) (from at : ℕ) (bytes : List ℕ) → from ≤ at → drop at source ≡ bytes
    → applied source from (body_encoding_changes_of element at bytes) ≡ slice_range source from at ++ body_encoding element bytes
applied-changes_of element source from at [] ordered is = drop_split source from at ordered ∙ ap (λ rest. slice_range source from at ++ rest) is
applied-changes_of element source from at (b ∷ bytes) ordered is =
    let rest : drop (at + 1) source ≡ bytes = drop-next source at b bytes is in
    applied-step element source from at b bytes (is_opening element (b ∷ bytes)) refl ordered is
    (applied-changes_of element source from (at + 1) bytes (omega arith) rest)
    (applied-changes_of element source (at + 1) (at + 1) bytes (omega arith) rest)

-- the changes of a body encoder, made, are its encoding
pub applied-body_encoding_changes : (element : Element) (source : List ℕ) → applied source 0 (body_encoding_changes element source 0) ≡ body_encoding element source
applied-body_encoding_changes element source = applied-changes_of element source 0 0 source (omega arith) refl
