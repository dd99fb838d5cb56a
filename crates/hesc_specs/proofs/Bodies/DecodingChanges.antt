-- The changes of a body decoder: which comes first, when none is left, and that they make the decoding.
use Rattle.std.proofs.Common.{◌≡◌, ℕ, zero, suc, add-zero, ◌+◌, ◌-◌, ◌≤◌, ◌<◌, List, [], ◌∷◌, ◌++◌, Bool, true, false, length, drop, refl, ap, ◌∙◌, append_assoc, arith, inl, inr}
use Rattle.std.proofs.lemmas.Bool.Decides.{nat_tests}
use Rattle.std.specs.Prelude.{slice_range, slice_index}
use Rattle.std.proofs.lemmas.Bool.{cases_lt}
use Rattle.std.proofs.lemmas.List.{drop_more}
use Rattle.std.proofs.lemmas.List.Folds.{drop_split}
use Rattle.std.proofs.Math.Seq.{drop-length}
use Rattle.hesc_specs.specs.Text.Ascii.{less_than, backslash}
use Rattle.hesc_specs.specs.Bodies.Encoding.{body_decoding, body_decoding_after, nothing_before}
use Rattle.hesc_specs.specs.Bodies.Changes.{body_decoding_changes, body_decoding_changes_of, byte_before}
use Rattle.hesc_specs.specs.Text.Changes.{applied}
use Rattle.hesc_specs.specs.Text.FirstPlace.{IsFirstAt}
use Rattle.hesc_specs.specs.Bodies.Openings.{is_escaped_opening, opens_escaped_at}
use Rattle.hesc_specs.specs.declared.elements.Element.{Element}
use Rattle.hesc_specs.proofs.Text.SliceRanges.{slice_range-more, drop-next}
use Rattle.hesc_specs.proofs.Bodies.Openings.{escaped-parts}

-- the byte at a place is the second of an escaped opening
abbrev is_dropped : Element → List ℕ → ℕ → Bool
is_dropped element source place = is_escaped_opening element (byte_before source place ∷ drop place source)

pub byte_before-more : (source : List ℕ) (at : ℕ) → byte_before source (at + 1) ≡ slice_index source at
byte_before-more source at = let there : at + 1 ≡ suc at = omega arith in rw there refl

-- one byte further, where none is dropped
kept-one : (element : Element) (source : List ℕ) (at : ℕ) → at < length source → is_dropped element source at ≡ false
    → body_decoding_changes element source at ≡ body_decoding_changes element source (at + 1)
kept-one element source at within plain = grind (arith, nat_tests, drop_more, byte_before-more)

kept-many : (element : Element) (source : List ℕ) (from n : ℕ) → from + n ≤ length source → ((k : ℕ) → from ≤ k → k < from + n → is_dropped element source k ≡ false)
    → body_decoding_changes element source from ≡ body_decoding_changes element source (from + n)
kept-many element source from zero within before = rw add-zero refl
kept-many element source from (suc n) within before =
    let there : (from + 1) + n ≡ from + suc n = omega arith in
    kept-one element source from (omega arith) (before from (omega arith) (omega arith))
    ∙ rw there at (kept-many element source (from + 1) n (omega arith) (λ k after below. before k (omega arith) (omega arith)))

-- the first byte of a text is none
first-kept : (element : Element) (source : List ℕ) → is_dropped element source 0 ≡ false
first-kept element source = grind (arith, nat_tests)

-- a byte is the second of the escaped opening that begins before it
dropped-opens : (element : Element) (source : List ℕ) (place : ℕ) → place < length source → is_dropped element source (place + 1) ≡ opens_escaped_at element source place
dropped-opens element source place within = rw (byte_before-more source place, drop_more source place 0 within) refl

kept-before : (element : Element) (source : List ℕ) (from place : ℕ) → IsFirstAt (opens_escaped_at element source) (from - 1) (length source) place
    → (k : ℕ) → from ≤ k → k < place + 1 → k ≤ length source → is_dropped element source k ≡ false
kept-before element source from place first zero after below within = first-kept element source
kept-before element source from place first (suc k) after below within =
    let there : k + 1 ≡ suc k = omega arith in
    rw there at (dropped-opens element source k (omega arith)) ∙ first.before k (omega arith) (omega arith)

-- the changes from a place on are those from another, where no byte between is dropped
reached-changes : (element : Element) (source : List ℕ) (from at : ℕ) → from ≤ at → at ≤ length source → ((k : ℕ) → from ≤ k → k < at → is_dropped element source k ≡ false)
    → body_decoding_changes element source from ≡ body_decoding_changes element source at
reached-changes element source from at ordered within before =
    let there : from + (at - from) ≡ at = omega arith in
    rw there at (kept-many element source from (at - from) (omega arith) (λ k after below. before k after (omega arith)))

-- none is left where no escaped opening begins any more, from the byte before on
pub no-body_decoding_changes : (element : Element) (source : List ℕ) (from place : ℕ) → from ≤ length source
    → IsFirstAt (opens_escaped_at element source) (from - 1) (length source) place → place ≡ length source → body_decoding_changes element source from ≡ []
no-body_decoding_changes element source from place within first is_end =
    reached-changes element source from (length source) within (omega arith)
    (λ k after below. kept-before element source from place first k after (omega arith) (omega arith))
    ∙ rw (drop-length source) refl

-- the first is that of the first escaped opening
pub next-body_decoding_changes : (element : Element) (source : List ℕ) (from place : ℕ) → from ≤ place + 1 → place + 1 < length source
    → IsFirstAt (opens_escaped_at element source) (from - 1) (length source) place
    → body_decoding_changes element source from
    ≡ record { start = place + 1; end = (place + 1) + 1; bytes = [] } ∷ body_decoding_changes element source ((place + 1) + 1)
next-body_decoding_changes element source from place ordered within first =
    let escaped : is_dropped element source (place + 1) ≡ true = dropped-opens element source place (omega arith) ∙ first.found (omega arith) in
    let rest : drop (place + 1) source ≡ slice_index source (place + 1) ∷ drop ((place + 1) + 1) source = drop_more source (place + 1) 0 within in
    reached-changes element source from (place + 1) ordered (omega arith)
    (λ k after below. kept-before element source from place first k after below (omega arith))
    ∙ rw (rest, byte_before-more source (place + 1)) (rw (rw rest at escaped) refl)

-- what an escaped opening is made of
pub escaped-bytes : (element : Element) (source : List ℕ) (place : ℕ) → place < length source → opens_escaped_at element source place ≡ true
    → (slice_index source place ≡ less_than) × ((slice_index source (place + 1) ≡ backslash) × (place + 1 < length source))
escaped-bytes element source place within escaped =
    elim (cases_lt (place + 1) (length source)) [
      | inl inside ↦
          let all : drop place source ≡ slice_index source place ∷ slice_index source (place + 1) ∷ drop ((place + 1) + 1) source =
          drop_more source place 0 within ∙ ap (λ rest. slice_index source place ∷ rest) (drop_more source (place + 1) 0 inside) in
          let parts = escaped-parts element (slice_index source place) (slice_index source (place + 1)) (drop ((place + 1) + 1) source) (rw all at escaped) in
          (parts.0, (parts.1.0, inside))
      | inr past ↦
          let ends : place + 1 ≡ length source = omega arith in
          let clash : false ≡ true = rw (drop_more source place 0 within, ends, drop-length source) at escaped in cc
    ]

-- one byte more, by whether it is dropped
applied-step : (element : Element) (source : List ℕ) (before from at b : ℕ) (bytes : List ℕ) (t : Bool) → is_escaped_opening element (before ∷ b ∷ bytes) ≡ t
    → from ≤ at → drop at source ≡ b ∷ bytes
    → applied source from (body_decoding_changes_of element b (at + 1) bytes) ≡ slice_range source from (at + 1) ++ body_decoding_after element b bytes
    → applied source (at + 1) (body_decoding_changes_of element b (at + 1) bytes) ≡ slice_range source (at + 1) (at + 1) ++ body_decoding_after element b bytes
    → applied source from (body_decoding_changes_of element before at (b ∷ bytes)) ≡ slice_range source from at ++ body_decoding_after element before (b ∷ bytes)
applied-step element source before from at b bytes true escaped ordered is on next =
    let nothing : (at + 1) - (at + 1) ≡ 0 = omega arith in
    let after : applied source (at + 1) (body_decoding_changes_of element b (at + 1) bytes) ≡ body_decoding_after element b bytes = rw nothing at next in
    rw (escaped, after) refl
applied-step element source before from at b bytes false plain ordered is on next =
    rw plain (on ∙ rw (slice_range-more source from at b bytes ordered is) (append_assoc (slice_range source from at) (b ∷ []) (body_decoding_after element b bytes)))

-- the changes made, from a place before the bytes on
applied-changes_of : (element : Element) (source : List ℕ) (before from at : ℕ) (bytes : List ℕ) → from ≤ at → drop at source ≡ bytes
    → applied source from (body_decoding_changes_of element before at bytes) ≡ slice_range source from at ++ body_decoding_after element before bytes
applied-changes_of element source before from at [] ordered is = drop_split source from at ordered ∙ ap (λ rest. slice_range source from at ++ rest) is
applied-changes_of element source before from at (b ∷ bytes) ordered is =
    let rest : drop (at + 1) source ≡ bytes = drop-next source at b bytes is in
    applied-step element source before from at b bytes (is_escaped_opening element (before ∷ b ∷ bytes)) refl ordered is
    (applied-changes_of element source b from (at + 1) bytes (omega arith) rest)
    (applied-changes_of element source b (at + 1) (at + 1) bytes (omega arith) rest)

-- the changes of a body decoder, made, are its decoding
pub applied-body_decoding_changes : (element : Element) (source : List ℕ) → applied source 0 (body_decoding_changes element source 0) ≡ body_decoding element source
applied-body_decoding_changes element source = applied-changes_of element source nothing_before 0 0 source (omega arith) refl
