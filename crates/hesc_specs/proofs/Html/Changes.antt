-- The changes of an HTML encoder: which comes first, when none is left, and that they make the encoding.
use Rattle.std.proofs.Common.{◌≡◌, ℕ, zero, suc, add-zero, ◌+◌, ◌-◌, ◌≤◌, ◌<◌, List, [], ◌∷◌, ◌++◌, Bool, true, false, length, drop, refl, ap, ◌∙◌, append_assoc, arith}
use Rattle.std.specs.Prelude.{slice_range, slice_index}
use Rattle.std.proofs.lemmas.List.{drop-drop, drop_more, length-drop, get_or-drop}
use Rattle.std.proofs.lemmas.List.Folds.{drop_split}
use Rattle.std.proofs.Math.Seq.{drop-length}
use Rattle.hesc_specs.specs.Text.Changes.{applied, html_changes, html_changes_of}
use Rattle.hesc_specs.specs.Text.Classes.{in_class}
use Rattle.hesc_specs.specs.Html.{encoding, reference_to}
use Rattle.hesc_specs.specs.Text.FirstPlace.{IsFirstPlace}
use Rattle.hesc_specs.specs.declared.classes.Class.{Class}
use Rattle.hesc_specs.proofs.Text.SliceRanges.{slice_range-more, slice_range-nothing, drop-next}

-- one byte further
unchanged-html_changes_of : (class : Class) (at b : ℕ) (bytes : List ℕ) → in_class class b ≡ false → html_changes_of class at (b ∷ bytes) ≡ html_changes_of class (at + 1) bytes
unchanged-html_changes_of class at b bytes is = rw is refl

-- nothing changes in the first n bytes, of which none is in the class
pub kept-html_changes_of : (class : Class) (at : ℕ) (bytes : List ℕ) (n : ℕ) → n ≤ length bytes → ((k : ℕ) → k < n → in_class class (slice_index bytes k) ≡ false)
    → html_changes_of class at bytes ≡ html_changes_of class (at + n) (drop n bytes)
kept-html_changes_of class at bytes zero within before = rw add-zero refl
kept-html_changes_of class at [] (suc n) within before = absurd (omega arith)
kept-html_changes_of class at (b ∷ bytes) (suc n) within before =
    let later : html_changes_of class (at + 1) bytes ≡ html_changes_of class ((at + 1) + n) (drop n bytes) =
    kept-html_changes_of class (at + 1) bytes n (omega arith) (λ k below. before (suc k) (omega arith)) in
    let there : (at + 1) + n ≡ at + suc n = omega arith in
    unchanged-html_changes_of class at b bytes (before 0 (omega arith)) ∙ rw there at later

-- the changes from a place on are those from the first place of the class on
reached-html_changes : (class : Class) (source : List ℕ) (from at : ℕ) → IsFirstPlace (in_class class) source from at → html_changes class source from ≡ html_changes class source at
reached-html_changes class source from at first =
    let there : from + (at - from) ≡ at = omega (arith, first.ordered) in
    let kept : html_changes_of class from (drop from source) ≡ html_changes_of class (from + (at - from)) (drop (at - from) (drop from source)) =
    kept-html_changes_of class from (drop from source) (at - from) (omega (arith, length-drop from source, first.in_range))
    (λ k below. rw (get_or-drop from source k 0) (first.before (from + k) (omega arith) (omega arith))) in
    kept ∙ rw (drop-drop (at - from) from source, there) refl

-- none is left where the class comes no more
pub no-html_changes : (class : Class) (source : List ℕ) (from at : ℕ) → IsFirstPlace (in_class class) source from at → at ≡ length source → html_changes class source from ≡ []
no-html_changes class source from at first is_end = reached-html_changes class source from at first ∙ rw (is_end, drop-length source) refl

-- the first is that of the first byte of the class
pub next-html_changes : (class : Class) (source : List ℕ) (from at : ℕ) → IsFirstPlace (in_class class) source from at → at < length source
    → html_changes class source from ≡ record { start = at; end = at + 1; bytes = reference_to (slice_index source at) } ∷ html_changes class source (at + 1)
next-html_changes class source from at first within =
    reached-html_changes class source from at first ∙ rw (drop_more source at 0 within, first.found within) refl

-- one byte more, by whether it is in the class
applied-step : (class : Class) (source : List ℕ) (from at b : ℕ) (bytes : List ℕ) (t : Bool) → in_class class b ≡ t → from ≤ at → drop at source ≡ b ∷ bytes
    → applied source from (html_changes_of class (at + 1) bytes) ≡ slice_range source from (at + 1) ++ encoding class bytes
    → applied source (at + 1) (html_changes_of class (at + 1) bytes) ≡ slice_range source (at + 1) (at + 1) ++ encoding class bytes
    → applied source from (html_changes_of class at (b ∷ bytes)) ≡ slice_range source from at ++ encoding class (b ∷ bytes)
applied-step class source from at b bytes true hit ordered is on next =
    let after : applied source (at + 1) (html_changes_of class (at + 1) bytes) ≡ encoding class bytes = rw (slice_range-nothing source (at + 1)) at next in
    rw (hit, after) refl
applied-step class source from at b bytes false hit ordered is on next =
    rw hit (on ∙ rw (slice_range-more source from at b bytes ordered is) (append_assoc (slice_range source from at) (b ∷ []) (encoding class bytes)))

-- the changes made, from a place before the bytes on
pub applied-html_changes_of : (class : Class) (source : List ℕ) (from at : ℕ) (bytes : List ℕ) → from ≤ at → drop at source ≡ bytes
    → applied source from (html_changes_of class at bytes) ≡ slice_range source from at ++ encoding class bytes
applied-html_changes_of class source from at [] ordered is = drop_split source from at ordered ∙ ap (λ rest. slice_range source from at ++ rest) is
applied-html_changes_of class source from at (b ∷ bytes) ordered is =
    let rest : drop (at + 1) source ≡ bytes = drop-next source at b bytes is in
    applied-step class source from at b bytes (in_class class b) refl ordered is
    (applied-html_changes_of class source from (at + 1) bytes (omega arith) rest)
    (applied-html_changes_of class source (at + 1) (at + 1) bytes (omega arith) rest)

-- the changes of an HTML encoder, made, are its encoding
pub applied-html_changes : (class : Class) (source : List ℕ) → applied source 0 (html_changes class source 0) ≡ encoding class source
applied-html_changes class source = applied-html_changes_of class source 0 0 source (omega arith) refl
