-- The changes of what is decided of a body make its decided encoding.
use Rattle.std.proofs.Common.{◌≡◌, ℕ, zero, suc, ◌+◌, ◌≤◌, ◌<◌, List, [], ◌∷◌, ◌++◌, true, false, length, drop, refl, sym, ap, ◌∙◌, append_assoc, arith, inl, inr}
use Rattle.std.proofs.lemmas.Bool.Decides.{nat_tests}
use Rattle.std.specs.Prelude.{slice_range}
use Rattle.std.proofs.lemmas.Bool.{cases_Bool, cases_lt}
use Rattle.std.proofs.lemmas.List.{drop-drop}
use Rattle.std.proofs.lemmas.List.Folds.{drop_split}
use Rattle.std.proofs.Math.Seq.{drop-length}
use Rattle.hesc_specs.specs.Text.Ascii.{backslash}
use Rattle.hesc_specs.specs.Text.Changes.{applied}
use Rattle.hesc_specs.specs.Text.FirstPlace.{IsFirstAt}
use Rattle.hesc_specs.specs.Bodies.Openings.{is_opening}
use Rattle.hesc_specs.specs.Bodies.Sessions.{is_partial, partial_end, decided_encoding}
use Rattle.hesc_specs.specs.Bodies.DecidedChanges.{decided_changes, decided_changes_of, partial_at}
use Rattle.hesc_specs.specs.declared.elements.Element.{Element}
use Rattle.hesc_specs.proofs.Bodies.Decided.{partial-whole}
use Rattle.hesc_specs.proofs.Text.SliceRanges.{slice_range-more, slice_range-nothing, drop-next}

-- one byte more, by whether it is partial, or an opening begins at it
applied-step : (element : Element) (source : List ℕ) (from at b : ℕ) (bytes : List ℕ) → from ≤ at → drop at source ≡ b ∷ bytes
    → applied source from (decided_changes_of element (at + 1) bytes) ≡ slice_range source from (at + 1) ++ decided_encoding element bytes
    → applied source (at + 1) (decided_changes_of element (at + 1) bytes) ≡ slice_range source (at + 1) (at + 1) ++ decided_encoding element bytes
    → applied source from (decided_changes_of element at (b ∷ bytes)) ≡ slice_range source from at ++ decided_encoding element (b ∷ bytes)
applied-step element source from at b bytes ordered is on next =
    elim (cases_Bool (is_partial element (b ∷ bytes))) [
      | inl partial ↦
          let after : drop (at + suc (length bytes)) source ≡ [] = sym (drop-drop (suc (length bytes)) at source) ∙ rw is (drop-length (b ∷ bytes)) in
          rw (partial, after) refl
      | inr decided ↦
          rw decided
          (elim (cases_Bool (is_opening element (b ∷ bytes))) [
            | inl opens ↦
                let after : applied source (at + 1) (decided_changes_of element (at + 1) bytes) ≡ decided_encoding element bytes = rw (slice_range-nothing source (at + 1)) at next in
                rw (opens, after, slice_range-more source from at b bytes ordered is)
                (append_assoc (slice_range source from at) (b ∷ []) (backslash ∷ decided_encoding element bytes))
            | inr plain ↦
                rw plain (on ∙ rw (slice_range-more source from at b bytes ordered is) (append_assoc (slice_range source from at) (b ∷ []) (decided_encoding element bytes)))
          ])
    ]

-- the changes made, from a place before the bytes on
applied-changes_of : (element : Element) (source : List ℕ) (from at : ℕ) (bytes : List ℕ) → from ≤ at → drop at source ≡ bytes
    → applied source from (decided_changes_of element at bytes) ≡ slice_range source from at ++ decided_encoding element bytes
applied-changes_of element source from at [] ordered is = drop_split source from at ordered ∙ ap (λ rest. slice_range source from at ++ rest) is
applied-changes_of element source from at (b ∷ bytes) ordered is =
    let rest : drop (at + 1) source ≡ bytes = drop-next source at b bytes is in
    applied-step element source from at b bytes ordered is
    (applied-changes_of element source from (at + 1) bytes (omega arith) rest)
    (applied-changes_of element source (at + 1) (at + 1) bytes (omega arith) rest)

-- the changes, made, are the decided encoding
pub applied-decided_changes : (element : Element) (source : List ℕ) → applied source 0 (decided_changes element source 0) ≡ decided_encoding element source
applied-decided_changes element source = applied-changes_of element source 0 0 source (omega arith) refl

end-at : (element : Element) (text : List ℕ) (n : ℕ) → n ≤ length text → ((k : ℕ) → k < n → is_partial element (drop k text) ≡ false)
    → is_partial element (drop n text) ≡ true → partial_end element text ≡ drop n text
end-at element text zero within decided partial = partial-whole element text partial
end-at element [] (suc n) within decided partial = absurd (omega arith)
end-at element (b ∷ text) (suc n) within decided partial =
    rw (decided 0 (omega arith)) (end-at element text n (omega arith) (λ k below. decided (suc k) (omega arith)) partial)

-- where the partial end begins
pub partial_end-place : (element : Element) (text : List ℕ) (end : ℕ) → IsFirstAt (partial_at element text) 0 (length text) end
    → partial_end element text ≡ drop end text
partial_end-place element text end first = grind (arith, nat_tests, end-at, cases_lt, drop-length)
