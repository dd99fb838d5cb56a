-- Which change of decoding comes first: what a `&` and the next `&` or `;` make of the changes.
use Rattle.std.proofs.Common.{◌≡◌, ℕ, zero, suc, add-zero, ◌+◌, ◌-◌, ◌≤◌, ◌<◌, List, [], ◌∷◌, ◌++◌, Bool, true, false, ◌||◌, ◌==◌, Option, Some, None, length, take, drop, refl, ap, ◌∙◌, arith}
use Rattle.std.specs.Prelude.{slice_range, slice_index}
use Rattle.std.proofs.lemmas.Bool.Decides.{nat_tests}
use Rattle.std.proofs.lemmas.List.{append-nil, drop-drop, drop_more, length-drop, length-take-le, get_or-drop}
use Rattle.std.proofs.Math.Seq.{drop-length}
use Rattle.hesc_specs.specs.Text.Ascii.{ampersand, semicolon}
use Rattle.hesc_specs.specs.References.Rows.{Row}
use Rattle.hesc_specs.specs.Text.FirstPlace.{IsFirstPlace}
use Rattle.hesc_specs.specs.References.Decoding.{body_of, body_value, reference_value, with_byte}
use Rattle.hesc_specs.specs.References.Changes.{reference_changes, reference_changes_of, with_reference}

-- the tests that a byte begins a reference, and that it ends a body
abbrev pub is_start : ℕ → Bool
is_start b = b == ampersand

abbrev pub is_stop : ℕ → Bool
is_stop b = b == ampersand || b == semicolon

start_is_stop : (b : ℕ) → is_stop b ≡ false → is_start b ≡ false
start_is_stop b h = grind (arith, nat_tests, h)

prepend : List ℕ → Option (List ℕ) → Option (List ℕ)
prepend front None = None
prepend front (Some body) = Some (front ++ body)

with_byte-prepend : (b : ℕ) (front : List ℕ) (body : Option (List ℕ)) → with_byte b (prepend front body) ≡ prepend (b ∷ front) body
unfolding prepend
with_byte-prepend b front None = refl
with_byte-prepend b front (Some body) = refl

prepend-nothing : (body : Option (List ℕ)) → body ≡ prepend [] body
unfolding prepend
prepend-nothing None = refl
prepend-nothing (Some body) = refl

-- one byte of a body
body_of-byte : (b : ℕ) (bytes : List ℕ) → is_stop b ≡ false → body_of (b ∷ bytes) ≡ with_byte b (body_of bytes)
body_of-byte b bytes h =
    let no_start : b == ampersand ≡ false = grind (arith, nat_tests, h) in
    let no_end : b == semicolon ≡ false = grind (arith, nat_tests, h) in
    rw (no_end, no_start) refl

-- the first n bytes, of which none ends a body
body_of-after : (bytes : List ℕ) (n : ℕ) → n ≤ length bytes → ((k : ℕ) → k < n → is_stop (slice_index bytes k) ≡ false)
    → body_of bytes ≡ prepend (take n bytes) (body_of (drop n bytes))
body_of-after bytes zero within before = prepend-nothing (body_of bytes)
body_of-after [] (suc n) within before = absurd (omega arith)
body_of-after (b ∷ bytes) (suc n) within before =
    body_of-byte b bytes (before 0 (omega arith))
    ∙ rw (body_of-after bytes n (omega arith) (λ k below. before (suc k) (omega arith))) (with_byte-prepend b (take n bytes) (body_of (drop n bytes)))

module _ (source : List ℕ) (from at : ℕ) (first : IsFirstPlace is_stop source from at) where
  -- the body of a `&` right before a place, by what stands at the next stop
  body_of-reached : body_of (drop from source) ≡ prepend (slice_range source from at) (body_of (drop at source))
  body_of-reached =
      let there : from + (at - from) ≡ at = omega (arith, first.ordered) in
      let skipped : body_of (drop from source) ≡ prepend (slice_range source from at) (body_of (drop (at - from) (drop from source))) =
      body_of-after (drop from source) (at - from) (omega (arith, length-drop from source, first.in_range))
      (λ k below. rw (get_or-drop from source k 0) (first.before (from + k) (omega arith) (omega arith))) in
      skipped ∙ rw (drop-drop (at - from) from source, there) refl

  pub body_of-unended : at ≡ length source → body_of (drop from source) ≡ None
  unfolding prepend
  body_of-unended is_end = body_of-reached ∙ rw (is_end, drop-length source) refl

  pub body_of-cut : at < length source → is_start (slice_index source at) ≡ true → body_of (drop from source) ≡ None
  unfolding prepend
  body_of-cut within start =
      let no_end : slice_index source at == semicolon ≡ false = grind (arith, nat_tests, start) in
      body_of-reached ∙ rw (drop_more source at 0 within, no_end, start) refl

  pub body_of-ended : at < length source → is_start (slice_index source at) ≡ false → body_of (drop from source) ≡ Some (slice_range source from at)
  unfolding prepend
  body_of-ended within no_start =
      let end : slice_index source at == semicolon ≡ true = grind (arith, nat_tests, no_start, first.found within) in
      body_of-reached ∙ rw (drop_more source at 0 within, end) (ap Some (append-nil (slice_range source from at)))

module _ (rows : List Row) where
  unchanged : (at b : ℕ) (bytes : List ℕ) → is_start b ≡ false → reference_changes_of rows at (b ∷ bytes) ≡ reference_changes_of rows (at + 1) bytes
  unchanged at b bytes h = rw h refl

  -- nothing changes in the first n bytes, of which none is a `&`
  kept : (at : ℕ) (bytes : List ℕ) (n : ℕ) → n ≤ length bytes → ((k : ℕ) → k < n → is_start (slice_index bytes k) ≡ false)
      → reference_changes_of rows at bytes ≡ reference_changes_of rows (at + n) (drop n bytes)
  kept at bytes zero within before = rw add-zero refl
  kept at [] (suc n) within before = absurd (omega arith)
  kept at (b ∷ bytes) (suc n) within before =
      let later : reference_changes_of rows (at + 1) bytes ≡ reference_changes_of rows ((at + 1) + n) (drop n bytes) =
      kept (at + 1) bytes n (omega arith) (λ k below. before (suc k) (omega arith)) in
      let there : (at + 1) + n ≡ at + suc n = omega arith in
      unchanged at b bytes (before 0 (omega arith)) ∙ rw there at later

  module _ (source : List ℕ) where
    -- nothing changes up to a place before which no `&` comes
    pub skipped : (from at : ℕ) → from ≤ at → at ≤ length source → ((k : ℕ) → from ≤ k → k < at → is_start (slice_index source k) ≡ false)
        → reference_changes rows source from ≡ reference_changes rows source at
    skipped from at ordered within before =
        let there : from + (at - from) ≡ at = omega arith in
        let here : reference_changes_of rows from (drop from source) ≡ reference_changes_of rows (from + (at - from)) (drop (at - from) (drop from source)) =
        kept from (drop from source) (at - from) (omega (arith, length-drop from source)) (λ k below. rw (get_or-drop from source k 0) (before (from + k) (omega arith) (omega arith))) in
        here ∙ rw (drop-drop (at - from) from source, there) refl

    -- after the last byte there is nothing
    pub none_at_end : (at : ℕ) → at ≡ length source → reference_changes rows source at ≡ []
    none_at_end at is_end = rw (is_end, drop-length source) refl

    module _ (start end : ℕ) (within : start < length source) (begins : is_start (slice_index source start) ≡ true) (first : IsFirstPlace is_stop source (start + 1) end) where
      -- nothing changes between a `&` and the next stop
      up_to_stop : reference_changes rows source (start + 1) ≡ reference_changes rows source end
      up_to_stop = skipped (start + 1) end first.ordered first.in_range (λ k low high. start_is_stop (slice_index source k) (first.before k low high))

      pub from_start : reference_changes rows source start
          ≡ with_reference start (body_of (drop (start + 1) source)) (reference_value rows (drop (start + 1) source)) (reference_changes rows source (start + 1))
      from_start = rw (drop_more source start 0 within, begins) refl

      module _ (inner : end < length source) (ends : is_start (slice_index source end) ≡ false) where
        pub after_end : reference_changes rows source (start + 1) ≡ reference_changes rows source (end + 1)
        after_end = up_to_stop ∙ rw (drop_more source end 0 inner, ends) refl

        -- the body has a value
        pub replaced : (value : List ℕ) → body_value rows (slice_range source (start + 1) end) ≡ Some value
            → reference_changes rows source start ≡ record { start = start; end = end + 1; bytes = value } ∷ reference_changes rows source (end + 1)
        replaced value is_value =
            let body_length : length (slice_range source (start + 1) end) ≡ end - (start + 1) =
            length-take-le (end - (start + 1)) (drop (start + 1) source) (omega (arith, length-drop (start + 1) source)) in
            let last : start + 2 + length (slice_range source (start + 1) end) ≡ end + 1 = omega (arith, first.ordered) in
            from_start ∙ rw (body_of-ended source (start + 1) end first inner ends, is_value, last) (ap (λ later. record { start = start; end = end + 1; bytes = value } ∷ later) after_end)
