-- The changes of a string decoder: which comes next, and that they make the decoding.
use Rattle.std.proofs.Common.{◌≡◌, ℕ, zero, suc, add-zero, ◌+◌, ◌-◌, ◌≤◌, ◌<◌, List, [], ◌∷◌, ◌++◌, Bool, false, ◌==◌, Some, None, length, drop, encode_utf8, refl, sym, ap, ◌∙◌, append_assoc, arith, inl, inr}
use Rattle.std.specs.Prelude.{slice_range, slice_index}
use Rattle.std.proofs.lemmas.Bool.{cases_lt}
use Rattle.std.proofs.lemmas.List.{drop_more, drop_all, drop-drop}
use Rattle.std.proofs.lemmas.List.Folds.{drop_split}
use Rattle.hesc_specs.specs.Text.Ascii.{less_than, backslash}
use Rattle.hesc_specs.specs.Text.Changes.{applied}
use Rattle.hesc_specs.specs.Strings.Changes.{noted, is_after_less, string_decoding_changes, string_decoding_changes_of}
use Rattle.hesc_specs.specs.Strings.Tokens.{Escape, escape, escape_at, valued, string_decoding, string_decoding_after}
use Rattle.hesc_specs.specs.declared.elements.Element.{Element}
use Rattle.hesc_specs.specs.declared.quotes.Quotes.{Quotes}
use Rattle.hesc_specs.proofs.Bodies.DecodingChanges.{byte_before-more}
use Rattle.hesc_specs.proofs.Text.SliceRanges.{slice_range-more, drop-next}

module _ (element : Element) (quotes : Quotes) (source : List ℕ) where
  -- one byte further, where no escape begins
  plain-one : (at : ℕ) → at < length source → escape_at element quotes (is_after_less source at) (slice_index source at) (drop (at + 1) source) ≡ None
      → string_decoding_changes element quotes source at ≡ string_decoding_changes element quotes source (at + 1)
  plain-one at within plain = rw (drop_more source at 0 within, byte_before-more source at) (rw plain refl)

  -- a byte that is no `\` begins no escape
  no-escape : (after_less : Bool) (b : ℕ) (bytes : List ℕ) → (b == backslash) ≡ false → escape_at element quotes after_less b bytes ≡ None
  no-escape after_less b bytes other = rw other refl

  plain-many : (from n : ℕ) → from + n ≤ length source → ((k : ℕ) → from ≤ k → k < from + n → (slice_index source k == backslash) ≡ false)
      → string_decoding_changes element quotes source from ≡ string_decoding_changes element quotes source (from + n)
  plain-many from zero within before = rw add-zero refl
  plain-many from (suc n) within before =
      let there : (from + 1) + n ≡ from + suc n = omega arith in
      plain-one from (omega arith) (no-escape (is_after_less source from) (slice_index source from) (drop (from + 1) source) (before from (omega arith) (omega arith)))
      ∙ rw there at (plain-many (from + 1) n (omega arith) (λ k after below. before k (omega arith) (omega arith)))

  -- the changes from a place on are those from another, where no `\` stands between
  pub reached-string_decoding_changes : (from at : ℕ) → from ≤ at → at ≤ length source → ((k : ℕ) → from ≤ k → k < at → (slice_index source k == backslash) ≡ false)
      → string_decoding_changes element quotes source from ≡ string_decoding_changes element quotes source at
  reached-string_decoding_changes from at ordered within before =
      let there : from + (at - from) ≡ at = omega arith in
      rw there at (plain-many from (at - from) (omega arith) (λ k after below. before k after (omega arith)))

  -- a `\` that begins no escape is passed over
  pub passed-string_decoding_changes : (at : ℕ) → at < length source → slice_index source at ≡ backslash
      → escape element quotes (is_after_less source at) (drop (at + 1) source) ≡ None
      → string_decoding_changes element quotes source at ≡ string_decoding_changes element quotes source (at + 1)
  passed-string_decoding_changes at within is plain = plain-one at within (rw is plain)

  pub no-string_decoding_changes : (at : ℕ) → length source ≤ at → string_decoding_changes element quotes source at ≡ []
  no-string_decoding_changes at past = rw (drop_all at source past) refl

  -- after the bytes of a token the cut goes on as if it began there
  after-token : (more at : ℕ) → string_decoding_changes_of element quotes at more (is_after_less source at) (drop at source) ≡ string_decoding_changes element quotes source (at + more)
  after-token zero at = rw add-zero refl
  after-token (suc more) at =
      elim (cases_lt at (length source)) [
        | inl within ↦
            let there : (at + 1) + more ≡ at + suc more = omega arith in
            rw (drop_more source at 0 within, ← byte_before-more source at) (rw there at (after-token more (at + 1)))
        | inr past ↦ rw (drop_all at source (omega arith), no-string_decoding_changes (at + suc more) (omega arith)) refl
      ]

  -- the first is that of a `\` that begins an escape
  pub next-string_decoding_changes : (at more character : ℕ) → at < length source → slice_index source at ≡ backslash
      → escape element quotes (is_after_less source at) (drop (at + 1) source) ≡ Some (more, character)
      → string_decoding_changes element quotes source at
      ≡ record { start = at; end = at + 1 + more; bytes = encode_utf8 character } ∷ string_decoding_changes element quotes source (at + 1 + more)
  next-string_decoding_changes at more character within is escapes =
      rw (drop_more source at 0 within, is) (rw escapes
      (ap (λ rest. record { start = at; end = at + 1 + more; bytes = encode_utf8 character } ∷ rest)
      (rw (byte_before-more source at, is) at (after-token more (at + 1)))))

  -- a stretch that ends where it begins, or before
  nothing-between : (from at : ℕ) → at ≤ from → slice_range source from at ≡ []
  nothing-between from at past = let nothing : at - from ≡ 0 = omega arith in rw nothing refl

  -- what is after the first byte of a token, from the end of the last change on
  abbrev GoesOn : ℕ → Bool → List ℕ → Type 0
  GoesOn at after_less bytes = (from more : ℕ) → from ≤ at + more → (0 < more → from ≡ at + more)
      → applied source from (string_decoding_changes_of element quotes at more after_less bytes) ≡ slice_range source from at ++ string_decoding_after element quotes more after_less bytes

  -- one token more, by whether it is an escape
  applied-token : (from at b : ℕ) (bytes : List ℕ) (token : Escape) → from ≤ at → drop at source ≡ b ∷ bytes → GoesOn (at + 1) (b == less_than) bytes
      → applied source from (noted at token (λ more. string_decoding_changes_of element quotes (at + 1) more (b == less_than) bytes))
      ≡ slice_range source from at ++ valued b token (λ more. string_decoding_after element quotes more (b == less_than) bytes)
  applied-token from at b bytes None ordered is goes_on =
      goes_on from 0 (omega arith) (λ some. absurd (omega arith))
      ∙ rw (slice_range-more source from at b bytes ordered is) (append_assoc (slice_range source from at) (b ∷ []) (string_decoding_after element quotes 0 (b == less_than) bytes))
  applied-token from at b bytes (Some e) ordered is goes_on =
      ap (λ rest. slice_range source from at ++ (encode_utf8 e.1 ++ rest))
      (goes_on (at + 1 + e.0) e.0 (omega arith) (λ some. refl) ∙ rw (nothing-between (at + 1 + e.0) (at + 1) (omega arith)) refl)

  -- the changes made, from a place before the bytes on, or from the end of the token that the bytes begin in
  applied-changes_of : (from at more : ℕ) (after_less : Bool) (bytes : List ℕ) → from ≤ at + more → (0 < more → from ≡ at + more) → drop at source ≡ bytes
      → applied source from (string_decoding_changes_of element quotes at more after_less bytes) ≡ slice_range source from at ++ string_decoding_after element quotes more after_less bytes
  applied-changes_of from at zero after_less [] ordered inside is = drop_split source from at (omega arith) ∙ ap (λ rest. slice_range source from at ++ rest) is
  applied-changes_of from at (suc more) after_less [] ordered inside is =
      let end : at + suc more ≡ from = sym (inside (omega arith)) in
      let rest : drop (suc more) (drop at source) ≡ drop from source = drop-drop (suc more) at source ∙ rw end refl in
      sym rest ∙ rw (is, nothing-between from at (omega arith)) refl
  applied-changes_of from at (suc more) after_less (b ∷ bytes) ordered inside is =
      let end : from ≡ at + suc more = inside (omega arith) in
      applied-changes_of from (at + 1) more (b == less_than) bytes (omega arith) (λ some. omega arith) (drop-next source at b bytes is)
      ∙ rw (nothing-between from (at + 1) (omega arith), nothing-between from at (omega arith)) refl
  applied-changes_of from at zero after_less (b ∷ bytes) ordered inside is =
      applied-token from at b bytes (escape_at element quotes after_less b bytes) (omega arith) is
      (λ from more ordered inside. applied-changes_of from (at + 1) more (b == less_than) bytes ordered inside (drop-next source at b bytes is))

  -- the changes of a string decoder, made, are its decoding
  pub applied-string_decoding_changes : applied source 0 (string_decoding_changes element quotes source 0) ≡ string_decoding element quotes source
  applied-string_decoding_changes = applied-changes_of 0 0 0 false source (omega arith) (λ some. refl) refl
