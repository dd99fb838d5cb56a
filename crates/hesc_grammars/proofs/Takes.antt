-- Pieces of a place that its grammar takes whole, whatever follows them.
use Rattle.std.proofs.Common.{ℕ, ◌≡◌, ◌+◌, List, [], ◌∷◌, ◌++◌, Option, Some, None, length, encode_utf8, refl, sym, ◌∙◌, ap, append_assoc, append-nil, add_assoc, zero-add, add-zero, length-append, arith}
use Rattle.hesc_grammars.specs.declared.step.Mode.{Mode}
use Rattle.hesc_grammars.specs.declared.step.Step.{Step}
use Rattle.hesc_grammars.specs.declared.step.Step.TheVariants.{Byte, Character}
use Rattle.hesc_grammars.specs.Reading.{after, reading_after}

pub after-nothing : (reading : Option (List ℕ × ℕ)) → after [] 0 reading ≡ reading
after-nothing None = refl
after-nothing (Some r) = rw (zero-add r.1) refl

pub after-after : (v w : List ℕ) (m n : ℕ) (reading : Option (List ℕ × ℕ)) →
    after v m (after w n reading) ≡ after (v ++ w) (m + n) reading
after-after v w m n None = refl
after-after v w m n (Some r) = rw (append_assoc v w r.0, add_assoc m n r.1) refl

-- the further bytes of an item are passed over
passes_over : (step : Mode → List ℕ → Step) (mode : Mode) (tail rest : List ℕ) →
    reading_after step (length tail) mode (tail ++ rest) ≡ after [] (length tail) (reading_after step 0 mode rest)
passes_over step mode [] rest = sym (after-nothing (reading_after step 0 mode rest))
passes_over step mode (b ∷ tail) rest =
    let following : Option (List ℕ × ℕ) = reading_after step 0 mode rest in
    ap (after [] 1) (passes_over step mode tail rest) ∙
    (after-after [] [] 1 (length tail) following ∙ ap (λ n. after [] n following) (omega arith))

-- whatever follows, the piece is read as the value, and the reading goes on in the next mode
pub record Takes (step : Mode → List ℕ → Step) (mode : Mode) (piece value : List ℕ) (next : Mode) : Type 0 where
  pub goes_on : (rest : List ℕ) →
      reading_after step 0 mode (piece ++ rest) ≡ after value (length piece) (reading_after step 0 next rest)

pub takes_nothing : {step : Mode → List ℕ → Step} {mode : Mode} → Takes step mode [] [] mode
takes_nothing {step} {mode} = record { goes_on = λ rest. sym (after-nothing (reading_after step 0 mode rest)) }

-- one piece and then another
pub takes_both : {step : Mode → List ℕ → Step} {a b c : Mode} {p v q w : List ℕ} →
    Takes step a p v b → Takes step b q w c → Takes step a (p ++ q) (v ++ w) c
takes_both {step} {c = c} {p} {v} {q} {w} first second = record {
  goes_on = λ rest.
      rw (
        append_assoc p q rest,
        first.goes_on (q ++ rest),
        second.goes_on rest,
        after-after v w (length p) (length q) (reading_after step 0 c rest),
        length-append p q,
      ) refl;
}

-- an item of one byte
pub takes_byte : {step : Mode → List ℕ → Step} {mode next : Mode} {b c : ℕ} →
    ((rest : List ℕ) → step mode (b ∷ rest) ≡ Byte 0 c next) → Takes step mode (b ∷ []) (c ∷ []) next
takes_byte found = record { goes_on = λ rest. rw (found rest) refl }

-- an item of one byte that is found by the piece after it
pub takes_byte_before : {step : Mode → List ℕ → Step} {mode next end : Mode} {b c : ℕ} {tail value : List ℕ} →
    ((rest : List ℕ) → step mode (b ∷ tail ++ rest) ≡ Byte 0 c next) →
    Takes step next tail value end → Takes step mode (b ∷ tail) (c ∷ value) end
takes_byte_before {step} {end = end} {c = c} {tail} {value} found following = record {
  goes_on = λ rest.
      let further : Option (List ℕ × ℕ) = reading_after step 0 end rest in
      rw (found rest, following.goes_on rest, after-after (c ∷ []) value 1 (length tail) further)
      (ap (λ n. after (c ∷ value) n further) (omega arith));
}

-- an item of two bytes that is read as one
pub takes_two : {step : Mode → List ℕ → Step} {mode next : Mode} {b c d : ℕ} →
    ((rest : List ℕ) → step mode (b ∷ c ∷ rest) ≡ Byte 1 d next) → Takes step mode (b ∷ c ∷ []) (d ∷ []) next
takes_two {step} {next = next} {d = d} found = record {
  goes_on = λ rest. rw (found rest, after-after (d ∷ []) [] 1 1 (reading_after step 0 next rest)) refl;
}

-- an item that is read as a character, before these bytes
pub reads_character : (step : Mode → List ℕ → Step) {mode next : Mode} {b : ℕ} (tail rest : List ℕ) (c : ℕ) →
    step mode (b ∷ tail ++ rest) ≡ Character (length tail) c next →
    reading_after step 0 mode (b ∷ tail ++ rest) ≡ after (encode_utf8 c) (length (b ∷ tail)) (reading_after step 0 next rest)
reads_character step {next = next} tail rest c found =
    let following : Option (List ℕ × ℕ) = reading_after step 0 next rest in
    rw (
      found,
      passes_over step next tail rest,
      after-after (encode_utf8 c) [] 1 (length tail) following,
      append-nil (encode_utf8 c),
    )
    (ap (λ n. after (encode_utf8 c) n following) (omega arith))

-- the same, whatever follows
pub takes_character : {step : Mode → List ℕ → Step} {mode next : Mode} {b : ℕ} {tail : List ℕ} (c : ℕ) →
    ((rest : List ℕ) → step mode (b ∷ tail ++ rest) ≡ Character (length tail) c next) →
    Takes step mode (b ∷ tail) (encode_utf8 c) next
takes_character {step} {tail = tail} c found = record { goes_on = λ rest. reads_character step tail rest c (found rest) }

-- a piece right before the end is the whole reading
pub takes_to_end : {step : Mode → List ℕ → Step} {a b : Mode} {piece value : List ℕ} (close : List ℕ) →
    Takes step a piece value b → reading_after step 0 b close ≡ Some ([], 0) →
    reading_after step 0 a (piece ++ close) ≡ Some (value, length piece)
takes_to_end {piece = piece} {value} close takes ends =
    rw (takes.goes_on close, ends, append-nil value, add-zero (length piece)) refl
