-- What is decided of a body is at most a fourth longer: an opening has four bytes at least, no other begins in it, and it gets one byte more.
use Rattle.std.proofs.Common.{◌≡◌, ℕ, zero, suc, ◌+◌, ◌*◌, ◌≤◌, ◌<◌, Bool, true, false, ◌==◌, List, [], ◌∷◌, ◌++◌, length, arith, length-append, inl, inr}
use Rattle.std.proofs.lemmas.Bool.Decides.{nat_tests}
use Rattle.std.proofs.lemmas.Bool.{and_parts, cases_Bool}
use Rattle.std.specs.Prelude.{IsTrue}
use Rattle.hesc_specs.specs.Bodies.Openings.{completes_opening, is_opening}
use Rattle.hesc_specs.specs.Bodies.Sessions.{decided_encoding, flushed, is_partial}
use Rattle.hesc_specs.specs.Text.Ascii.{less_than}
use Rattle.hesc_specs.specs.declared.elements.Element.{Element}

-- the text begins with so many bytes that are no `<`
abbrev IsQuiet : ℕ → List ℕ → Type 0
IsQuiet zero text = Unit {0}
IsQuiet (suc k) [] = ⊥
IsQuiet (suc k) (b ∷ text) = ((b == less_than) ≡ false) × IsQuiet k text

quiet_opening : (element : Element) (bytes : List ℕ) → completes_opening element bytes ≡ true → IsQuiet 3 bytes
quiet_opening element bytes completes = grind (arith, nat_tests)

-- each byte that is no `<` leaves a fourth
pub length-decided : (element : Element) (k : ℕ) (text : List ℕ) → IsQuiet k text → 4 * length (decided_encoding element text) + k ≤ 5 * length text
length-decided element zero [] quiet = omega arith
length-decided element (suc k) [] quiet = absurd quiet
length-decided element (suc k) (b ∷ text) quiet =
    let rest = length-decided element k text quiet.1 in
    rw quiet.0 (omega (arith, rest))
length-decided element zero (b ∷ text) quiet =
    elim (cases_Bool (is_partial element (b ∷ text))) [
      | inl partial ↦ rw partial (omega arith)
      | inr decided ↦ elim (cases_Bool (is_opening element (b ∷ text))) [
        | inl opens ↦
            let rest = length-decided element 3 text (quiet_opening element text (and_parts (b == less_than) (completes_opening element text) opens).1) in
            rw (decided, opens) (omega (arith, rest))
        | inr plain ↦
            let rest = length-decided element zero text tt in
            rw (decided, plain) (omega (arith, rest))
      ]
    ]

length-flushed : (opens : Bool) (held : List ℕ) → (IsTrue opens → 0 < length held) → length (flushed opens held) ≤ length held + 1
length-flushed opens held some = grind (arith, nat_tests)

pub most_flushed : (element : Element) (opens : Bool) (held piece : List ℕ) → (IsTrue opens → 0 < length held) → length held ≤ 8
    → 4 * length (flushed opens held ++ decided_encoding element piece) ≤ 36 + 5 * length piece
most_flushed element opens held piece some few =
    rw length-append (omega (arith, length-flushed opens held some, length-decided element zero piece tt))
