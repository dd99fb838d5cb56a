-- Openings: bytes complete one exactly if their encoding does, and their decoding after a byte that is no `<`.
use Rattle.std.proofs.Common.{ℕ, ◌≡◌, ◌≤◌, Bool, true, false, ◌&&◌, ◌||◌, List, [], ◌∷◌, ◌==◌, refl, ap, ap₂, arith, ne_eqb, inl, inr}
use Rattle.std.proofs.lemmas.Bool.{cases_eq}
use Rattle.std.proofs.lemmas.Bool.Decides.{nat_tests}
use Rattle.std.specs.Prelude.{codes}
use Rattle.std.specs.Char.{to_ascii_lowercase}
use Rattle.hesc_specs.specs.Text.Ascii.{slash, less_than, backslash}
use Rattle.hesc_specs.specs.Bodies.Encoding.{body_encoding, body_decoding_after}
use Rattle.hesc_specs.specs.Text.Elements.{element_name}
use Rattle.hesc_specs.specs.Bodies.Openings.{ends_name, completes_opening, is_escaped_opening}
use Rattle.hesc_specs.specs.Text.Words.{begins_in_any_case}
use Rattle.hesc_specs.specs.declared.elements.Element.{Element}

-- no letter of the word is `<`
abbrev pub HasNoLessThan : List ℕ → Type 0
HasNoLessThan [] = Unit {0}
HasNoLessThan (w ∷ word) = ((less_than == w) ≡ false) × HasNoLessThan word

pub name-no_less_than : (element : Element) → HasNoLessThan (element_name element)
name-no_less_than element = grind (arith, nat_tests)

-- every text passes
abbrev pub passes : List ℕ → Bool
passes bytes = true

-- no byte of the word is a letter, so it has one case alone
abbrev HasNoLetter : List ℕ → Type 0
HasNoLetter [] = Unit {0}
HasNoLetter (w ∷ word) = (w ≤ 64) × HasNoLetter word

-- both openings are a word, and a test of what follows
pub completes_opening-words : (element : Element) (bytes : List ℕ) → completes_opening element bytes
    ≡ (begins_in_any_case (codes "!--") passes bytes || begins_in_any_case (slash ∷ element_name element) ends_name bytes)
completes_opening-words element bytes = grind (arith, nat_tests)

-- a word stands in a text exactly where it stands in the encoding
word-encoding : (element : Element) (word : List ℕ) (follows : List ℕ → Bool) → HasNoLessThan word
    → ((bytes : List ℕ) → follows (body_encoding element bytes) ≡ follows bytes)
    → (bytes : List ℕ) → begins_in_any_case word follows (body_encoding element bytes) ≡ begins_in_any_case word follows bytes
word-encoding element [] follows quiet after bytes = after bytes
word-encoding element (w ∷ word) follows quiet after [] = refl
word-encoding element (w ∷ word) follows quiet after (b ∷ bytes) =
    elim (cases_eq b less_than) [
      | inl is ↦ rw (is, quiet.0) refl
      | inr other ↦ rw (ne_eqb b less_than other) (ap (λ x. (to_ascii_lowercase b == w) && x) (word-encoding element word follows quiet.1 after bytes))
    ]

ends_name-encoding : (element : Element) (bytes : List ℕ) → ends_name (body_encoding element bytes) ≡ ends_name bytes
ends_name-encoding element bytes = grind (arith, nat_tests)

pub completes_opening-encoding : (element : Element) (bytes : List ℕ) → completes_opening element (body_encoding element bytes) ≡ completes_opening element bytes
completes_opening-encoding element bytes = grind (arith, nat_tests, completes_opening-words, ap₂, word-encoding, name-no_less_than, ends_name-encoding)

-- a word stands in a text exactly where it stands in the decoding, after a byte that is no `<`
word-decoding : (element : Element) (word : List ℕ) (follows : List ℕ → Bool) → HasNoLessThan word
    → ((before : ℕ) (bytes : List ℕ) → (before == less_than) ≡ false → follows (body_decoding_after element before bytes) ≡ follows bytes)
    → (before : ℕ) (bytes : List ℕ) → (before == less_than) ≡ false
    → begins_in_any_case word follows (body_decoding_after element before bytes) ≡ begins_in_any_case word follows bytes
word-decoding element [] follows quiet after before bytes other = after before bytes other
word-decoding element (w ∷ word) follows quiet after before [] other = refl
word-decoding element (w ∷ word) follows quiet after before (b ∷ bytes) other =
    rw other
    (elim (cases_eq b less_than) [
      | inl is ↦ rw (is, quiet.0) refl
      | inr differs ↦ ap (λ x. (to_ascii_lowercase b == w) && x) (word-decoding element word follows quiet.1 after b bytes (ne_eqb b less_than differs))
    ])

ends_name-decoding : (element : Element) (before : ℕ) (bytes : List ℕ) → (before == less_than) ≡ false → ends_name (body_decoding_after element before bytes) ≡ ends_name bytes
ends_name-decoding element before bytes other = grind (arith, nat_tests)

pub completes_opening-decoding : (element : Element) (before : ℕ) (bytes : List ℕ) → (before == less_than) ≡ false
    → completes_opening element (body_decoding_after element before bytes) ≡ completes_opening element bytes
completes_opening-decoding element before bytes other = grind (arith, nat_tests, completes_opening-words, ap₂, word-decoding, name-no_less_than, ends_name-decoding)

-- the bytes of an escaped opening at the front
pub escaped-parts : (element : Element) (before b : ℕ) (bytes : List ℕ) → is_escaped_opening element (before ∷ b ∷ bytes) ≡ true
    → (before ≡ less_than) × ((b ≡ backslash) × (completes_opening element bytes ≡ true))
escaped-parts element before b bytes is = grind (arith, nat_tests)
