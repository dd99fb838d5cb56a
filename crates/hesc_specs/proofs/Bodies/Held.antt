-- What a session holds: it is short and ASCII, and is given out as soon as it is decided.
use Rattle.std.proofs.Common.{ℕ, zero, suc, ◌≡◌, ◌+◌, ◌<◌, ◌≤◌, Bool, true, false, List, [], ◌∷◌, ◌++◌, ◌==◌, length, take, refl, ap, arith, ne_eqb, inl, inr, ◌⊎◌}
use Rattle.std.proofs.lemmas.Bool.{cases_eq, and_parts}
use Rattle.std.proofs.lemmas.Bool.Decides.{nat_tests}
use Rattle.std.proofs.lemmas.List.{take_all}
use Rattle.std.specs.Char.{to_ascii_lowercase}
use Rattle.std.specs.Prelude.{codes}
use Rattle.std.specs.Str.{IsAscii}
use Rattle.hesc_specs.specs.Text.Ascii.{slash, less_than}
use Rattle.hesc_specs.specs.Text.Elements.{element_name}
use Rattle.hesc_specs.specs.Bodies.Openings.{is_opening}
use Rattle.hesc_specs.specs.Bodies.Sessions.{is_partial, partial_end, decided_encoding, flushed}
use Rattle.hesc_specs.specs.Text.Words.{is_beginning_in_any_case}
use Rattle.hesc_specs.specs.declared.elements.Element.{Element}
use Rattle.hesc_specs.proofs.Bodies.Openings.{HasNoLessThan, name-no_less_than}
use Rattle.hesc_specs.proofs.Bodies.Decided.{partial_end-partial}

-- the longest is `<`, `/` and the element's name
abbrev pub longest_held : ℕ
longest_held = 8

-- partial bytes that are not none: a `<` and a beginning of one of two words
partial-parts : (element : Element) (b : ℕ) (bytes : List ℕ) → is_partial element (b ∷ bytes) ≡ true
    → (b ≡ less_than) × ((is_beginning_in_any_case (codes "!-") bytes ≡ true) ⊎ (is_beginning_in_any_case (slash ∷ element_name element) bytes ≡ true))
partial-parts element b bytes held = grind (arith, nat_tests)

beginning-short : (word bytes : List ℕ) → is_beginning_in_any_case word bytes ≡ true → length bytes ≤ length word
beginning-short word [] begins = omega arith
beginning-short [] (b ∷ bytes) begins = absurd (cc)
beginning-short (w ∷ word) (b ∷ bytes) begins =
    let rest = beginning-short word bytes (and_parts (to_ascii_lowercase b == w) (is_beginning_in_any_case word bytes) begins).1 in
    omega (arith, rest)

name-length : (element : Element) → length (element_name element) ≤ 6
name-length element = grind (arith, nat_tests)

pub partial-short : (element : Element) (bytes : List ℕ) → is_partial element bytes ≡ true → length bytes ≤ longest_held
partial-short element bytes held = grind (arith, nat_tests, partial-parts, beginning-short, name-length)

-- each letter of the word is ASCII
abbrev AreAscii : List ℕ → Type 0
AreAscii [] = Unit {0}
AreAscii (w ∷ word) = (w < 128) × AreAscii word

name-ascii : (element : Element) → AreAscii (element_name element)
name-ascii element = grind (arith, nat_tests)

lower-ascii : (b w : ℕ) → (to_ascii_lowercase b == w) ≡ true → w < 128 → b < 128
lower-ascii b w same ascii = grind (arith, nat_tests)

beginning-ascii : (word bytes : List ℕ) → AreAscii word → is_beginning_in_any_case word bytes ≡ true → IsAscii bytes
beginning-ascii word [] ascii begins place = omega arith
beginning-ascii [] (b ∷ bytes) ascii begins place = absurd (cc)
beginning-ascii (w ∷ word) (b ∷ bytes) ascii begins zero =
    lower-ascii b w (and_parts (to_ascii_lowercase b == w) (is_beginning_in_any_case word bytes) begins).0 ascii.0
beginning-ascii (w ∷ word) (b ∷ bytes) ascii begins (suc place) =
    beginning-ascii word bytes ascii.1 (and_parts (to_ascii_lowercase b == w) (is_beginning_in_any_case word bytes) begins).1 place

pub partial-ascii : (element : Element) (bytes : List ℕ) → is_partial element bytes ≡ true → IsAscii bytes
partial-ascii element [] held place = omega arith
partial-ascii element (b ∷ bytes) held zero = rw ((partial-parts element b bytes held).0) (omega arith)
partial-ascii element (b ∷ bytes) held (suc place) =
    elim ((partial-parts element b bytes held).1) [
      | inl comment ↦ beginning-ascii (codes "!-") bytes (omega arith, (omega arith, tt)) comment place
      | inr name ↦ beginning-ascii (slash ∷ element_name element) bytes (omega arith, name-ascii element) name place
    ]

-- no opening begins within a word's beginning, and what it is partial about does not either
beginning-flushed : (element : Element) (word bytes rest : List ℕ) → HasNoLessThan word → is_beginning_in_any_case word bytes ≡ true
    → (decided_encoding element (bytes ++ rest) ≡ bytes ++ decided_encoding element rest) × (partial_end element (bytes ++ rest) ≡ partial_end element rest)
beginning-flushed element word [] rest quiet begins = (refl, refl)
beginning-flushed element [] (b ∷ bytes) rest quiet begins = absurd (cc)
beginning-flushed element (w ∷ word) (b ∷ bytes) rest quiet begins =
    elim (cases_eq b less_than) [
      | inl is ↦ absurd (cc (rw (is, quiet.0) at begins))
      | inr other ↦
          let later = beginning-flushed element word bytes rest quiet.1 (and_parts (to_ascii_lowercase b == w) (is_beginning_in_any_case word bytes) begins).1 in
          rw (ne_eqb b less_than other) (ap (λ x. b ∷ x) later.0, later.1)
    ]

tail-flushed : (element : Element) (b : ℕ) (bytes rest : List ℕ) → is_partial element (b ∷ bytes) ≡ true
    → (decided_encoding element (bytes ++ rest) ≡ bytes ++ decided_encoding element rest) × (partial_end element (bytes ++ rest) ≡ partial_end element rest)
tail-flushed element b bytes rest held =
    elim ((partial-parts element b bytes held).1) [
      | inl comment ↦ beginning-flushed element (codes "!-") bytes rest (refl, (refl, tt)) comment
      | inr name ↦ beginning-flushed element (slash ∷ element_name element) bytes rest (refl, name-no_less_than element) name
    ]

-- what is held is given out as soon as it is decided, and then what is decided of the piece
pub decided-flushed : (element : Element) (held piece : List ℕ) (opens : Bool) → is_partial element held ≡ true → is_partial element (held ++ piece) ≡ false
    → (length held ≡ 0 → opens ≡ false) → (0 < length held → opens ≡ is_opening element (held ++ piece))
    → decided_encoding element (held ++ piece) ≡ flushed opens held ++ decided_encoding element piece
decided-flushed element held piece opens partial decided none some = grind (arith, nat_tests, tail-flushed, partial-parts)

pub partial_end-flushed : (element : Element) (held piece : List ℕ) → is_partial element held ≡ true → is_partial element (held ++ piece) ≡ false
    → partial_end element (held ++ piece) ≡ partial_end element piece
partial_end-flushed element [] piece partial decided = refl
partial_end-flushed element (b ∷ held) piece partial decided = rw decided ((tail-flushed element b held piece partial).1)

-- the first bytes decide, one more than can be held
pub partial-front : (element : Element) (text : List ℕ) → is_partial element (take (longest_held + 1) text) ≡ true → take (longest_held + 1) text ≡ text
partial-front element text partial = grind (arith, nat_tests)

pub decided-front : (element : Element) (text : List ℕ) → is_partial element (take (longest_held + 1) text) ≡ false
    → (is_partial element text ≡ false) × (is_opening element text ≡ is_opening element (take (longest_held + 1) text))
decided-front element text decided = grind (arith, nat_tests)

-- bytes that are decided are some
pub decided-some : (element : Element) (bytes : List ℕ) → is_partial element bytes ≡ false → 0 < length bytes
decided-some element bytes decided = grind (arith, nat_tests)

-- what is given out with a piece, by the first bytes of what was held and of the piece
pub flushed-front : (element : Element) (held piece front : List ℕ) (opens : Bool) → is_partial element held ≡ true → front ≡ take (longest_held + 1) (held ++ piece)
    → is_partial element front ≡ false → (length held ≡ 0 → opens ≡ false) → (0 < length held → opens ≡ is_opening element front)
    → (decided_encoding element (held ++ piece) ≡ flushed opens held ++ decided_encoding element piece) × (partial_end element (held ++ piece) ≡ partial_end element piece)
flushed-front element held piece front opens partial is decided none some = grind (arith, nat_tests, decided-front, decided-flushed, partial_end-flushed)

-- all that is held is among the first bytes
pub partial_end-front : (element : Element) (text : List ℕ) → take (longest_held + 1) (partial_end element text) ≡ partial_end element text
partial_end-front element text =
    take_all (longest_held + 1) (partial_end element text) (omega (arith, partial-short element (partial_end element text) (partial_end-partial element text)))
