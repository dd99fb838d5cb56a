-- The encoding and the decoding of a body: what they hold no more, and what doing both or one twice gives.
use Rattle.std.proofs.Common.{ℕ, zero, suc, ◌≡◌, ◌↔◌, Bool, true, false, ◌&&◌, List, [], ◌∷◌, ◌==◌, refl, sym, ap, ap₂, subst, ◌∙◌, inl, inr, if◌then◌else◌, arith}
use Rattle.std.proofs.lemmas.Bool.Decides.{nat_tests}
use Rattle.std.proofs.lemmas.Bool.{cases_Bool, and_right, and_parts, eqb-true}
use Rattle.hesc_specs.specs.Text.Ascii.{less_than, backslash}
use Rattle.hesc_specs.specs.Bodies.Encoding.{body_encoding, body_decoding, body_decoding_after, nothing_before}
use Rattle.hesc_specs.specs.Bodies.Openings.{completes_opening, is_opening, is_escaped_opening, HasNoOpening, HasNoEscapedOpening}
use Rattle.hesc_specs.specs.declared.elements.Element.{Element}
use Rattle.hesc_specs.proofs.Bodies.Openings.{completes_opening-encoding, completes_opening-decoding, escaped-parts}

-- what the encoding writes after a byte
abbrev pub encoding_after : Element → ℕ → List ℕ → List ℕ
encoding_after element before text = if is_opening element (before ∷ text) then backslash ∷ body_encoding element text else body_encoding element text

-- no opening begins after its own `\`
not_escaped_again : (element : Element) (text : List ℕ) → completes_opening element text ≡ true → is_escaped_opening element (less_than ∷ text) ≡ false
not_escaped_again element text completes = grind (arith, nat_tests)

-- what completes an opening is decoded alike after any byte
decoding-opening : (element : Element) (before : ℕ) (text : List ℕ) → completes_opening element text ≡ true
    → body_decoding_after element before text ≡ body_decoding_after element backslash text
decoding-opening element before text completes = grind (arith, nat_tests)

-- two bytes begin an escaped opening exactly if they do so before the decoded rest
escaped-decoding : (element : Element) (before b : ℕ) (text : List ℕ)
    → is_escaped_opening element (before ∷ b ∷ body_decoding_after element b text) ≡ is_escaped_opening element (before ∷ b ∷ text)
escaped-decoding element before b text = grind (arith, nat_tests, completes_opening-decoding)

-- and before the encoded rest
escaped-encoding : (element : Element) (before b : ℕ) (text : List ℕ)
    → is_escaped_opening element (before ∷ b ∷ encoding_after element b text) ≡ is_escaped_opening element (before ∷ b ∷ text)
escaped-encoding element before b text = grind (arith, nat_tests, completes_opening-encoding)

-- encoding twice is encoding once
pub encode_twice : (element : Element) (text : List ℕ) → body_encoding element (body_encoding element text) ≡ body_encoding element text
encode_twice element [] = refl
encode_twice element (b ∷ text) =
    elim (cases_Bool (is_opening element (b ∷ text))) [
      | inl opens ↦ rw opens (rw (encode_twice element text, and_right (b == less_than) false refl) refl)
      | inr plain ↦ rw plain (rw (completes_opening-encoding element text) (rw plain (rw (encode_twice element text) refl)))
    ]

-- decoding twice is decoding once, after any byte
decode_twice_after : (element : Element) (before : ℕ) (text : List ℕ)
    → body_decoding_after element before (body_decoding_after element before text) ≡ body_decoding_after element before text
decode_twice_after element before [] = refl
decode_twice_after element before (b ∷ text) =
    elim (cases_Bool (is_escaped_opening element (before ∷ b ∷ text))) [
      | inl escaped ↦
          let parts = escaped-parts element before b text escaped in
          let completes : completes_opening element (body_decoding_after element backslash text) ≡ true =
          completes_opening-decoding element backslash text refl ∙ parts.1.1 in
          rw escaped
          (rw parts.1.0
          (decoding-opening element before (body_decoding_after element backslash text) completes
          ∙ decode_twice_after element backslash text))
      | inr plain ↦ rw plain (rw (escaped-decoding element before b text) (rw plain (rw (decode_twice_after element b text) refl)))
    ]

pub decode_twice : (element : Element) (text : List ℕ) → body_decoding element (body_decoding element text) ≡ body_decoding element text
decode_twice element text = decode_twice_after element nothing_before text

-- encoding the decoding gives the encoding, after any byte
encode_decoding_after : (element : Element) (before : ℕ) (text : List ℕ)
    → encoding_after element before (body_decoding_after element before text) ≡ encoding_after element before text
encode_decoding_after element before [] = refl
encode_decoding_after element before (b ∷ text) =
    elim (cases_Bool (is_escaped_opening element (before ∷ b ∷ text))) [
      | inl escaped ↦
          let parts = escaped-parts element before b text escaped in
          let rest : body_encoding element (body_decoding_after element backslash text) ≡ body_encoding element text =
          encode_decoding_after element backslash text in
          rw escaped (rw (parts.0, parts.1.0, completes_opening-decoding element backslash text refl, parts.1.1, rest) refl)
      | inr plain ↦
          rw plain
          (ap₂ (λ (opens : Bool) (rest : List ℕ). if before == less_than && opens then backslash ∷ rest else rest)
          (completes_opening-decoding element nothing_before (b ∷ text) refl)
          (ap (λ (rest : List ℕ). b ∷ rest) (encode_decoding_after element b text)))
    ]

pub encode_decoding : (element : Element) (text : List ℕ) → body_encoding element (body_decoding element text) ≡ body_encoding element text
encode_decoding element text = encode_decoding_after element nothing_before text

-- decoding the encoding gives the decoding, after any byte
decode_encoding_after : (element : Element) (before : ℕ) (text : List ℕ)
    → body_decoding_after element before (encoding_after element before text) ≡ body_decoding_after element before text
decode_encoding_after element before [] = rw (and_right (before == less_than) false refl) refl
decode_encoding_after element before (b ∷ text) =
    elim (cases_Bool (is_opening element (before ∷ b ∷ text))) [
      | inl opens ↦
          let parts = and_parts (before == less_than) (completes_opening element (b ∷ text)) opens in
          let is : before ≡ less_than = eqb-true before less_than parts.0 in
          let encoded : completes_opening element (body_encoding element (b ∷ text)) ≡ true = completes_opening-encoding element (b ∷ text) ∙ parts.1 in
          rw opens
          (rw is
          (rw encoded
          (ap (λ (rest : List ℕ). b ∷ rest) (decode_encoding_after element b text)
          ∙ sym (decoding-opening element less_than (b ∷ text) parts.1))))
      | inr plain ↦
          rw plain
          (ap₂ (λ (escaped : Bool) (rest : List ℕ). if escaped then rest else b ∷ rest)
          (escaped-encoding element before b text)
          (decode_encoding_after element b text))
    ]

pub decode_encoding : (element : Element) (text : List ℕ) → body_decoding element (body_encoding element text) ≡ body_decoding element text
decode_encoding element text = decode_encoding_after element nothing_before text

-- an encoding has no opening
pub encoding-no_opening : (element : Element) (text : List ℕ) → HasNoOpening element (body_encoding element text)
encoding-no_opening element [] zero = refl
encoding-no_opening element [] (suc place) = refl
encoding-no_opening element (b ∷ text) zero =
    elim (cases_Bool (is_opening element (b ∷ text))) [
      | inl opens ↦ rw opens (and_right (b == less_than) false refl)
      | inr plain ↦ rw plain (rw (completes_opening-encoding element text) plain)
    ]
encoding-no_opening element (b ∷ text) (suc place) =
    elim (cases_Bool (is_opening element (b ∷ text))) [
      | inl opens ↦ rw opens (after_backslash element (body_encoding element text) (encoding-no_opening element text) place)
      | inr plain ↦ rw plain (encoding-no_opening element text place)
    ]
  where
    after_backslash : (element : Element) (text : List ℕ) → HasNoOpening element text → HasNoOpening element (backslash ∷ text)
    after_backslash element text none zero = refl
    after_backslash element text none (suc place) = none place

-- a decoding has no escaped opening: the byte and the decoding after it begin none
escaped-after : (element : Element) (b : ℕ) (text : List ℕ) → is_escaped_opening element (b ∷ body_decoding_after element b text) ≡ false
escaped-after element b [] = refl
escaped-after element b (c ∷ text) =
    elim (cases_Bool (is_escaped_opening element (b ∷ c ∷ text))) [
      | inl escaped ↦
          let parts = escaped-parts element b c text escaped in
          let completes : completes_opening element (body_decoding_after element backslash text) ≡ true =
          completes_opening-decoding element backslash text refl ∙ parts.1.1 in
          rw escaped (rw (parts.0, parts.1.0) (not_escaped_again element (body_decoding_after element backslash text) completes))
      | inr plain ↦ rw plain (escaped-decoding element b c text ∙ plain)
    ]

decoding-no_escaped_opening_after : (element : Element) (before : ℕ) (text : List ℕ) → HasNoEscapedOpening element (body_decoding_after element before text)
decoding-no_escaped_opening_after element before [] zero = refl
decoding-no_escaped_opening_after element before [] (suc place) = refl
decoding-no_escaped_opening_after element before (b ∷ text) zero =
    elim (cases_Bool (is_escaped_opening element (before ∷ b ∷ text))) [
      | inl escaped ↦ rw escaped (decoding-no_escaped_opening_after element b text zero)
      | inr plain ↦ rw plain (escaped-after element b text)
    ]
decoding-no_escaped_opening_after element before (b ∷ text) (suc place) =
    elim (cases_Bool (is_escaped_opening element (before ∷ b ∷ text))) [
      | inl escaped ↦ rw escaped (decoding-no_escaped_opening_after element b text (suc place))
      | inr plain ↦ rw plain (decoding-no_escaped_opening_after element b text place)
    ]

pub decoding-no_escaped_opening : (element : Element) (text : List ℕ) → HasNoEscapedOpening element (body_decoding element text)
decoding-no_escaped_opening element text = decoding-no_escaped_opening_after element nothing_before text

-- a text without an escaped opening is its own decoding
unchanged_after : (element : Element) (before : ℕ) (text : List ℕ) → HasNoEscapedOpening element (before ∷ text) → body_decoding_after element before text ≡ text
unchanged_after element before [] none = refl
unchanged_after element before (b ∷ text) none = rw (none 0) (ap (λ rest. b ∷ rest) (unchanged_after element b text (λ place. none (suc place))))

none_after_nothing : (element : Element) (text : List ℕ) → HasNoEscapedOpening element text → HasNoEscapedOpening element (nothing_before ∷ text)
none_after_nothing element [] none zero = refl
none_after_nothing element (b ∷ text) none zero = refl
none_after_nothing element text none (suc place) = none place

-- decoding the encoding gives the text exactly if the text has no escaped opening
pub encoding-undone : (element : Element) (text : List ℕ) → (body_decoding element (body_encoding element text) ≡ text) ↔ HasNoEscapedOpening element text
encoding-undone element text = (
  λ undone. subst (HasNoEscapedOpening element) (sym (decode_encoding element text) ∙ undone) (decoding-no_escaped_opening element text),
  λ none. decode_encoding element text ∙ unchanged_after element nothing_before text (none_after_nothing element text none),
)
