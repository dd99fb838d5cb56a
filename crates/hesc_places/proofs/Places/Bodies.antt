-- Bodies: an encoding is read whole, up to the first end tag that follows it.
use Rattle.std.proofs.Common.{ℕ, ◌≡◌, ◌≢◌, Bool, true, false, true≢false, ◌&&◌, ◌||◌, List, [], ◌∷◌, ◌++◌, ◌==◌, Some, length, refl, sym, ap, ◌∙◌, ne_eqb, inl, inr, arith}
use Rattle.std.proofs.lemmas.Bool.{cases_eq, cases_Bool, and_parts, eqb-true}
use Rattle.std.proofs.lemmas.Bool.Decides.{nat_tests}
use Rattle.std.specs.Char.{to_ascii_lowercase}
use Rattle.std.specs.Prelude.{codes}
use Rattle.hesc_specs.specs.Text.Ascii.{slash, less_than, backslash}
use Rattle.hesc_specs.specs.Bodies.Encoding.{body_encoding}
use Rattle.hesc_specs.specs.Text.Elements.{element_name}
use Rattle.hesc_specs.specs.Bodies.Openings.{ends_name, completes_opening, is_opening}
use Rattle.hesc_specs.specs.Text.Words.{begins, begins_in_any_case}
use Rattle.hesc_specs.specs.declared.elements.Element.{Element}
use Rattle.hesc_specs.specs.declared.elements.Element.TheVariants.{Script, Style}
use Rattle.hesc_specs.proofs.Bodies.Openings.{HasNoLessThan, name-no_less_than}
use Rattle.hesc_grammars.specs.declared.step.Mode.{Mode}
use Rattle.hesc_grammars.specs.declared.step.Mode.TheVariants.{Plain}
use Rattle.hesc_grammars.specs.declared.step.Step.{Step}
use Rattle.hesc_grammars.specs.declared.step.Step.TheVariants.{Close, Byte}
use Rattle.hesc_grammars.specs.Bodies.{script_body_step, style_body_step}
use Rattle.hesc_grammars.specs.Places.{body_of, reading}
use Rattle.hesc_grammars.specs.Reading.{after, reading_after}
use Rattle.hesc_grammars.specs.Words.{ends_tag_name, is_end_tag}

-- a word that stands before the `<` after an encoding stands in the text
word_before : (element : Element) (word : List ℕ) (follows : List ℕ → Bool) → HasNoLessThan word →
    ((bytes rest : List ℕ) → follows (body_encoding element bytes ++ less_than ∷ rest) ≡ follows bytes) →
    (bytes rest : List ℕ) →
    begins_in_any_case word follows (body_encoding element bytes ++ less_than ∷ rest) ≡ begins_in_any_case word follows bytes
word_before element [] follows quiet following bytes rest = following bytes rest
word_before element (w ∷ word) follows quiet following [] rest = rw quiet.0 refl
word_before element (w ∷ word) follows quiet following (b ∷ bytes) rest =
    elim (cases_eq b less_than) [
      | inl is ↦ rw (is, quiet.0) refl
      | inr other ↦ rw (ne_eqb b less_than other) (ap (λ x. (to_ascii_lowercase b == w) && x) (word_before element word follows quiet.1 following bytes rest))
    ]

ends_tag_name-before : (element : Element) (bytes rest : List ℕ) →
    ends_tag_name (body_encoding element bytes ++ less_than ∷ rest) ≡ ends_tag_name bytes
ends_tag_name-before element [] rest = refl
ends_tag_name-before element (b ∷ bytes) rest = refl

-- the same for a word in its one case
begins-before : (element : Element) (word : List ℕ) → HasNoLessThan word → (bytes rest : List ℕ) →
    begins word (body_encoding element bytes ++ less_than ∷ rest) ≡ begins word bytes
begins-before element [] quiet bytes rest = refl
begins-before element (w ∷ word) quiet [] rest = rw quiet.0 refl
begins-before element (w ∷ word) quiet (b ∷ bytes) rest =
    elim (cases_eq b less_than) [
      | inl is ↦ rw (is, quiet.0) refl
      | inr other ↦ rw (ne_eqb b less_than other) (ap (λ x. (b == w) && x) (begins-before element word quiet.1 bytes rest))
    ]

neither : (x y : Bool) → (x || y) ≡ false → (x ≡ false) × (y ≡ false)
neither false y none = (refl, none)
neither true y none = cc

-- where a tag's name ends, the name of an opening ends
ends_name-tag : (bytes : List ℕ) → ends_tag_name bytes ≡ true → ends_name bytes ≡ true
ends_name-tag [] ends = cc
ends_name-tag (b ∷ bytes) ends = grind (arith, nat_tests)

ends_name-word : (word bytes : List ℕ) → begins_in_any_case word ends_tag_name bytes ≡ true → begins_in_any_case word ends_name bytes ≡ true
ends_name-word [] bytes is = ends_name-tag bytes is
ends_name-word (w ∷ word) [] is = cc
ends_name-word (w ∷ word) (b ∷ bytes) is =
    let parts = and_parts (to_ascii_lowercase b == w) (begins_in_any_case word ends_tag_name bytes) is in
    rw (parts.0, ends_name-word word bytes parts.1) refl

-- bytes that complete no opening after a `<` complete no end tag there, before another `<`
no_end_tag : (element : Element) (bytes rest : List ℕ) → completes_opening element bytes ≡ false →
    is_end_tag element (less_than ∷ (body_encoding element bytes ++ less_than ∷ rest)) ≡ false
no_end_tag element bytes rest none =
    let tag : List ℕ = slash ∷ element_name element in
    let unnamed : begins_in_any_case tag ends_name bytes ≡ false =
    (neither (begins (codes "!--") bytes) (begins_in_any_case tag ends_name bytes) none).1 in
    word_before element tag ends_tag_name (refl, name-no_less_than element) (ends_tag_name-before element) bytes rest
    ∙ elim (cases_Bool (begins_in_any_case tag ends_tag_name bytes)) [
      | inl is ↦ absurd (true≢false (sym (ends_name-word tag bytes is) ∙ unnamed))
      | inr is ↦ is
    ]

-- nor do they begin a comment there
no_comment : (element : Element) (bytes rest : List ℕ) → completes_opening element bytes ≡ false →
    begins (codes "<!--") (less_than ∷ (body_encoding element bytes ++ less_than ∷ rest)) ≡ false
no_comment element bytes rest none =
    begins-before element (codes "!--") (refl, (refl, (refl, tt))) bytes rest
    ∙ (neither (begins (codes "!--") bytes) (begins_in_any_case (slash ∷ element_name element) ends_name bytes) none).0

-- what begins at a position of the element's body
abbrev pub body_step : Element → Mode → List ℕ → Step
body_step Script = script_body_step
body_step Style = style_body_step

closes : (element : Element) (b : ℕ) (bytes : List ℕ) → is_end_tag element (b ∷ bytes) ≡ true →
    body_step element Plain (b ∷ bytes) ≡ Close
unfolding script_body_step style_body_step
closes Script b bytes tag = rw tag refl
closes Style b bytes tag = rw tag refl

goes_on : (element : Element) (b : ℕ) (bytes : List ℕ) → is_end_tag element (b ∷ bytes) ≡ false →
    begins (codes "<!--") (b ∷ bytes) ≡ false → body_step element Plain (b ∷ bytes) ≡ Byte 0 b Plain
unfolding script_body_step style_body_step
goes_on Script b bytes tag comment = rw (tag, comment) refl
goes_on Style b bytes tag comment = rw tag refl

-- another byte than `<` begins neither
goes_on-other : (element : Element) (b : ℕ) (bytes : List ℕ) → b ≢ less_than → body_step element Plain (b ∷ bytes) ≡ Byte 0 b Plain
goes_on-other element b bytes other =
    let lower : (to_ascii_lowercase b == less_than) ≡ false = grind (arith, nat_tests) in
    goes_on element b bytes (rw lower refl) (rw (ne_eqb b less_than other) refl)

-- a byte at which no opening begins is an item
goes_on-plain : (element : Element) (b : ℕ) (bytes rest : List ℕ) → is_opening element (b ∷ bytes) ≡ false →
    body_step element Plain (b ∷ (body_encoding element bytes ++ less_than ∷ rest)) ≡ Byte 0 b Plain
goes_on-plain element b bytes rest plain =
    elim (cases_eq b less_than) [
      | inl is ↦
          let none : completes_opening element bytes ≡ false = rw is at plain in
          rw is (goes_on element less_than (body_encoding element bytes ++ less_than ∷ rest)
          (no_end_tag element bytes rest none) (no_comment element bytes rest none))
      | inr other ↦ goes_on-other element b (body_encoding element bytes ++ less_than ∷ rest) other
    ]

-- a byte more
counted : (b : ℕ) (value : List ℕ) → after (b ∷ []) 1 (Some (value, length value)) ≡ Some (b ∷ value, length (b ∷ value))
counted b value = ap (λ n. Some (b ∷ value, n)) (omega arith)

-- an encoding before a `<` that begins an end tag is the whole body
before_tag : (element : Element) (text tag : List ℕ) → is_end_tag element (less_than ∷ tag) ≡ true →
    reading_after (body_step element) 0 Plain (body_encoding element text ++ less_than ∷ tag) ≡
    Some (body_encoding element text, length (body_encoding element text))
before_tag element [] tag is = rw (closes element less_than tag is) refl
before_tag element (b ∷ text) tag is =
    elim (cases_Bool (is_opening element (b ∷ text))) [
      | inl opens ↦
          let first : b ≡ less_than = eqb-true b less_than (and_parts (b == less_than) (completes_opening element text) opens).0 in
          let following : List ℕ = body_encoding element text ++ less_than ∷ tag in
          rw (
            opens,
            first,
            goes_on element less_than (backslash ∷ following) refl refl,
            goes_on-other element backslash following (omega arith),
            before_tag element text tag is,
          )
          (ap (after (less_than ∷ []) 1) (counted backslash (body_encoding element text)) ∙ counted less_than (backslash ∷ body_encoding element text))
      | inr plain ↦
          rw (plain, goes_on-plain element b text tag plain, before_tag element text tag is) (counted b (body_encoding element text))
    ]

-- the same before any end tag of the element
body_before_tag : (element : Element) (text tag : List ℕ) → is_end_tag element tag ≡ true →
    reading_after (body_step element) 0 Plain (body_encoding element text ++ tag) ≡
    Some (body_encoding element text, length (body_encoding element text))
body_before_tag element text [] is = cc
body_before_tag element text (b ∷ tag) is =
    elim (cases_eq b less_than) [
      | inl first ↦ rw first (before_tag element text tag (rw first at is))
      | inr other ↦
          let lower : (to_ascii_lowercase b == less_than) ≡ false = grind (arith, nat_tests) in
          absurd (true≢false (sym is ∙ rw lower refl))
    ]

-- an encoding is the whole body before any end tag of its element
pub read_before_tag : (element : Element) (text tag : List ℕ) → is_end_tag element tag ≡ true →
    reading (body_of element) (body_encoding element text ++ tag) ≡
    Some (body_encoding element text, length (body_encoding element text))
read_before_tag Script text tag is = body_before_tag Script text tag is
read_before_tag Style text tag is = body_before_tag Style text tag is
