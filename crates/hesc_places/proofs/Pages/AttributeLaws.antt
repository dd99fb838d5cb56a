-- The attributes of a form's text are read back, whatever follows them.
use Rattle.std.proofs.Common.{ℕ, zero, suc, ◌≡◌, ◌≢◌, ◌≤◌, ◌+◌, true, false, List, [], ◌∷◌, ◌++◌, ◌==◌, Some, None, length, flat_map, map, drop, refl, ap, ◌∙◌, arith, append_assoc}
use Rattle.std.specs.Char.{is_ascii_lowercase}
use Rattle.std.specs.List.{list_all, AllByRecursion}
use Rattle.std.specs.Prelude.{⊤, IsTrue}
use Rattle.std.proofs.Math.Seq.{drop-append_seam}
use Rattle.std.proofs.lemmas.Bool.{and_parts}
use Rattle.std.proofs.lemmas.Bool.Decides.{nat_tests}
use Rattle.hesc_specs.specs.Text.Ascii.{space, double_quote, single_quote, equals_sign}
use Rattle.hesc_specs.specs.Html.{encoding}
use Rattle.hesc_specs.specs.declared.classes.Class.TheVariants as class
use Rattle.hesc_grammars.specs.declared.place.End.TheVariants.{Space}
use Rattle.hesc_grammars.specs.declared.place.Place.TheVariants.{SingleAttribute, DoubleAttribute}
use Rattle.hesc_places.specs.declared.markup.types.Quoting.{Quoting}
use Rattle.hesc_places.specs.declared.markup.types.Quoting.TheVariants.{Unquoted, Single, Double}
use Rattle.hesc_places.specs.Pages.AttributeReadings.{Entry, attribute_at, attributes_at, quoted_at, unquoted_at, value_at}
use Rattle.hesc_places.specs.Pages.FormTexts.{IsFilled, attribute_text, entry_back, is_name, value_back, value_text}
use Rattle.hesc_places.specs.Pages.Parsers.{some_while}
use Rattle.hesc_grammars.specs.Words.{is_white_space}
use Rattle.hesc_places.proofs.Places.Marked.{marked_text}
use Rattle.hesc_places.proofs.Pages.ParserLaws.{some_while-all}
use Rattle.hesc_places.proofs.Places.UnquotedEndings.{first_ending-after, inner-encoding, is_inner}
use Rattle.hesc_places.proofs.Places.Unquoted.{unquoted_nul, encoding-full}

-- after an unquoted value stands a space
abbrev pub MayFollow : Quoting → List ℕ → Type 0
MayFollow Unquoted rest = (following : List ℕ) × (rest ≡ space ∷ following)
MayFollow other rest = ⊤

-- bytes that begin with no quote mark are read as an unquoted value
begins_unquoted : (bytes rest : List ℕ) → length bytes ≢ 0 → list_all is_inner bytes ≡ true →
    value_at (bytes ++ rest) ≡ unquoted_at (bytes ++ rest)
unfolding value_at
begins_unquoted [] rest full inner = absurd (full refl)
begins_unquoted (b ∷ bytes) rest full inner =
    let parts = and_parts (is_inner b) (list_all is_inner bytes) inner in
    let first : is_inner b ≡ true = parts.0 in
    let no_double : (b == double_quote) ≡ false = grind (arith, nat_tests) in
    let no_single : (b == single_quote) ≡ false = grind (arith, nat_tests) in
    rw (no_double, no_single) refl

unquoted_again : (value following : List ℕ) → length value ≢ 0 →
    unquoted_at (encoding class.UnquotedAttribute value ++ space ∷ following) ≡ Some (Unquoted, value_back Unquoted value, space ∷ following)
unfolding unquoted_at
unquoted_again value following full =
    rw (
      first_ending-after (encoding class.UnquotedAttribute value) (space ∷ following) (inner-encoding value),
      unquoted_nul Space value following full,
      drop-append_seam (encoding class.UnquotedAttribute value) (space ∷ following),
    ) refl

-- after a value and its closing mark
after_mark : (value rest : List ℕ) (mark : ℕ) → drop (length value + 1) (value ++ mark ∷ rest) ≡ rest
after_mark [] rest mark = refl
after_mark (b ∷ value) rest mark =
    let one_more : length (b ∷ value) + 1 ≡ suc (length value + 1) = omega arith in
    ap (λ n. drop n (b ∷ (value ++ mark ∷ rest))) one_more ∙ after_mark value rest mark

single_again : (value rest : List ℕ) →
    quoted_at Single SingleAttribute (encoding class.SingleQuotedAttribute value ++ single_quote ∷ rest) ≡ Some (Single, value, rest)
unfolding quoted_at
single_again value rest =
    rw (
      marked_text class.SingleQuotedAttribute single_quote (refl, (refl, refl)) refl value rest,
      after_mark (encoding class.SingleQuotedAttribute value) rest single_quote,
    ) refl

double_again : (value rest : List ℕ) →
    quoted_at Double DoubleAttribute (encoding class.DoubleQuotedAttribute value ++ double_quote ∷ rest) ≡ Some (Double, value, rest)
unfolding quoted_at
double_again value rest =
    rw (
      marked_text class.DoubleQuotedAttribute double_quote (refl, (refl, refl)) refl value rest,
      after_mark (encoding class.DoubleQuotedAttribute value) rest double_quote,
    ) refl

-- a value is read back
value_again : (quoting : Quoting) (value rest : List ℕ) → IsFilled quoting value → MayFollow quoting rest →
    value_at (value_text quoting value ++ rest) ≡ Some (quoting, value_back quoting value, rest)
unfolding value_at
value_again Unquoted value rest full follows =
    begins_unquoted (encoding class.UnquotedAttribute value) rest (encoding-full value full) (inner-encoding value)
    ∙ rw follows.1 (unquoted_again value follows.0 full)
value_again Single value rest full follows =
    ap (quoted_at Single SingleAttribute) (append_assoc (encoding class.SingleQuotedAttribute value) (single_quote ∷ []) rest)
    ∙ single_again value rest
value_again Double value rest full follows =
    ap (quoted_at Double DoubleAttribute) (append_assoc (encoding class.DoubleQuotedAttribute value) (double_quote ∷ []) rest)
    ∙ double_again value rest

-- the space before a name is all the white space there
space_before : (name rest : List ℕ) → is_name name ≡ true →
    some_while is_white_space (space ∷ (name ++ rest)) ≡ Some (space ∷ [], name ++ rest)
space_before [] rest is = cc
space_before (b ∷ name) rest is =
    let parts = and_parts (is_ascii_lowercase b) (list_all is_ascii_lowercase name) is in
    let letter : is_ascii_lowercase b ≡ true = parts.0 in
    some_while-all is_white_space (space ∷ []) b (name ++ rest) (omega arith) refl (grind (arith, nat_tests))

whole_name : (name rest : List ℕ) → is_name name ≡ true →
    some_while is_ascii_lowercase (name ++ equals_sign ∷ rest) ≡ Some (name, equals_sign ∷ rest)
whole_name [] rest is = cc
whole_name (b ∷ name) rest is = some_while-all is_ascii_lowercase (b ∷ name) equals_sign rest (omega arith) is refl

-- an attribute is read back
attribute_again : (a : Entry) (rest : List ℕ) → is_name a.name ≡ true → IsFilled a.quoting a.value → MayFollow a.quoting rest →
    attribute_at (attribute_text a ++ rest) ≡ Some (entry_back a, rest)
unfolding attribute_at
attribute_again a rest is full follows =
    let regrouped : attribute_text a ++ rest ≡ space ∷ (a.name ++ equals_sign ∷ (value_text a.quoting a.value ++ rest)) =
    ap (λ bytes. space ∷ bytes) (append_assoc a.name (equals_sign ∷ value_text a.quoting a.value) rest) in
    ap attribute_at regrouped
    ∙ rw (
      space_before a.name (equals_sign ∷ (value_text a.quoting a.value ++ rest)) is,
      whole_name a.name (value_text a.quoting a.value ++ rest) is,
      value_again a.quoting a.value rest full follows,
    ) refl

-- what may follow the last attribute
abbrev pub MayEnd : List Entry → List ℕ → Type 0
MayEnd [] rest = ⊤
MayEnd (a ∷ []) rest = MayFollow a.quoting rest
MayEnd (a ∷ b ∷ others) rest = MayEnd (b ∷ others) rest

-- another attribute may follow any
followed : (quoting : Quoting) (following : List ℕ) → MayFollow quoting (space ∷ following)
followed Unquoted following = (following, refl)
followed Single following = tt
followed Double following = tt

first_may : (a : Entry) (others : List Entry) (rest : List ℕ) → MayEnd (a ∷ others) rest →
    MayFollow a.quoting (flat_map attribute_text others ++ rest)
first_may a [] rest may = may
first_may a (b ∷ others) rest may = followed a.quoting _

others_may : (a : Entry) (others : List Entry) (rest : List ℕ) → MayEnd (a ∷ others) rest → MayEnd others rest
others_may a [] rest may = tt
others_may a (b ∷ others) rest may = may

-- attributes are read back in order, before what is none
pub attributes_again : (attributes : List Entry) (most : ℕ) (rest : List ℕ) → length attributes ≤ most →
    AllByRecursion (λ a. IsTrue (is_name a.name)) attributes → AllByRecursion (λ a. IsFilled a.quoting a.value) attributes →
    MayEnd attributes rest → attribute_at rest ≡ None →
    attributes_at most (flat_map attribute_text attributes ++ rest) ≡ (map entry_back attributes, rest)
unfolding attributes_at
attributes_again [] zero rest enough names filled may none = refl
attributes_again [] (suc most) rest enough names filled may none = rw none refl
attributes_again (a ∷ others) zero rest enough names filled may none = absurd (omega arith)
attributes_again (a ∷ others) (suc most) rest enough names filled may none =
    let following : List ℕ = flat_map attribute_text others ++ rest in
    let regrouped : flat_map attribute_text (a ∷ others) ++ rest ≡ attribute_text a ++ following =
    append_assoc (attribute_text a) (flat_map attribute_text others) rest in
    ap (attributes_at (suc most)) regrouped
    ∙ rw (
      attribute_again a following names.0 filled.0 (first_may a others rest may),
      attributes_again others most rest (omega arith) names.1 filled.1 (others_may a others rest may) none,
    ) refl
