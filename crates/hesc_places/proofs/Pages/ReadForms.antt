-- A form that is read is good, so that it can be written again, and a text where it is read from one.
use Rattle.std.proofs.Common.{ℕ, zero, suc, ◌≡◌, ◌==◌, subst, if◌then◌else◌, ◌+◌, ◌-◌, Bool, true, false, List, [], ◌∷◌, Option, Some, None, length, refl, sym, ⊎_elim, arith, drop, map, ◌<◌, Result, Ok, Err, IsUtf8}
use Rattle.std.specs.Prelude.{IsTrue, codes, IfOk, IfSome}
use Rattle.std.specs.Char.{is_ascii_lowercase}
use Rattle.std.specs.List.{AllByRecursion}
use Rattle.std.proofs.lemmas.Bool.{cases_Bool, eqb-true}
use Rattle.hesc_specs.specs.Text.Ascii.{double_quote, single_quote}
use Rattle.hesc_grammars.specs.declared.place.Place.{Place}
use Rattle.hesc_grammars.specs.declared.place.Place.TheVariants.{DoubleAttribute, SingleAttribute, UnquotedAttribute, ScriptSingle, ScriptBody}
use Rattle.hesc_grammars.specs.declared.step.Mode.TheVariants.{Plain}
use Rattle.hesc_grammars.specs.Places.{reading}
use Rattle.hesc_grammars.specs.Words.{is_white_space}
use Rattle.hesc_places.specs.declared.markup.types.Quoting.{Quoting}
use Rattle.hesc_places.specs.declared.markup.types.Quoting.TheVariants.{Unquoted, Single, Double}
use Rattle.hesc_places.specs.Pages.AttributeReadings.{Entry, and_others, entry, attribute_at, attributes_at, differ, first_ending, quoted_at, unquoted_at, value_at}
use Rattle.hesc_places.specs.Pages.FormReadings.{FormRead, after_attributes, form_found, form_reading, with_attributes, IsTextForm, alerted, script_at, tag_end}
use Rattle.hesc_places.specs.Pages.FormTexts.{AreGood, IsFilled, is_name}
use Rattle.hesc_places.specs.Pages.Parsers.{◌>>=◌, past, past_while, some_while, past_in_any_case}
use Rattle.std.specs.Option.{option_map, option_or}
use Rattle.hesc_places.proofs.Pages.BodyValues.{body_bytes}
use Rattle.hesc_places.proofs.Pages.GoodReadings.{bound, name_read, value_filled}
use Rattle.hesc_places.proofs.Pages.TextParts.{behind_byte, letters_are_ascii, past_text, past_while_text, place_ends, some_while_text, text_behind, text_from, text_up_to, white_space_is_ascii}
use Rattle.hesc_places.proofs.Pages.TextReadings.{HasScalars, double_scalars, place_text, single_scalars, string_scalars, unquoted_scalars}

-- ---- attributes

abbrev Filled : Quoting × List ℕ × List ℕ → Type 0
Filled value = IsFilled value.0 value.1

abbrev IsTextValue : Quoting × List ℕ × List ℕ → Type 0
IsTextValue value = IsUtf8 value.1 × IsUtf8 value.2

-- it may stand in a form, and is a text where it is read from one
abbrev IsValue : List ℕ → Quoting × List ℕ × List ℕ → Type 0
IsValue bytes value = Filled value × (IsUtf8 bytes → IsTextValue value)

behind_quote : (b : ℕ) (bytes : List ℕ) (value : Quoting × List ℕ × List ℕ) → b < 128 → IsValue bytes value → IsValue (b ∷ bytes) value
behind_quote b bytes value small told = (told.0, λ utf8. told.1 (behind_byte b bytes small utf8))

quoted_told : (quoting : Quoting) (place : Place) (bytes : List ℕ) (value : Quoting × List ℕ × List ℕ) → ((text : List ℕ) → IsFilled quoting text) →
    HasScalars place → quoted_at quoting place bytes ≡ Some value → IsValue bytes value
unfolding quoted_at
quoted_told quoting place bytes value any scalars told =
    let found = bound (reading place bytes) (λ found. Some (quoting, found.0, drop (found.1 + 1) bytes)) value told in
    let same : (quoting, found.part.0, drop (found.part.1 + 1) bytes) ≡ value = cc found.others in
    subst (IsValue bytes) same (
      any found.part.0,
      λ utf8.
          (place_text place scalars bytes found.part utf8 found.is, text_behind bytes found.part.1 (place_ends place bytes found.part found.is) utf8),
    )

unquoted_told : (bytes : List ℕ) (value : Quoting × List ℕ × List ℕ) → unquoted_at bytes ≡ Some value → IsValue bytes value
unfolding unquoted_at
unquoted_told bytes value told =
    let end = bound (first_ending bytes) (λ end. reading (UnquotedAttribute end) bytes >>= λ found. Some (Unquoted, found.0, drop found.1 bytes)) value told in
    let place : Place = UnquotedAttribute end.part in
    let found = bound (reading place bytes) (λ found. Some (Unquoted, found.0, drop found.1 bytes)) value end.others in
    let same : (Unquoted, found.part.0, drop found.part.1 bytes) ≡ value = cc found.others in
    subst (IsValue bytes) same (
      value_filled end.part bytes found.part found.is,
      λ utf8.
          (place_text place (unquoted_scalars end.part) bytes found.part utf8 found.is, text_from bytes found.part.1 (place_ends place bytes found.part found.is) utf8),
    )

value_told : (bytes : List ℕ) (value : Quoting × List ℕ × List ℕ) → value_at bytes ≡ Some value → IsValue bytes value
unfolding value_at
value_told [] value told = absurd (cc)
value_told (b ∷ bytes) value told =
    ⊎_elim
    (λ (double : (b == double_quote) ≡ true).
    let is : b ≡ double_quote = eqb-true b double_quote double in
    behind_quote b bytes value (omega (arith, is)) (quoted_told Double DoubleAttribute bytes value (λ text. tt) double_scalars (rw double at told)))
    (λ (other : (b == double_quote) ≡ false).
    ⊎_elim
    (λ (single : (b == single_quote) ≡ true).
    let is : b ≡ single_quote = eqb-true b single_quote single in
    behind_quote b bytes value (omega (arith, is)) (quoted_told Single SingleAttribute bytes value (λ text. tt) single_scalars (rw (other, single) at told)))
    (λ (neither : (b == single_quote) ≡ false). unquoted_told (b ∷ bytes) value (rw (other, neither) at told))
    (cases_Bool (b == single_quote)))
    (cases_Bool (b == double_quote))

record IsGood (a : Entry) : Type 0 where
  name : is_name a.name ≡ true
  filled : IsFilled a.quoting a.value

abbrev IsAttribute : List ℕ → Entry × List ℕ → Type 0
IsAttribute bytes found = IsGood found.0 × (IsUtf8 bytes → IsUtf8 found.0.value × IsUtf8 found.1)

attribute_told : (bytes : List ℕ) (found : Entry × List ℕ) → attribute_at bytes ≡ Some found → IsAttribute bytes found
unfolding attribute_at
attribute_told bytes found told =
    let gap = bound (some_while is_white_space bytes) _ found told in
    let name = bound (some_while is_ascii_lowercase gap.part.1) _ found gap.others in
    let rest = bound (past (codes "=") name.part.1) _ found name.others in
    let value = bound (value_at rest.part) _ found rest.others in
    let is = value_told rest.part value.part value.is in
    let same : (entry name.part.0 value.part.0 value.part.1, value.part.2) ≡ found = cc value.others in
    subst (IsAttribute bytes) same (
      record { name = name_read gap.part.1 name.part name.is; filled = is.0 },
      λ utf8.
          is.1 (past_text (codes "=") name.part.1 rest.part refl rest.is
          (some_while_text is_ascii_lowercase gap.part.1 name.part letters_are_ascii name.is
          (some_while_text is_white_space bytes gap.part white_space_is_ascii gap.is utf8))),
    )

record AreTexts (found : List Entry × List ℕ) : Type 0 where
  values : AllByRecursion (λ a. IsUtf8 a.value) found.0
  rest : IsUtf8 found.1

record AreTold (bytes : List ℕ) (found : List Entry × List ℕ) : Type 0 where
  names : AllByRecursion (λ a. IsTrue (is_name a.name)) found.0
  filled : AllByRecursion (λ a. IsFilled a.quoting a.value) found.0
  texts : IsUtf8 bytes → AreTexts found

others_told : (bytes : List ℕ) (first : Option (Entry × List ℕ)) (go_on : List ℕ → List Entry × List ℕ) → attribute_at bytes ≡ first →
    ((rest : List ℕ) → AreTold rest (go_on rest)) → AreTold bytes (and_others bytes first go_on)
others_told bytes None go_on is each = record { names = tt; filled = tt; texts = λ utf8. record { values = tt; rest = utf8 } }
others_told bytes (Some first) go_on is each =
    let here = attribute_told bytes first is in
    let more = each first.1 in
    record {
      names = (here.0.name, more.names);
      filled = (here.0.filled, more.filled);
      texts = λ utf8.
          let texts = more.texts (here.1 utf8).1 in
          record { values = ((here.1 utf8).0, texts.values); rest = texts.rest };
    }

attributes_told : (most : ℕ) (bytes : List ℕ) → AreTold bytes (attributes_at most bytes)
unfolding attributes_at
attributes_told zero bytes = record { names = tt; filled = tt; texts = λ utf8. record { values = tt; rest = utf8 } }
attributes_told (suc most) bytes = others_told bytes (attribute_at bytes) (attributes_at most) refl (attributes_told most)

-- ---- the script

ended_text : (first second : Option (List ℕ)) (tag : List ℕ) → option_or first second ≡ Some tag → ((rest : List ℕ) → first ≡ Some rest → IsUtf8 rest) →
    ((rest : List ℕ) → second ≡ Some rest → IsUtf8 rest) → IsUtf8 tag
ended_text None second tag told one other = other tag told
ended_text (Some first) second tag told one other = one tag told

tag_text : (bytes tag : List ℕ) → tag_end bytes ≡ Some tag → IsUtf8 bytes → IsUtf8 tag
tag_text bytes tag told utf8 =
    let behind : List ℕ = past_while is_white_space bytes in
    let text = past_while_text is_white_space bytes white_space_is_ascii utf8 in
    ended_text (past (codes "/>") behind) (past (codes ">") behind) tag told
    (λ rest is. past_text (codes "/>") behind rest refl is text)
    (λ rest is. past_text (codes ">") behind rest refl is text)

literal_if : (test : Bool) (value literal : List ℕ) → (if test then Some value else None) ≡ Some literal → value ≡ literal
literal_if true value literal told = cc
literal_if false value literal told = absurd (cc)

alerted_text : (body literal : List ℕ) → alerted body ≡ Some literal → IsUtf8 body → IsUtf8 literal
unfolding alerted
alerted_text body literal told utf8 =
    let inside = bound (past (codes "alert('") body) _ literal told in
    let found = bound (reading ScriptSingle inside.part) _ literal inside.others in
    subst IsUtf8 (literal_if _ found.part.0 literal found.others)
    (place_text ScriptSingle string_scalars inside.part found.part (past_text (codes "alert('") body inside.part refl inside.is utf8) found.is)

script_text : (bytes : List ℕ) (script : List ℕ × List ℕ) → script_at bytes ≡ Some script → IsUtf8 bytes → IsUtf8 script.0
unfolding script_at
script_text bytes script told utf8 =
    let body = bound (reading ScriptBody bytes) _ script told in
    let literal = bound (alerted body.part.0) _ script body.others in
    let rest = bound (past_in_any_case (codes "</script>") (drop body.part.1 bytes)) _ script literal.others in
    let same : literal.part ≡ script.0 = cc rest.others in
    let value = (body_bytes Plain bytes body.part body.is).value in
    subst IsUtf8 same
    (alerted_text body.part.0 literal.part literal.is (rw value (text_up_to bytes body.part.1 (place_ends ScriptBody bytes body.part body.is) utf8)))

behind_attributes_text : (bytes : List ℕ) (script : List ℕ × List ℕ) → after_attributes bytes ≡ Some script → IsUtf8 bytes → IsUtf8 script.0
unfolding after_attributes
behind_attributes_text bytes script told utf8 =
    let tag = bound (tag_end bytes) _ script told in
    let body = bound (past (codes "<script>") tag.part) _ script tag.others in
    script_text body.part script body.others (past_text (codes "<script>") tag.part body.part refl body.is (tag_text bytes tag.part tag.is utf8))

-- ---- the form

if_differs : (test : Bool) (found form : FormRead) → (if test then Some found else None) ≡ Some form → (test ≡ true) × (found ≡ form)
if_differs true found form told = (refl, cc)
if_differs false found form told = absurd (cc)

abbrev pub IsForm : List ℕ → FormRead → Type 0
IsForm bytes form = AreGood form.attributes × (IsUtf8 bytes → IsTextForm form)

with_told : (total : ℕ) (bytes : List ℕ) (found : List Entry × List ℕ) (form : FormRead) → AreTold bytes found → with_attributes total found ≡ Some form →
    IsForm bytes form
unfolding with_attributes
with_told total bytes found form are told =
    let script = bound (after_attributes found.1) _ form told in
    let differs = if_differs (differ (map (λ a. a.name) found.0)) (form_found found.0 script.part.0 (total - length script.part.1)) form script.others in
    subst (IsForm bytes) differs.1 (
      record { names = are.names; differ = differs.0; filled = are.filled },
      λ utf8.
          record { values = (are.texts utf8).values; script = behind_attributes_text found.1 script.part script.is (are.texts utf8).rest },
    )

form_told : (bytes : List ℕ) (form : FormRead) → form_reading bytes ≡ Some form → IsForm bytes form
unfolding form_reading
form_told bytes form told =
    let inside = bound (past (codes "<input") bytes) _ form told in
    let is = with_told (length bytes) inside.part (attributes_at (length inside.part) inside.part) form (attributes_told (length inside.part) inside.part) inside.others in
    (is.0, λ utf8. is.1 (past_text (codes "<input") bytes inside.part refl inside.is utf8))

-- ---- what is answered

pub answers : {F E : Type 0} (P : FormRead → Type 0) (meaning : F → FormRead) (result : Result (Option F) E) (bytes : List ℕ) →
    ((form : FormRead) → IsForm bytes form → P form) → IfOk result (λ found. option_map meaning found ≡ form_reading bytes) →
    IfOk result (λ found. IfSome found (λ form. P (meaning form)))
answers P meaning (Ok None) bytes each is = tt
answers P meaning (Ok (Some form)) bytes each is = each (meaning form) (form_told bytes (meaning form) (sym is))
answers P meaning (Err fault) bytes each is = tt
