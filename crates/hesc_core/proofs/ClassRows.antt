-- The bytes of a class that have a text in its table, and those that have none.
use Rattle.std.proofs.Common.{◌≡◌, ◌≢◌, ℕ, zero, suc, ◌+◌, ◌≤◌, ◌<◌, ◌==◌, ◌⊎◌, true, not, nat_lt, List, [], Some, None, Option, ◌∙◌, ne_eqb, length, slice_index, refl, sym, arith, inl, inr}
use Rattle.std.proofs.lemmas.Bool.{agree_below, agree_below_at, cases_eq, cases_lt, ltb-true}
use Rattle.std.proofs.lemmas.Bool.Decides.{nat_tests}
use Rattle.std.proofs.lemmas.List.{get_or_past}
use Rattle.std.specs.Str.{IsUtf8}
use Rattle.hesc_specs.specs.Html.{reference_to}
use Rattle.hesc_specs.specs.Strings.Encoding.{string_escape}
use Rattle.hesc_specs.specs.Text.Classes.{element_of, in_class, in_string_class, separator_lead, string_class}
use Rattle.hesc_specs.specs.Text.Escaped.{escape_changes}
use Rattle.hesc_specs.specs.Text.EscapedPlaces.{escapes_at}
use Rattle.hesc_specs.specs.declared.classes.Class.{Class}
use Rattle.hesc_specs.specs.declared.elements.Element.{Element}
use Rattle.hesc_specs.specs.declared.elements.Element.TheVariants.{Script, Style}
use Rattle.hesc_specs.specs.declared.quotes.Quotes.{Quotes}
use Rattle.hesc_specs.specs.declared.quotes.Quotes.TheVariants.{Single, Double, Both}
use Rattle.hesc_specs.proofs.Html.Images.{in_class_is_ascii}
use Rattle.hesc_specs.proofs.Strings.CharacterBytes.{in_class-string}
use Rattle.hesc_sinks.specs.AsciiRows.{HasText, Rows, text_at}
use Rattle.hesc_sinks.specs.Text.{replacement_bytes}
use Rattle.hesc_sinks.specs.declared.found.Replacement.{Replacement}
use Rattle.hesc_engine.specs.Next.{IsChangeAt}
use Rattle.hesc_engine.specs.Rules.{ReplacesByRows}
use Rattle.hesc_core.specs.ClassTexts.{class_rows}
use Rattle.hesc_core.specs.declared.rules.escape.escapes.TheConstants.{SCRIPT_ESCAPES, STYLE_ESCAPES}
use Rattle.hesc_core.specs.declared.rules.escape.references.TheConstants.{REFERENCES}
use Rattle.hesc_core.proofs.AsciiTables.{row_is_text, row_of}
use Rattle.hesc_core.proofs.ClassEscapes.{byte_at, reference_at}
use Rattle.hesc_core.proofs.StyleEscapes.{style_row_is_text}

-- only ASCII bytes have a text
has_is_ascii : (rows : Rows) → length rows ≡ 128 → (b : ℕ) → HasText rows b → b < 128
has_is_ascii rows all b has = elim (cases_lt b 128) [
  | inl below ↦ below
  | inr past ↦ absurd (omega (arith, rw (get_or_past rows b ([], 0) (omega (arith, all, past))) at has))
]

-- each ASCII byte has one in a table in which all have, and each but NUL where all but NUL have
has_row : (rows : Rows) → agree_below (λ k. nat_lt 0 (row_of rows k).1) (λ _. true) 128 ≡ true → (b : ℕ) → b < 128 → HasText rows b
has_row rows all b ascii = ltb-true _ _ (agree_below_at (λ k. nat_lt 0 (row_of rows k).1) (λ _. true) 128 b all ascii)

has_row_but_nul : (rows : Rows) → agree_below (λ k. nat_lt 0 (row_of rows k).1) (λ k. not (k == 0)) 128 ≡ true → (b : ℕ) → b < 128 → b ≢ 0 → HasText rows b
has_row_but_nul rows all b ascii some = ltb-true _ _ (agree_below_at (λ k. nat_lt 0 (row_of rows k).1) (λ k. not (k == 0)) 128 b all ascii ∙ rw (ne_eqb b 0 some) refl)

-- NUL has none in a style
is_some : (b : ℕ) → HasText STYLE_ESCAPES b → 0 < b
is_some zero some = some
is_some (suc b) some = omega arith

-- the bytes of a string's class beyond ASCII
script_is_lead : (quotes : Quotes) (b : ℕ) → in_string_class Script quotes b ≡ true → 128 ≤ b → b ≡ separator_lead
script_is_lead Single b hit past = grind (arith, nat_tests, hit, past)
script_is_lead Double b hit past = grind (arith, nat_tests, hit, past)
script_is_lead Both b hit past = grind (arith, nat_tests, hit, past)

style_is_ascii : (quotes : Quotes) (b : ℕ) → in_string_class Style quotes b ≡ true → b < 128
style_is_ascii Single b hit = grind (arith, nat_tests, hit)
style_is_ascii Double b hit = grind (arith, nat_tests, hit)
style_is_ascii Both b hit = grind (arith, nat_tests, hit)

-- the text of a sought byte in its table stands for it
by_rows_in : (class : Class) (strings : Option (Element × Quotes)) → string_class class ≡ strings → (source : List ℕ) → IsUtf8 source → (place : ℕ) → place < length source → in_class class (slice_index source place) ≡ true
    → HasText (class_rows class) (slice_index source place) → (replacement : Replacement) → replacement_bytes replacement ≡ text_at (class_rows class) (slice_index source place)
    → IsChangeAt (escapes_at class source) source (escape_changes class source) place record { start = place; end = place + 1; replacement = replacement }
by_rows_in class None is source text place within hit has replacement becomes =
    let b = slice_index source place in
    reference_at class is source text place within hit replacement
    (rw is at becomes ∙ row_is_text REFERENCES reference_to refl b (row_of REFERENCES b) (in_class_is_ascii class b is hit) refl)
by_rows_in class (Some (Script, quotes)) is source text place within hit has replacement becomes =
    let b = slice_index source place in
    let ascii : b < 128 = has_is_ascii SCRIPT_ESCAPES refl b (rw is at has) in
    byte_at class Script (rw is refl) source text place within hit ascii replacement
    (rw is at becomes ∙ row_is_text SCRIPT_ESCAPES (string_escape Script) refl b (row_of SCRIPT_ESCAPES b) ascii refl)
by_rows_in class (Some (Style, quotes)) is source text place within hit has replacement becomes =
    let b = slice_index source place in
    let some : HasText STYLE_ESCAPES b = rw is at has in
    let ascii : b < 128 = has_is_ascii STYLE_ESCAPES refl b some in
    byte_at class Style (rw is refl) source text place within hit ascii replacement
    (rw is at becomes ∙ style_row_is_text b ascii (is_some b some))

pub by_rows : (class : Class) → ReplacesByRows (class_rows class) (escapes_at class) (in_class class) (escape_changes class)
by_rows class source text place within hit has replacement becomes = by_rows_in class (string_class class) refl source text place within hit has replacement becomes

-- a sought byte without a text is NUL in a style, or the first byte of a separator in a script
without_text_in : (class : Class) (strings : Option (Element × Quotes)) → string_class class ≡ strings → (b : ℕ) → in_class class b ≡ true → (HasText (class_rows class) b → ⊥)
    → ((element_of class ≡ Some Style) × (b ≡ 0)) ⊎ ((element_of class ≡ Some Script) × (b ≡ separator_lead))
without_text_in class None is b hit without = absurd (without (rw is (has_row REFERENCES refl b (in_class_is_ascii class b is hit))))
without_text_in class (Some (Script, quotes)) is b hit without = elim (cases_lt b 128) [
  | inl ascii ↦ absurd (without (rw is (has_row SCRIPT_ESCAPES refl b ascii)))
  | inr past ↦ inr (rw is refl, script_is_lead quotes b (sym (in_class-string class _ quotes b is) ∙ hit) past)
]
without_text_in class (Some (Style, quotes)) is b hit without = elim (cases_eq b 0) [
  | inl nul ↦ inl (rw is refl, nul)
  | inr other ↦ absurd (without (rw is (has_row_but_nul STYLE_ESCAPES refl b (style_is_ascii quotes b (sym (in_class-string class _ quotes b is) ∙ hit)) other)))
]

pub without_text : (class : Class) (b : ℕ) → in_class class b ≡ true → (HasText (class_rows class) b → ⊥)
    → ((element_of class ≡ Some Style) × (b ≡ 0)) ⊎ ((element_of class ≡ Some Script) × (b ≡ separator_lead))
without_text class b hit without = without_text_in class (string_class class) refl b hit without
