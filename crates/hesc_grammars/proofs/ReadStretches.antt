-- Stretches of bytes that are read as they stand: each of their bytes is an item whatever follows it.
use Rattle.std.proofs.Common.{ℕ, ◌≡◌, ◌<◌, ◌+◌, inl, inr, Bool, true, false, ◌||◌, ◌==◌, List, ◌∷◌, refl, arith}
use Rattle.std.proofs.Math.Seq.{drop-cons}
use Rattle.std.proofs.lemmas.Bool.{cases_lt}
use Rattle.std.proofs.lemmas.Bool.Decides.{nat_tests}
use Rattle.std.specs.Char.{to_ascii_lowercase}
use Rattle.std.specs.Prelude.{slice_index}
use Rattle.hesc_specs.specs.Text.Ascii.{ampersand, less_than}
use Rattle.hesc_specs.specs.Text.Classes.{in_class, in_string_class}
use Rattle.hesc_specs.specs.Text.FirstPlace.{IsFirstPlace}
use Rattle.hesc_specs.specs.Strings.Encoding.{is_quote}
use Rattle.hesc_specs.specs.declared.classes.Class.TheVariants.{UnquotedAttribute}
use Rattle.hesc_specs.specs.declared.elements.Element.TheVariants.{Script, Style}
use Rattle.hesc_specs.specs.declared.quotes.Quotes.{Quotes}
use Rattle.hesc_grammars.specs.declared.step.Mode.{Mode}
use Rattle.hesc_grammars.specs.declared.step.Mode.TheVariants.{Plain, Escaped, DoubleEscaped}
use Rattle.hesc_grammars.specs.declared.step.Step.{Step}
use Rattle.hesc_grammars.specs.declared.step.Step.TheVariants.{Byte}
use Rattle.hesc_grammars.specs.Bodies.{script_body_step, style_body_step}
use Rattle.hesc_grammars.specs.Html.{marked_step, unquoted_step}
use Rattle.hesc_grammars.specs.ScriptStrings.{script_string_step}
use Rattle.hesc_grammars.specs.StyleStrings.{style_string_step}
use Rattle.hesc_grammars.specs.Stretches.{IsStretch, is_special}

-- a byte that does not pass the test is read as itself in the mode, whatever follows it
pub record ReadsOthers (test : ℕ → Bool) (step : Mode → List ℕ → Step) (mode : Mode) : Type 0 where
  pub other : (b : ℕ) (rest : List ℕ) → test b ≡ false → step mode (b ∷ rest) ≡ Byte 0 b mode

-- up to the first byte that passes it
pub up_to_first : {test : ℕ → Bool} {step : Mode → List ℕ → Step} {mode : Mode} {bytes : List ℕ} {count : ℕ} →
    ReadsOthers test step mode → IsFirstPlace test bytes 0 count → IsStretch step mode bytes count
up_to_first reads first = grind (arith, nat_tests, drop-cons)

pub marked : (mark : ℕ) → ReadsOthers (λ b. b == mark || b == ampersand) (marked_step mark) Plain
unfolding marked_step
marked mark = grind (arith, nat_tests)

pub unquoted : (end : ℕ) → ReadsOthers is_special (unquoted_step end) Plain
unfolding unquoted_step
unquoted end = grind (arith, nat_tests)

-- what is special is a symbol
no_symbol : (b : ℕ) → in_class UnquotedAttribute b ≡ false → is_special b ≡ false
no_symbol b none = grind (arith, nat_tests)

-- none of the bytes up to a place is special
abbrev pub NoneSpecial : List ℕ → ℕ → Type 0
NoneSpecial bytes place = (k : ℕ) → k < place → is_special (slice_index bytes k) ≡ false

-- from a place where none is, none is up to the next symbol
pub none_further : (bytes : List ℕ) (place next : ℕ) → NoneSpecial bytes place → IsFirstPlace (in_class UnquotedAttribute) bytes place next → NoneSpecial bytes next
none_further bytes place next none first = λ k below. elim (cases_lt k place) [
  | inl before ↦ none k before
  | inr after ↦ no_symbol (slice_index bytes k) (first.before k after below)
]

-- and the symbol itself may be none
pub none_at : (bytes : List ℕ) (place : ℕ) → NoneSpecial bytes place → is_special (slice_index bytes place) ≡ false → NoneSpecial bytes (place + 1)
none_at bytes place none here = λ k below. elim (cases_lt k place) [
  | inl before ↦ none k before
  | inr after ↦ let same : k ≡ place = omega arith in rw same here
]

pub script_string : (quotes : Quotes) (mark : ℕ) → is_quote quotes mark ≡ true → ReadsOthers (in_string_class Script quotes) (script_string_step mark) Plain
unfolding script_string_step
script_string quotes mark is_mark = grind (arith, nat_tests)

pub style_string : (quotes : Quotes) (mark : ℕ) → is_quote quotes mark ≡ true → ReadsOthers (in_string_class Style quotes) (style_string_step mark) Plain
unfolding style_string_step
style_string quotes mark is_mark = grind (arith, nat_tests)

in_no_case : (b : ℕ) → (b == less_than) ≡ false → (to_ascii_lowercase b == less_than) ≡ false
in_no_case b other = grind (arith, nat_tests)

pub style_body : ReadsOthers (λ b. b == less_than) style_body_step Plain
unfolding style_body_step
style_body = record { other = λ b rest other. rw (in_no_case b other) refl }

pub script_body : ReadsOthers (λ b. b == less_than) script_body_step Plain
unfolding script_body_step
script_body = record { other = λ b rest other. rw (in_no_case b other, other) refl }

pub escaped : ReadsOthers (λ b. b == less_than || b == 45) script_body_step Escaped
unfolding script_body_step
escaped = grind (arith, nat_tests)

pub double_escaped : ReadsOthers (λ b. b == less_than || b == 45) script_body_step DoubleEscaped
unfolding script_body_step
double_escaped = grind (arith, nat_tests)
