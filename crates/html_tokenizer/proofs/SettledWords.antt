-- The words of a script, over bytes that are no marks and begin neither `import` nor `from`.
use Rattle.std.proofs.Common.{inl, inr, ℕ, ◌≡◌, Bool, true, false, not, ◌||◌, ◌==◌, refl, ap, sym, ◌∙◌, if◌then◌else◌, arith, ⊎_elim}
use Rattle.std.proofs.lemmas.Bool.{cases_Bool, eqb-true}
use Rattle.std.proofs.lemmas.Bool.Decides.{nat_tests}
use Rattle.hesc_specs.specs.Text.Ascii.{number_sign, double_quote, single_quote, slash, less_than, backslash, backtick}
use Rattle.html_tokenizer.specs.declared.states.Code.TheVariants.{Name, Plain}
use Rattle.html_tokenizer.specs.declared.elements.Content.{Content}
use Rattle.html_tokenizer.specs.declared.elements.OpenElement.TheVariants.{Script}
use Rattle.html_tokenizer.specs.Tokenizer.Code.{byte_of_code}
use Rattle.html_tokenizer.specs.Tokenizer.Code.Characters.{lower_f, lower_i}
use Rattle.html_tokenizer.specs.Tokenizer.Code.Comments.{stays}
use Rattle.html_tokenizer.specs.Tokenizer.Code.Scripts.{name_byte, script_byte, script_code_byte}
use Rattle.html_tokenizer.specs.Tokenizer.Code.Words.{is_name_byte}
use Rattle.html_tokenizer.specs.Tokenizer.Comments.{dash}
use Rattle.html_tokenizer.specs.Tokenizer.States.{InCode, at}
use Rattle.html_tokenizer.specs.Tokenizer.Stretches.{begins_word, is_mark, settled, stays_settled}
use Rattle.html_tokenizer.specs.Tokenizer.Tokenization.{consume}
use Rattle.html_tokenizer.specs.Tokenizer.Transitions.{Transition}

-- both words begin with a byte of one
begins_named : (b : ℕ) → begins_word b ≡ true → is_name_byte b ≡ true
begins_named b begins =
    ⊎_elim
    (λ (i : (b == lower_i) ≡ true). rw (eqb-true b lower_i i) refl)
    (λ (no_i : (b == lower_i) ≡ false). let f : (b == lower_f) ≡ true = rw no_i at begins in rw (eqb-true b lower_f f) refl)
    (cases_Bool (b == lower_i))

module _ (content : Content) (b : ℕ) (unmarked : is_mark b ≡ false) where
  -- after a byte that is of no name
  script_settles : begins_word b ≡ false → script_byte content b ≡ (if is_name_byte b then stays Name content b else stays Plain content b)
  script_settles begins =
      let marks : (b == double_quote || b == single_quote || b == backslash || b == backtick || b == number_sign || b == slash || b == dash || b == less_than) ≡ false = unmarked in
      grind (arith, nat_tests)

  code_settles : (last is : Bool) → is_name_byte b ≡ is → (last ≡ false → begins_word b ≡ false) →
      script_code_byte (if last then Name else Plain) content b ≡ stays (if is then Name else Plain) content b
  code_settles true true named begins = rw named refl
  code_settles true false named begins =
      let unbegun : begins_word b ≡ false =
      elim (cases_Bool (begins_word b)) [
        | inl does ↦ let both : true ≡ false = sym (begins_named b does) ∙ named in cc
        | inr does_not ↦ does_not
      ] in
      let unnamed : name_byte content b ≡ script_byte content b = rw named refl in
      unnamed ∙ script_settles unbegun ∙ rw named refl
  code_settles false true named begins = script_settles (begins refl) ∙ rw named refl
  code_settles false false named begins = script_settles (begins refl) ∙ rw named refl

split : (named marked begins : Bool) → (if named then not marked else not (marked || begins)) ≡ true →
    (marked ≡ false) × (named ≡ false → begins ≡ false)
split true false begins stay = (refl, λ no. cc)
split true true begins stay = cc
split false false false stay = (refl, λ no. refl)
split false false true stay = cc
split false true begins stay = cc

pub words_settle : (last b : ℕ) (content : Content) → stays_settled last b ≡ true → content.element ≡ Script →
    (consume (at (InCode (settled last)) content) b).next ≡ at (InCode (settled b)) content
unfolding consume
words_settle last b content stay script =
    let parts = split (is_name_byte last) (is_mark b) (begins_word b) stay in
    let unmarked : is_mark b ≡ false = parts.0 in
    let less : (b == less_than) ≡ false = grind (arith, nat_tests) in
    let in_script : byte_of_code content.element (settled last) content b ≡ script_code_byte (settled last) content b =
    ap (λ element. byte_of_code element (settled last) content b) script in
    rw less (ap (λ (t : Transition). t.next)
    (in_script ∙ code_settles content b unmarked (is_name_byte last) (is_name_byte b) refl parts.1))
