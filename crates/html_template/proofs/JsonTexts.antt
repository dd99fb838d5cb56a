-- What is written for JSON is not white space alone, and is JSON of the same value.
use Rattle.std.proofs.Common.{ℕ, ◌≡◌, true, false, ◌&&◌, List, [], ◌∷◌, Some, None, option_and_then, refl, sym, ap, ap₂, ◌∙◌, arith, inl, inr}
use Rattle.std.specs.List.{list_all}
use Rattle.std.proofs.lemmas.Bool.{and_parts, cases_Bool}
use Rattle.std.proofs.lemmas.Bool.Decides.{nat_tests}
use Rattle.std.proofs.lemmas.List.Folds.{list_all-append}
use Rattle.json.specs.Json.{Json, document, if_last, max_depth, value}
use Rattle.json.specs.Lex.{between, class, fresh, lex, lex_byte, punctuate, space}
use Rattle.html_json.proofs.SameValue.{same_value}
use Rattle.html_json.specs.Encoding.{json_encoding, json_image}
use Rattle.html_template.specs.Slots.{json_of}
use Rattle.html_tokenizer.specs.Tokenizer.Code.Scripts.{is_json_space}

image_blank : (b : ℕ) → list_all is_json_space (json_image b) ≡ is_json_space b
image_blank b = grind (arith, nat_tests)

encoding_blank : (text : List ℕ) → list_all is_json_space (json_encoding text) ≡ list_all is_json_space text
encoding_blank [] = refl
encoding_blank (b ∷ text) =
    list_all-append is_json_space (json_image b) (json_encoding text) ∙ ap₂ (λ x y. x && y) (image_blank b) (encoding_blank text)

json_not_blank : (text : List ℕ) → list_all is_json_space (json_of text) ≡ false
json_not_blank text = elim (cases_Bool (list_all is_json_space text)) [
  | inl blank ↦ rw blank refl
  | inr other ↦ rw other other
]

pub some_json : (text : List ℕ) → list_all is_json_space (json_encoding (json_of text)) ≡ false
some_json text = encoding_blank (json_of text) ∙ json_not_blank text

-- ---- JSON stays

space_class : (b : ℕ) → is_json_space b ≡ true → class b ≡ space
space_class b is = grind (arith, nat_tests)

blank_lexemes : (text : List ℕ) → list_all is_json_space text ≡ true → lex between text ≡ []
unfolding lex
blank_lexemes [] blank = refl
blank_lexemes (b ∷ text) blank =
    let parts = and_parts (is_json_space b) (list_all is_json_space text) blank in
    ap (λ c. lex_byte between c b text (λ next. lex next text)) (space_class b parts.0) ∙ blank_lexemes text parts.1

none_of_nothing : document [] ≡ None
unfolding value punctuate lex
none_of_nothing = refl

blank_none : (text : List ℕ) → list_all is_json_space text ≡ true → document text ≡ None
blank_none text blank =
    ap (λ ls. option_and_then (λ p. if_last p.0 p.1) (value max_depth (punctuate fresh ls))) (blank_lexemes text blank ∙ sym (blank_lexemes [] refl)) ∙ none_of_nothing

json_itself : (text : List ℕ) (found : Json) → document text ≡ Some found → json_of text ≡ text
json_itself text found is = elim (cases_Bool (list_all is_json_space text)) [
  | inl blank ↦ let never : None ≡ Some found = sym (blank_none text blank) ∙ is in cc
  | inr some ↦ rw some refl
]

pub same_json : (text : List ℕ) (found : Json) → document text ≡ Some found → document (json_encoding (json_of text)) ≡ Some found
same_json text found is = ap (λ t. document (json_encoding t)) (json_itself text found is) ∙ same_value text found is
