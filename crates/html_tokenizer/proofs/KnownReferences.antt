-- A reference that the grammars of places read, by one of six names or a number, is read by the tokenizer as the same character.
use Rattle.std.proofs.Common.{ℕ, ◌≡◌, Bool, true, false, ◌&&◌, ◌||◌, List, [], ◌∷◌, ◌++◌, ◌==◌, Option, Some, None, if◌then◌else◌, bytes_eq, codes, encode_utf8, refl, arith, ⊎_elim}
use Rattle.std.specs.Char.{is_ascii_alphanumeric, is_digit}
use Rattle.std.specs.List.{list_all}
use Rattle.std.proofs.lemmas.Bool.{and_parts, cases_Bool, eqb-true}
use Rattle.std.proofs.lemmas.Bool.Decides.{nat_tests}
use Rattle.std.proofs.lemmas.Slice.Eq.{bytes_eq-Decides}
use Rattle.hesc_specs.specs.Text.Ascii.{ampersand, double_quote, greater_than, less_than, number_sign, semicolon, single_quote}
use Rattle.hesc_specs.specs.Text.Words.{begins}
use Rattle.hesc_grammars.specs.References.{body_character, digits_character, named_character, no_break_space}
use Rattle.html_entities.proofs.References.{same_value}
use Rattle.html_tokenizer.specs.declared.slot_place.SlotPlace.{SlotPlace}
use Rattle.html_tokenizer.specs.declared.elements.Content.{Content}
use Rattle.html_tokenizer.specs.Tokenizer.Values.References.{behind_reference, goes_on, named_characters, reference_end}
use Rattle.html_tokenizer.specs.Tokenizer.States.{Attribute}
use Rattle.html_tokenizer.specs.Tokenizer.Transitions.{Transition}
use Rattle.html_tokenizer.specs.Tokenizer.Values.{character_read}

-- after the word, each byte of the body goes on with a reference
abbrev pub is_held : List ℕ → List ℕ → Bool
is_held word [] = true
is_held word (b ∷ body) = goes_on word b && is_held (word ++ b ∷ []) body

-- the body is held, and at the `;` it is read as the character
pub record IsKnown (body : List ℕ) (c : ℕ) : Type 0 where
  pub held : is_held [] body ≡ true
  pub read : (p : SlotPlace) (content : Content) (attribute : Attribute) (again : Transition) →
      reference_end p content attribute body semicolon again ≡ character_read p content (behind_reference body attribute) (Some c)

abbrev are_letters : List ℕ → Bool
are_letters word = list_all is_ascii_alphanumeric word

letters_held : (word body : List ℕ) → are_letters body ≡ true → is_held word body ≡ true
letters_held word [] letters = refl
letters_held word (b ∷ body) letters =
    let parts = and_parts (is_ascii_alphanumeric b) (are_letters body) letters in
    rw (parts.0, letters_held (word ++ b ∷ []) body parts.1) refl

-- digits of a base are letters or digits
hex_is_letter : (d : ℕ) → is_digit d 16 ≡ true → is_ascii_alphanumeric d ≡ true
hex_is_letter d is = grind (arith, nat_tests)

decimal_is_letter : (d : ℕ) → is_digit d 10 ≡ true → is_ascii_alphanumeric d ≡ true
decimal_is_letter d is = grind (arith, nat_tests)

all_letters : (test : ℕ → Bool) → ((d : ℕ) → test d ≡ true → is_ascii_alphanumeric d ≡ true) → (digits : List ℕ) → list_all test digits ≡ true → are_letters digits ≡ true
all_letters test is_letter [] all = refl
all_letters test is_letter (d ∷ digits) all =
    let parts = and_parts (test d) (list_all test digits) all in
    rw (is_letter d parts.0, all_letters test is_letter digits parts.1) refl

-- what has a character by digits is made of them
digits_letters : (base : ℕ) → ((d : ℕ) → is_digit d base ≡ true → is_ascii_alphanumeric d ≡ true) →
    (digits : List ℕ) (c : ℕ) → digits_character base digits ≡ Some c → are_letters digits ≡ true
digits_letters base is_letter digits c is = all_letters (λ d. is_digit d base) is_letter digits (grind arith)

-- an `x` before hex digits
abbrev is_hex_mark : ℕ → Bool
is_hex_mark x = begins (codes "x") (x ∷ []) || begins (codes "X") (x ∷ [])

-- what follows the `#` of a number
number_letters : (rest : List ℕ) (c : ℕ) → body_character (number_sign ∷ rest) ≡ Some c → are_letters rest ≡ true
number_letters [] c is = refl
number_letters (x ∷ digits) c is =
    ⊎_elim
    (λ (hex : is_hex_mark x ≡ true).
    let letter : is_ascii_alphanumeric x ≡ true = grind (arith, nat_tests) in
    rw (letter, digits_letters 16 hex_is_letter digits c (rw hex at is)) refl)
    (λ (decimal : is_hex_mark x ≡ false). digits_letters 10 decimal_is_letter (x ∷ digits) c (rw decimal at is))
    (cases_Bool (is_hex_mark x))

number_known : (rest : List ℕ) (c : ℕ) → body_character (number_sign ∷ rest) ≡ Some c → IsKnown (number_sign ∷ rest) c
number_known rest c is = record {
  held = letters_held (number_sign ∷ []) rest (number_letters rest c is);
  read = λ p content attribute again. rw is refl;
}

-- a name whose character is that of the table
record IsNamed (name : List ℕ) (c : ℕ) : Type 0 where
  value : named_characters name ≡ Some (encode_utf8 c)
  letters : are_letters name ≡ true

-- a name is this word, or else is known by others
named_as : (word name : List ℕ) (d c : ℕ) (others : Option ℕ) → IsNamed word d → (others ≡ Some c → IsNamed name c) →
    (if bytes_eq name word then Some d else others) ≡ Some c → IsNamed name c
named_as word name d c others here there is =
    ⊎_elim
    (λ (same : bytes_eq name word ≡ true).
    let found : Some d ≡ Some c = rw same at is in
    let character : d ≡ c = cc in
    rw (← character, (bytes_eq-Decides name word).0 same) here)
    (λ (other : bytes_eq name word ≡ false). there (rw other at is))
    (cases_Bool (bytes_eq name word))

six : IsNamed (codes "amp") ampersand × IsNamed (codes "apos") single_quote × IsNamed (codes "gt") greater_than ×
    IsNamed (codes "lt") less_than × IsNamed (codes "nbsp") no_break_space × IsNamed (codes "quot") double_quote
unfolding named_characters lib.Utf8.encode
six = (
  record { value = same_value (codes "amp") (codes "&") refl; letters = refl },
  record { value = same_value (codes "apos") (codes "'") refl; letters = refl },
  record { value = same_value (codes "gt") (codes ">") refl; letters = refl },
  record { value = same_value (codes "lt") (codes "<") refl; letters = refl },
  record { value = same_value (codes "nbsp") (encode_utf8 no_break_space) refl; letters = refl },
  record { value = same_value (codes "quot") (double_quote ∷ []) refl; letters = refl },
)

named : (name : List ℕ) (c : ℕ) → named_character name ≡ Some c → IsNamed name c
named name c =
    named_as (codes "amp") name ampersand c _ six.0
    (named_as (codes "apos") name single_quote c _ six.1
    (named_as (codes "gt") name greater_than c _ six.2
    (named_as (codes "lt") name less_than c _ six.3
    (named_as (codes "nbsp") name no_break_space c _ six.4
    (named_as (codes "quot") name double_quote c _ six.5 (λ (never : None ≡ Some c). cc))))))

name_known : (first : ℕ) (rest : List ℕ) (c : ℕ) → (first == number_sign) ≡ false → body_character (first ∷ rest) ≡ Some c → IsKnown (first ∷ rest) c
name_known first rest c other is =
    let name : IsNamed (first ∷ rest) c = named (first ∷ rest) c (rw other at is) in
    record {
      held = letters_held [] (first ∷ rest) name.letters;
      read = λ p content attribute again. rw (other, name.value) refl;
    }

pub known : (body : List ℕ) (c : ℕ) → body_character body ≡ Some c → IsKnown body c
known [] c is = cc
known (first ∷ rest) c is =
    ⊎_elim
    (λ (begins : (first == number_sign) ≡ true).
    let same : first ≡ number_sign = eqb-true first number_sign begins in
    rw same (number_known rest c (rw same at is)))
    (λ (other : (first == number_sign) ≡ false). name_known first rest c other is)
    (cases_Bool (first == number_sign))
