-- The lexemes stay the same up to the first that is no JSON, and so do the tokens.
use Rattle.std.proofs.Common.{◌≡◌, ◌⊎◌, ℕ, Bool, true, false, ◌==◌, List, [], ◌∷◌, ◌++◌, Option, Some, None, inl, inr, refl, sym, ap, ◌∙◌, subst}
use Rattle.std.specs.List.{list_all}
use Rattle.std.proofs.lemmas.Bool.{and_parts, cases_Bool, eqb-true, true≢false, false≢true}
use Rattle.hesc_specs.specs.Text.Ascii.{less_than}
use Rattle.json.specs.Align.{is_good}
use Rattle.json.specs.Lex.{Class, Lexeme, Mode, Place, after_comma, after_key, after_value, backslash, begins_colon, between, class, colon, comma, fresh, if_allowed, in_escape, in_string, in_word, lex, lex_byte, may_begin, may_close, operator, other as other_class, place_token, punctuate, quote, space, string_token, token}
use Rattle.json.specs.Text.{content, plain as within_string}
use Rattle.json.specs.Word.{after_number, word}
use Rattle.json.specs.Token.{Token}
use Rattle.html_json.specs.Encoding.{json_encoding, json_image}
use Rattle.html_json.proofs.SameValue.Contents.{content_kept, other_stays}
use Rattle.html_json.proofs.SameValue.Words.{word_same}

-- the second list is the first, up to what is no JSON
abbrev pub Mends : List Lexeme → List Lexeme → Type 0
Mends [] others = others ≡ []
Mends (l ∷ ls) others = (l ≡ token Token.bad) ⊎ ((rest : List Lexeme) × (others ≡ l ∷ rest) × Mends ls rest)

more : (l : Lexeme) (ls rest : List Lexeme) → Mends ls rest → Mends (l ∷ ls) (l ∷ rest)
more l ls rest mends = inr (rest, refl, mends)

-- ---- from bytes to lexemes

string_kept : (xs : List ℕ) (rest others : List Lexeme) (found : Option (List ℕ)) → content within_string xs ≡ found → Mends rest others
    → Mends (token (string_token (content within_string xs)) ∷ rest) (token (string_token (content within_string (json_encoding xs))) ∷ others)
string_kept xs rest others None none mends = inl (ap (λ o. token (string_token o)) none)
string_kept xs rest others (Some s) some mends =
    inr (others, ap (λ o. token (string_token o) ∷ others) (content_kept within_string xs s some ∙ sym some), mends)

word_kept : (x : ℕ) (xs : List ℕ) (rest others : List Lexeme) → (x == less_than) ≡ false → class x ≡ other_class → (good : Bool) → is_good (word (x ∷ xs)) ≡ good → Mends rest others
    → Mends (token (word (x ∷ xs)) ∷ rest) (token (word (x ∷ json_encoding xs)) ∷ others)
word_kept x xs rest others plain is true good mends = inr (others, ap (λ t. token t ∷ others) (word_same x xs plain is good), mends)
word_kept x xs rest others plain is false bad mends = inl (ap token (no_good (word (x ∷ xs)) bad))
  where
    no_good : (t : Token) → is_good t ≡ false → t ≡ Token.bad
    no_good Token.bad none = refl
    no_good other none = absurd (true≢false none)

-- a byte that stays, by its class
byte_kept : (mode : Mode) (c : Class) (x : ℕ) (xs : List ℕ) → class x ≡ c → (x == less_than) ≡ false → ((next : Mode) → Mends (lex next xs) (lex next (json_encoding xs)))
    → Mends (lex_byte mode c x xs (λ next. lex next xs)) (lex_byte mode c x (json_encoding xs) (λ next. lex next (json_encoding xs)))
byte_kept between quote x xs is plain rest = string_kept xs _ _ _ refl (rest in_string)
byte_kept between backslash x xs is plain rest = inl refl
byte_kept between operator x xs is plain rest = more _ _ _ (rest between)
byte_kept between space x xs is plain rest = rest between
byte_kept between other_class x xs is plain rest = word_kept x xs _ _ plain is _ refl (rest in_word)
byte_kept in_word quote x xs is plain rest = rest in_word
byte_kept in_word backslash x xs is plain rest = rest in_word
byte_kept in_word operator x xs is plain rest = more _ _ _ (rest between)
byte_kept in_word space x xs is plain rest = rest between
byte_kept in_word other_class x xs is plain rest = rest in_word
byte_kept in_string quote x xs is plain rest = rest between
byte_kept in_string backslash x xs is plain rest = rest in_escape
byte_kept in_string operator x xs is plain rest = rest in_string
byte_kept in_string space x xs is plain rest = rest in_string
byte_kept in_string other_class x xs is plain rest = rest in_string
byte_kept in_escape quote x xs is plain rest = rest in_string
byte_kept in_escape backslash x xs is plain rest = rest in_string
byte_kept in_escape operator x xs is plain rest = rest in_string
byte_kept in_escape space x xs is plain rest = rest in_string
byte_kept in_escape other_class x xs is plain rest = rest in_string

-- a `<`
less_kept : (mode : Mode) (xs : List ℕ) → ((next : Mode) → Mends (lex next xs) (lex next (json_encoding xs)))
    → Mends (lex mode (less_than ∷ xs)) (lex mode (json_image less_than ++ json_encoding xs))
unfolding lex word after_number
less_kept between xs rest = inl refl
less_kept in_word xs rest = rest in_word
less_kept in_string xs rest = rest in_string
less_kept in_escape xs rest = rest in_string

pub lexemes_kept : (mode : Mode) (bytes : List ℕ) → Mends (lex mode bytes) (lex mode (json_encoding bytes))
unfolding lex
lexemes_kept mode [] = refl
lexemes_kept mode (x ∷ xs) = elim (cases_Bool (x == less_than)) [
  | inl same ↦
      subst (λ b. Mends (lex mode (b ∷ xs)) (lex mode (json_encoding (b ∷ xs)))) (sym (eqb-true x less_than same)) (less_kept mode xs (λ next. lexemes_kept next xs))
  | inr other ↦
      subst (λ bytes. Mends (lex mode (x ∷ xs)) (lex mode bytes)) (sym (other_stays x xs other)) (byte_kept mode (class x) x xs refl other (λ next. lexemes_kept next xs))
]

-- ---- from lexemes to tokens

abbrev are_good : List Token → Bool
are_good ts = list_all is_good ts

-- a place goes on the same
abbrev Goes : (Place → List Token) → (Place → List Token) → Type 0
Goes k others = (next : Place) → are_good (k next) ≡ true → others next ≡ k next

allowed_same : (b : Bool) (t : Token) (k others : Place → List Token) (next : Place) → Goes k others → are_good (if_allowed b t k next) ≡ true
    → if_allowed b t others next ≡ if_allowed b t k next
allowed_same true t k others next goes good = ap (λ ts. t ∷ ts) (goes next (and_parts _ _ good).1)
allowed_same false t k others next goes good = refl

placed_same : (p : Place) (t : Token) (before : Bool) (k others : Place → List Token) → Goes k others → are_good (place_token p t before k) ≡ true
    → place_token p t before others ≡ place_token p t before k
placed_same p Token.begin_object before k others goes good = allowed_same (may_begin p) _ k others _ goes good
placed_same p Token.end_object before k others goes good = allowed_same (may_close p) _ k others _ goes good
placed_same p Token.begin_array before k others goes good = allowed_same (may_begin p) _ k others _ goes good
placed_same p Token.end_array before k others goes good = allowed_same (may_close p) _ k others _ goes good
placed_same p (Token.key s) before k others goes good = refl
placed_same p (Token.string s) true k others goes good = allowed_same (may_begin p) _ k others _ goes good
placed_same p (Token.string s) false k others goes good = allowed_same (may_begin p) _ k others _ goes good
placed_same p (Token.number s) before k others goes good = allowed_same (may_begin p) _ k others _ goes good
placed_same p (Token.boolean b) before k others goes good = allowed_same (may_begin p) _ k others _ goes good
placed_same p Token.null before k others goes good = allowed_same (may_begin p) _ k others _ goes good
placed_same p Token.bad before k others goes good = refl

-- what is no JSON ends the tokens
no_good_allowed : (b : Bool) (t : Token) (k : Place → List Token) (next : Place) → (are_good (k next) ≡ true → ⊥) → are_good (if_allowed b t k next) ≡ true → ⊥
no_good_allowed true t k next none good = none (and_parts _ _ good).1
no_good_allowed false t k next none good = false≢true good

bad_ends : (p : Place) (ls : List Lexeme) → are_good (punctuate p (token Token.bad ∷ ls)) ≡ true → ⊥
unfolding punctuate
bad_ends fresh ls good = false≢true good
bad_ends after_value ls good = false≢true good
bad_ends after_comma ls good = false≢true good
bad_ends after_key ls good = false≢true good

no_good_placed : (p : Place) (t : Token) (before : Bool) (k : Place → List Token) → ((next : Place) → are_good (k next) ≡ true → ⊥) → are_good (place_token p t before k) ≡ true → ⊥
no_good_placed p Token.begin_object before k none = no_good_allowed (may_begin p) _ k _ (none _)
no_good_placed p Token.end_object before k none = no_good_allowed (may_close p) _ k _ (none _)
no_good_placed p Token.begin_array before k none = no_good_allowed (may_begin p) _ k _ (none _)
no_good_placed p Token.end_array before k none = no_good_allowed (may_close p) _ k _ (none _)
no_good_placed p (Token.key s) before k none = false≢true
no_good_placed p (Token.string s) true k none = no_good_allowed (may_begin p) _ k _ (none _)
no_good_placed p (Token.string s) false k none = no_good_allowed (may_begin p) _ k _ (none _)
no_good_placed p (Token.number s) before k none = no_good_allowed (may_begin p) _ k _ (none _)
no_good_placed p (Token.boolean b) before k none = no_good_allowed (may_begin p) _ k _ (none _)
no_good_placed p Token.null before k none = no_good_allowed (may_begin p) _ k _ (none _)
no_good_placed p Token.bad before k none = false≢true

-- a colon comes next in both, or what is no JSON comes next
colon_same : (ls rest : List Lexeme) → Mends ls rest → (begins_colon rest ≡ begins_colon ls) ⊎ ((next : Place) → are_good (punctuate next ls) ≡ true → ⊥)
colon_same [] rest mends = inl (ap begins_colon mends)
colon_same (l ∷ ls) rest (inl bad) = inr (λ next. subst (λ x. are_good (punctuate next (x ∷ ls)) ≡ true → ⊥) (sym bad) (bad_ends next ls))
colon_same (token t ∷ ls) rest (inr (others, is, mends)) = inl (ap begins_colon is)
colon_same (comma ∷ ls) rest (inr (others, is, mends)) = inl (ap begins_colon is)
colon_same (colon ∷ ls) rest (inr (others, is, mends)) = inl (ap begins_colon is)

token_same : (p : Place) (t : Token) (ls rest : List Lexeme) → Mends ls rest → Goes (λ next. punctuate next ls) (λ next. punctuate next rest)
    → are_good (place_token p t (begins_colon ls) (λ next. punctuate next ls)) ≡ true
    → place_token p t (begins_colon rest) (λ next. punctuate next rest) ≡ place_token p t (begins_colon ls) (λ next. punctuate next ls)
token_same p t ls rest mends goes good = elim (colon_same ls rest mends) [
  | inl same ↦ ap (λ b. place_token p t b (λ next. punctuate next rest)) same ∙ placed_same p t (begins_colon ls) (λ next. punctuate next ls) (λ next. punctuate next rest) goes good
  | inr none ↦ absurd (no_good_placed p t (begins_colon ls) (λ next. punctuate next ls) none good)
]

first_same : (p : Place) (l : Lexeme) (ls rest : List Lexeme) → Mends ls rest → Goes (λ next. punctuate next ls) (λ next. punctuate next rest)
    → are_good (punctuate p (l ∷ ls)) ≡ true → punctuate p (l ∷ rest) ≡ punctuate p (l ∷ ls)
unfolding punctuate
first_same fresh (token t) ls rest mends goes good = token_same fresh t ls rest mends goes good
first_same after_value (token t) ls rest mends goes good = token_same after_value t ls rest mends goes good
first_same after_comma (token t) ls rest mends goes good = token_same after_comma t ls rest mends goes good
first_same after_key (token t) ls rest mends goes good = token_same after_key t ls rest mends goes good
first_same fresh comma ls rest mends goes good = refl
first_same after_value comma ls rest mends goes good = goes after_comma good
first_same after_comma comma ls rest mends goes good = refl
first_same after_key comma ls rest mends goes good = refl
first_same fresh colon ls rest mends goes good = refl
first_same after_value colon ls rest mends goes good = refl
first_same after_comma colon ls rest mends goes good = refl
first_same after_key colon ls rest mends goes good = goes fresh good

pub tokens_same : (p : Place) (ls others : List Lexeme) → Mends ls others → are_good (punctuate p ls) ≡ true → punctuate p others ≡ punctuate p ls
unfolding punctuate
tokens_same p [] others mends good = ap (punctuate p) mends
tokens_same p (l ∷ ls) others (inl bad) good = absurd (bad_ends p ls (subst (λ x. are_good (punctuate p (x ∷ ls)) ≡ true) bad good))
tokens_same p (l ∷ ls) others (inr (rest, is, mends)) good = ap (punctuate p) is ∙ first_same p l ls rest mends (λ next. tokens_same next ls rest mends) good
