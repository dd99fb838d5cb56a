-- A good word stays the same: it has no `<`.
use Rattle.std.proofs.Common.{◌≡◌, ℕ, ◌+◌, Bool, true, false, cond, ◌==◌, ◌||◌, List, [], ◌∷◌, ◌++◌, length, take, drop, suc, Option, Some, None, option_and_then, inl, inr, refl, sym, ap, ap₂, ◌∙◌, subst, append_assoc, arith, codes}
use Rattle.std.specs.Prelude.{⊤}
use Rattle.std.specs.List.{prefix_len}
use Rattle.std.specs.Char.{is_ascii_digit}
use Rattle.std.proofs.lemmas.Bool.{and_parts, cases_Bool, eqb-true, false≢true}
use Rattle.std.proofs.lemmas.List.{take-append-drop}
use Rattle.std.proofs.lemmas.List.Concat.{flat_map-append}
use Rattle.std.proofs.lemmas.Slice.Eq.{bytes_eq-Decides}
use Rattle.hesc_specs.specs.Text.Ascii.{less_than}
use Rattle.json.specs.Align.{is_good}
use Rattle.json.specs.Lex.{Lexeme, token, class, other as other_class, between, lex, lex_byte}
use Rattle.json.specs.Print.{IsNumber}
use Rattle.json.specs.Token.{Token}
use Rattle.json.specs.Word.{after_digits, after_exponent, after_fraction, after_minus, after_number, after_sign, after_whole, ends_word, head, literal, number_before, word}
use Rattle.json.proofs.Printed.Numbers.{lex-number, number_alone}
use Rattle.html_json.specs.Encoding.{json_encoding, json_image}
use Rattle.html_json.proofs.SameValue.Contents.{other_stays}

pub encoding-append : (front rest : List ℕ) → json_encoding (front ++ rest) ≡ json_encoding front ++ json_encoding rest
encoding-append front rest = flat_map-append json_image front rest

-- the second is what follows bytes without a `<` in the first
record Passed (t rest : List ℕ) : Type 0 where
  front : List ℕ
  parts : t ≡ front ++ rest
  plain : json_encoding front ≡ front

passed_none : (t : List ℕ) → Passed t t
passed_none t = record { front = []; parts = refl; plain = refl }

passed_both : {t u v : List ℕ} → Passed t u → Passed u v → Passed t v
passed_both {t} {u} {v} first second = record {
  front = first.front ++ second.front;
  parts = first.parts ∙ ap (λ y. first.front ++ y) second.parts ∙ sym (append_assoc first.front second.front v);
  plain = encoding-append first.front second.front ∙ ap₂ (λ x y. x ++ y) first.plain second.plain;
}

passed_one : (x : ℕ) (xs : List ℕ) → (x == less_than) ≡ false → Passed (x ∷ xs) xs
passed_one x xs other = record { front = x ∷ []; parts = refl; plain = other_stays x [] other }

passed_byte : (c : ℕ) (t : List ℕ) → (c == less_than) ≡ false → (head t == c) ≡ true → Passed t (drop 1 t)
passed_byte c [] other is = passed_none []
passed_byte c (x ∷ xs) other is = passed_one x xs (ap (λ y. y == less_than) (eqb-true x c is) ∙ other)

passed_if : (b : Bool) (t : List ℕ) → (b ≡ true → Passed t (drop 1 t)) → Passed t (cond b (drop 1 t) t)
passed_if true t passed = passed refl
passed_if false t passed = passed_none t

digit_other : (b : ℕ) → is_ascii_digit b ≡ true → (b == less_than) ≡ false
digit_other b digit = elim (cases_Bool (b == less_than)) [
  | inl same ↦ absurd (false≢true (ap is_ascii_digit (sym (eqb-true b less_than same)) ∙ digit))
  | inr other ↦ other
]

passed_digits_at : (d : Bool) (x : ℕ) (xs : List ℕ) (n : ℕ) → (d ≡ true → (x == less_than) ≡ false) → Passed xs (drop n xs)
    → Passed (x ∷ xs) (drop (cond d (1 + n) 0) (x ∷ xs))
passed_digits_at false x xs n other rest = passed_none (x ∷ xs)
passed_digits_at true x xs n other rest =
    let there : 1 + n ≡ suc n = omega arith in
    subst (λ k. Passed (x ∷ xs) (drop k (x ∷ xs))) (sym there) (passed_both (passed_one x xs (other refl)) rest)

passed_digits : (t : List ℕ) → Passed t (drop (prefix_len is_ascii_digit t) t)
passed_digits [] = passed_none []
passed_digits (x ∷ xs) = passed_digits_at (is_ascii_digit x) x xs (prefix_len is_ascii_digit xs) (digit_other x) (passed_digits xs)

-- what is left, where there is something, follows such bytes
abbrev Leads : List ℕ → Option (List ℕ) → Type 0
Leads t None = ⊤
Leads t (Some rest) = Passed t rest

leads_cond : (b : Bool) (t : List ℕ) (x y : Option (List ℕ)) → (b ≡ true → Leads t x) → Leads t y → Leads t (cond b x y)
leads_cond true t x y first second = first refl
leads_cond false t x y first second = second

leads_behind : {t u : List ℕ} (o : Option (List ℕ)) → Passed t u → Leads u o → Leads t o
leads_behind None passed leads = tt
leads_behind (Some rest) passed leads = passed_both passed leads

leads_then : (t : List ℕ) (o : Option (List ℕ)) (f : List ℕ → Option (List ℕ)) → Leads t o → ((u : List ℕ) → Leads u (f u)) → Leads t (option_and_then f o)
leads_then t None f leads next = tt
leads_then t (Some u) f leads next = leads_behind (f u) leads (next u)

passed_either : (a b : ℕ) (t : List ℕ) → (a == less_than) ≡ false → (b == less_than) ≡ false → ((head t == a) || (head t == b)) ≡ true → Passed t (drop 1 t)
passed_either a b t one two is = elim (cases_Bool (head t == a)) [
  | inl first ↦ passed_byte a t one first
  | inr apart ↦ passed_byte b t two (rw apart at is)
]

leads_digits : (t : List ℕ) → Leads t (after_digits t)
leads_digits t = leads_cond (prefix_len is_ascii_digit t == 0) t None _ (λ _. tt) (passed_digits t)

leads_whole : (t : List ℕ) → Leads t (after_whole t)
leads_whole t = leads_cond (head t == 48) t _ _ (λ is. passed_byte 48 t refl is) (leads_digits t)

leads_fraction : (t : List ℕ) → Leads t (after_fraction t)
leads_fraction t = leads_cond (head t == 46) t _ _ (λ is. leads_behind (after_digits (drop 1 t)) (passed_byte 46 t refl is) (leads_digits (drop 1 t))) (passed_none t)

leads_exponent : (t : List ℕ) → Leads t (after_exponent t)
leads_exponent t =
    leads_cond ((head t == 101) || (head t == 69)) t _ _
    (λ is. leads_behind (after_digits (after_sign (drop 1 t))) (passed_both (passed_either 101 69 t refl refl is)
    (passed_if ((head (drop 1 t) == 45) || (head (drop 1 t) == 43)) (drop 1 t) (passed_either 45 43 (drop 1 t) refl refl)))
    (leads_digits (after_sign (drop 1 t)))) (passed_none t)

leads_number : (t : List ℕ) → Leads t (after_number t)
unfolding after_number
leads_number t =
    leads_then t (option_and_then after_fraction (after_whole (after_minus t))) after_exponent
    (leads_then t (after_whole (after_minus t)) after_fraction
    (leads_behind (after_whole (after_minus t)) (passed_if (head t == 45) t (passed_byte 45 t refl)) (leads_whole (after_minus t))) leads_fraction)
    leads_exponent

-- ---- words

pub ends_same : (t : List ℕ) → ends_word (json_encoding t) ≡ ends_word t
ends_same [] = refl
ends_same (x ∷ xs) = elim (cases_Bool (x == less_than)) [
  | inl same ↦ subst (λ b. ends_word (json_encoding (b ∷ xs)) ≡ ends_word (b ∷ xs)) (sym (eqb-true x less_than same)) refl
  | inr other ↦ rw other refl
]

passed_test : (b : Bool) (k : Token) → is_good (cond b k Token.bad) ≡ true → b ≡ true
passed_test true k good = refl
passed_test false k good = good

-- the first of a list of lexemes
abbrev first_word : List Lexeme → Token
first_word [] = Token.bad
first_word (token t ∷ rest) = t
first_word (l ∷ rest) = Token.bad

first_is : (x : ℕ) (xs : List ℕ) → class x ≡ other_class → first_word (lex between (x ∷ xs)) ≡ word (x ∷ xs)
unfolding lex
first_is x xs is = ap (λ c. first_word (lex_byte between c x xs (λ m. lex m xs))) is

number_same : (x : ℕ) (xs : List ℕ) → (x == less_than) ≡ false → class x ≡ other_class → (o : Option (List ℕ)) → after_number (x ∷ xs) ≡ o → Leads (x ∷ xs) o
    → is_good (number_before (x ∷ xs) o) ≡ true → word (x ∷ json_encoding xs) ≡ word (x ∷ xs)
number_same x xs plain is None none leads good = absurd (false≢true good)
number_same x xs plain is (Some rest) some leads good =
    let ended : ends_word rest ≡ true = passed_test (ends_word rest) _ good in
    let alone : IsNumber leads.front = number_alone leads.front rest ended (ap after_number (sym leads.parts) ∙ some) in
    let here : x ∷ json_encoding xs ≡ leads.front ++ json_encoding rest =
    sym (other_stays x xs plain) ∙ ap json_encoding leads.parts ∙ encoding-append leads.front rest ∙ ap (λ y. y ++ json_encoding rest) leads.plain in
    sym (first_is x (json_encoding xs) is) ∙ ap (λ y. first_word (lex between y)) here
    ∙ ap first_word (lex-number leads.front (json_encoding rest) alone (ends_same rest ∙ ended))
    ∙ sym (ap first_word (lex-number leads.front rest alone ended)) ∙ ap (λ y. first_word (lex between y)) (sym leads.parts) ∙ first_is x xs is

-- one of the three literals
literal_front : (name : List ℕ) (k : Token) (t : List ℕ) → is_good (literal name k t) ≡ true → (rest : List ℕ) × ((t ≡ name ++ rest) × (ends_word rest ≡ true))
literal_front name k t good =
    let both = and_parts _ _ (passed_test _ k good) in
    let front : name ≡ take (length name) t = (bytes_eq-Decides name (take (length name) t)).0 both.0 in
    (drop (length name) t, (sym (take-append-drop (length name) t) ∙ ap (λ l. l ++ drop (length name) t) (sym front), both.1))

true_word : (rest : List ℕ) → ends_word rest ≡ true → word (codes "true" ++ rest) ≡ Token.boolean true
unfolding word
true_word rest ends = rw ends refl

false_word : (rest : List ℕ) → ends_word rest ≡ true → word (codes "false" ++ rest) ≡ Token.boolean false
unfolding word
false_word rest ends = rw ends refl

null_word : (rest : List ℕ) → ends_word rest ≡ true → word (codes "null" ++ rest) ≡ Token.null
unfolding word
null_word rest ends = rw ends refl

literal_same : (name : List ℕ) (k : Token) (t : List ℕ) → json_encoding name ≡ name → ((rest : List ℕ) → ends_word rest ≡ true → word (name ++ rest) ≡ k)
    → is_good (literal name k t) ≡ true → word (json_encoding t) ≡ word t
literal_same name k t plain reads good =
    let found = literal_front name k t good in
    ap (λ y. word (json_encoding y)) found.1.0 ∙ ap word (encoding-append name found.0 ∙ ap (λ y. y ++ json_encoding found.0) plain)
    ∙ reads (json_encoding found.0) (ends_same found.0 ∙ found.1.1) ∙ sym (reads found.0 found.1.1) ∙ ap word (sym found.1.0)

choose : (b : Bool) (x y : Token) (P : Type 0) → (is_good x ≡ true → P) → (is_good y ≡ true → P) → is_good (cond b x y) ≡ true → P
choose true x y P first second = first
choose false x y P first second = second

pub word_same : (x : ℕ) (xs : List ℕ) → (x == less_than) ≡ false → class x ≡ other_class → is_good (word (x ∷ xs)) ≡ true → word (x ∷ json_encoding xs) ≡ word (x ∷ xs)
unfolding word
word_same x xs plain is =
    let t : List ℕ = x ∷ xs in
    choose (head t == 116) _ _ _ (by (codes "true") (Token.boolean true) refl true_word)
    (choose (head t == 102) _ _ _ (by (codes "false") (Token.boolean false) refl false_word)
    (choose (head t == 110) _ _ _ (by (codes "null") Token.null refl null_word) (number_same x xs plain is (after_number t) refl (leads_number t))))
  where
    by : (name : List ℕ) (k : Token) → json_encoding name ≡ name → ((rest : List ℕ) → ends_word rest ≡ true → word (name ++ rest) ≡ k)
        → is_good (literal name k (x ∷ xs)) ≡ true → word (x ∷ json_encoding xs) ≡ word (x ∷ xs)
    by name k stays reads good = ap word (sym (other_stays x xs plain)) ∙ literal_same name k (x ∷ xs) stays reads good
