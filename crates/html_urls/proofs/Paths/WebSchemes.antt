-- A scheme of the web, in any case, at the front of an input.
use Rattle.std.proofs.Common.{◌≡◌, ℕ, ◌+◌, ◌<◌, true, ◌&&◌, ◌==◌, if◌then◌else◌, get_or, take, drop, Option, None, nat_lt, List, [], ◌∷◌, ◌++◌, length, codes, Some, All, append_assoc, ap, sym, refl, ◌∙◌, subst, inl, inr, arith, length-append, take_at, drop_at}
use Rattle.std.specs.Char.{is_ascii_alphabetic, to_ascii_lowercase}
use Rattle.std.proofs.lemmas.Bool.{cond-true, lt-ltb}
use Rattle.std.proofs.lemmas.Bool.Decides.{nat_tests}
use Rattle.std.proofs.lemmas.List.{get_or_at, length-map}
use Rattle.std.proofs.lemmas.List.Elements.{All-nil, All-cons, All-head, All-tail, All-weaker}
use Rattle.url.specs.declared.scheme.SchemeType.TheVariants.{SpecialNotFile}
use Rattle.url.specs.Input.{lowercase}
use Rattle.url.specs.Scheme.{default_port, is_scheme_byte, scheme_len, scheme_type}
use Rattle.url.specs.Parser.{split_scheme}
use Rattle.url.proofs.InputLemmas.{All_from_list_all, Passes, prefix_len_at}
use Rattle.html_urls.specs.Hosts.{IsWebScheme}

abbrev pub IsLetter : ℕ → Type 0
IsLetter b = is_ascii_alphabetic b ≡ true

upper_letter : (b : ℕ) → IsLetter (to_ascii_lowercase b) → IsLetter b
upper_letter b letter = grind (arith, nat_tests)

pub upper_letters : (xs : List ℕ) → All IsLetter (lowercase xs) → All IsLetter xs
upper_letters [] all = All-nil IsLetter
upper_letters (x ∷ xs) all =
    All-cons IsLetter x xs (upper_letter x (All-head IsLetter (to_ascii_lowercase x) (lowercase xs) all)) (upper_letters xs (All-tail IsLetter (to_ascii_lowercase x) (lowercase xs) all))

web_letters : (scheme : List ℕ) → IsWebScheme scheme → All IsLetter scheme
web_letters scheme (inl http) = upper_letters scheme (subst (All IsLetter) (sym http) (All_from_list_all is_ascii_alphabetic (codes "http") refl))
web_letters scheme (inr https) = upper_letters scheme (subst (All IsLetter) (sym https) (All_from_list_all is_ascii_alphabetic (codes "https") refl))

web_some : (scheme : List ℕ) → IsWebScheme scheme → 0 < length scheme
web_some scheme given_1 = grind (arith, nat_tests, length-map)

letter_in_scheme : (b : ℕ) → IsLetter b → Passes is_scheme_byte b
letter_in_scheme b letter = grind (arith, nat_tests)

web_length : (scheme rest : List ℕ) → 0 < length scheme → All IsLetter scheme → scheme_len (scheme ++ 58 ∷ rest) ≡ length scheme
unfolding scheme_len
web_length [] rest some letters = absurd (omega arith)
web_length (b ∷ scheme) rest some letters =
    cond-true _ _ _ (All-head IsLetter b scheme letters)
    ∙ prefix_len_at is_scheme_byte (b ∷ scheme) (58 ∷ rest) (All-weaker IsLetter (Passes is_scheme_byte) letter_in_scheme (b ∷ scheme) letters) refl

abbrev ended_at : ℕ → List ℕ → Option (List ℕ × List ℕ)
ended_at n input = if nat_lt 0 n && get_or input n 0 == 58 then Some (take n input, drop (n + 1) input) else None

pub split_letters : (scheme rest : List ℕ) → 0 < length scheme → All IsLetter scheme → split_scheme (scheme ++ 58 ∷ rest) ≡ Some (scheme, rest)
unfolding split_scheme
split_letters scheme rest some letters = by_length (scheme_len (scheme ++ 58 ∷ rest)) (web_length scheme rest some letters)
  where
    input : List ℕ
    input = scheme ++ 58 ∷ rest

    by_length : (n : ℕ) → n ≡ length scheme → ended_at n input ≡ Some (scheme, rest)
    by_length n is =
        let colon = get_or_at scheme 58 rest 0 n (sym is) in
        let front = take_at scheme (58 ∷ rest) n (sym is) in
        let behind = ap (drop (n + 1)) (sym (append_assoc scheme (58 ∷ []) rest)) ∙ drop_at (scheme ++ 58 ∷ []) rest (n + 1) (length-append scheme (58 ∷ []) ∙ ap (λ k. k + 1) (sym is)) in
        let long : nat_lt 0 n ≡ true = lt-ltb 0 n (omega (arith, is)) in
        rw (long, colon) (ap Some (λ i. (front i, behind i)))

pub split_web : (scheme rest : List ℕ) → IsWebScheme scheme → split_scheme (scheme ++ 58 ∷ rest) ≡ Some (scheme, rest)
split_web scheme rest web = split_letters scheme rest (web_some scheme web) (web_letters scheme web)

pub web_type : (scheme : List ℕ) → IsWebScheme scheme → scheme_type (lowercase scheme) ≡ SpecialNotFile
unfolding scheme_type default_port
web_type scheme given_1 = grind (arith, nat_tests)
