-- A text that is a whole URL.
use Rattle.std.proofs.Common.{◌≡◌, ℕ, ◌-◌, ◌<◌, ◌≤◌, true, false, cond, not, ◌==◌, nat_lt, List, [], ◌∷◌, ◌++◌, length, get_or, take, drop, reverse, filter, bytes_eq, Option, Some, None, IfSome, IfOk, IsSomeAnd, All, sym, refl, ap, ◌∙◌, subst, ◌⊎◌, inl, append_assoc, append-nil, take-append-drop, lt_of_not-le, arith, inr}
use Rattle.std.specs.List.{prefix_len, suffix_len, list_all}
use Rattle.std.specs.Char.{is_ascii_alphabetic, to_ascii_lowercase}
use Rattle.std.proofs.lemmas.Bool.{cond-true, cond-false, cond_both, cases_Bool, eq-eqb, lt-ltb}
use Rattle.std.proofs.lemmas.Bool.Decides.{nat_tests}
use Rattle.std.proofs.lemmas.List.{get_or-reverse, length-reverse, get_or_past}
use Rattle.std.proofs.lemmas.List.Elements.{All-nil, All-cons, All-head, All-tail, All-weaker}
use Rattle.std.proofs.lemmas.List.Sums.{prefix_len_passes, suffix_len-le-length}
use Rattle.std.proofs.lemmas.Slice.Eq.{bytes_eq-Decides}
use Rattle.url.specs.Input.{is_c0_control_or_space, is_tab_or_new_line, trim_start, trim_end, trim_c0_control_and_space, strip_tabs_and_new_lines, lowercase, split_once}
use Rattle.url.specs.Scheme.{is_scheme_byte, scheme_len}
use Rattle.url.specs.Parts.{Parts}
use Rattle.url.specs.Parser.{split_scheme, parse_url}
use Rattle.url.proofs.InputLemmas.{Passes, All-take-prefix_len, All-drop_from_reads, All_from_list_all, split_around, filter_all}
use Rattle.html_urls.specs.Inputs.{IsVisible}
use Rattle.html_urls.specs.Links.{HasLinkOrPageScheme, HasLinkScheme, is_mark, mark_at, is_link_scheme, is_link}
use Rattle.html_urls.proofs.Links.SchemeOf.{parsed_scheme}

-- ---- the visible bytes

abbrev seen : List ℕ → List ℕ
seen bytes = filter (nat_lt 32) bytes

seen-append : (xs ys : List ℕ) → seen (xs ++ ys) ≡ seen xs ++ seen ys
seen-append [] ys = refl
seen-append (x ∷ xs) ys =
    elim (cases_Bool (nat_lt 32 x)) [ inl shown ↦ rw (shown, seen-append xs ys) refl | inr hidden ↦ rw (hidden, seen-append xs ys) refl ]

seen_none : (xs : List ℕ) → All (Passes is_c0_control_or_space) xs → seen xs ≡ []
seen_none [] none = refl
seen_none (x ∷ xs) none =
    let here = All-head (Passes is_c0_control_or_space) x xs none in
    let unseen : nat_lt 32 x ≡ false = grind (arith, nat_tests) in
    cond-false _ _ _ unseen ∙ seen_none xs (All-tail (Passes is_c0_control_or_space) x xs none)

seen_all : (xs : List ℕ) → All IsVisible xs → seen xs ≡ xs
seen_all xs visible = filter_all (nat_lt 32) xs (All-weaker IsVisible (Passes (nat_lt 32)) (λ b above. lt-ltb 32 b above) xs visible)

seen_stripped : (xs : List ℕ) → seen (filter (λ b. not (is_tab_or_new_line b)) xs) ≡ seen xs
seen_stripped [] = refl
seen_stripped (x ∷ xs) =
    elim (cases_Bool (is_tab_or_new_line x)) [
      | inl gone ↦ let unseen : nat_lt 32 x ≡ false = grind (arith, nat_tests) in
          rw (gone, unseen) (seen_stripped xs)
      | inr kept ↦ rw kept (ap (λ l. cond (nat_lt 32 x) (x ∷ l) l) (seen_stripped xs))
    ]

seen_start : (xs : List ℕ) → seen (trim_start is_c0_control_or_space xs) ≡ seen xs
seen_start xs =
    let n = prefix_len is_c0_control_or_space xs in
    let front = seen_none (take n xs) (All-take-prefix_len is_c0_control_or_space xs) in
    sym (ap seen (sym (take-append-drop n xs)) ∙ seen-append (take n xs) (drop n xs) ∙ ap (λ l. l ++ seen (drop n xs)) front)

seen_end : (xs : List ℕ) → seen (trim_end is_c0_control_or_space xs) ≡ seen xs
seen_end xs =
    let long = length-reverse xs in
    let n = suffix_len is_c0_control_or_space xs in
    let most = suffix_len-le-length is_c0_control_or_space xs in
    let k = length xs - n in
    let passes : (j : ℕ) → k ≤ j → j < length xs → is_c0_control_or_space (get_or xs j 0) ≡ true =
    λ j after inside.
    let back : length xs - 1 - (length xs - 1 - j) ≡ j = omega arith in
    ap (λ i. is_c0_control_or_space (get_or xs i 0)) (sym back) ∙ sym (ap is_c0_control_or_space (get_or-reverse xs (length xs - 1 - j) 0 (omega arith))) ∙ prefix_len_passes is_c0_control_or_space (reverse xs) (length xs - 1 - j) 0 (omega arith) in
    let tail = seen_none (drop k xs) (All-drop_from_reads (Passes is_c0_control_or_space) xs k passes) in
    sym (ap seen (sym (take-append-drop k xs)) ∙ seen-append (take k xs) (drop k xs) ∙ ap (λ l. seen (take k xs) ++ l) tail ∙ append-nil (seen (take k xs)))

-- cleaning takes no visible byte away
seen_cleaned : (xs : List ℕ) → seen (strip_tabs_and_new_lines (trim_c0_control_and_space xs)) ≡ seen xs
unfolding strip_tabs_and_new_lines trim_c0_control_and_space
seen_cleaned xs = grind (arith, nat_tests, seen_stripped, seen_end, seen_start)

-- ---- the scheme of the cleaned text

pub front_of : (s : ℕ) (xs : List ℕ) → (rest : List ℕ) × (xs ≡ (split_once s xs).0 ++ rest)
unfolding split_once
front_of s [] = ([], refl)
front_of s (x ∷ xs) =
    let later = front_of s xs in
    elim (cases_Bool (x == s)) [ inl here ↦ (x ∷ xs, rw here refl) | inr other ↦ (later.0, rw other (ap (λ l. x ∷ l) later.1)) ]

-- a scheme, and what follows its `:`
abbrev pub IsSchemeOf : List ℕ → List ℕ × List ℕ → Type 0
IsSchemeOf bytes split = All (Passes is_scheme_byte) split.0 × (bytes ≡ split.0 ++ 58 ∷ split.1)

scheme_run : (xs : List ℕ) → All (Passes is_scheme_byte) (take (scheme_len xs) xs)
unfolding scheme_len
scheme_run xs =
    cond_both (is_ascii_alphabetic (get_or xs 0 0)) (prefix_len is_scheme_byte xs) 0 (λ n. All (Passes is_scheme_byte) (take n xs)) (λ _. All-take-prefix_len is_scheme_byte xs) (λ _. All-nil (Passes is_scheme_byte))

pub own_scheme : (xs : List ℕ) → IfSome (split_scheme xs) (IsSchemeOf xs)
unfolding split_scheme
own_scheme xs = grind (arith, nat_tests, cond_both, nat_lt, lt_of_not-le, get_or_past, scheme_run, split_around)

-- ---- the scheme of the text

pub scheme_byte_no_mark : (b : ℕ) → is_scheme_byte b ≡ true → is_mark b ≡ false
scheme_byte_no_mark b passes = grind (arith, nat_tests)

unseen_no_mark : (b : ℕ) → nat_lt 32 b ≡ false → is_mark b ≡ false
unseen_no_mark b unseen = grind (arith, nat_tests)

-- where a scheme and a `:` are the first visible bytes, the first mark is that `:`
abbrev Scanned : List ℕ → List ℕ → Type 0
Scanned text scheme = (get_or text (mark_at text) 0 ≡ 58) × (seen (take (mark_at text) text) ≡ scheme)

one_more : (t : ℕ) (text scheme longer : List ℕ) → is_mark t ≡ false → cond (nat_lt 32 t) (t ∷ scheme) scheme ≡ longer → Scanned text scheme → Scanned (t ∷ text) longer
one_more t text scheme longer none is later = grind (arith, nat_tests)

scan : (text scheme rest : List ℕ) → All (Passes is_scheme_byte) scheme → seen text ≡ scheme ++ 58 ∷ rest → Scanned text scheme
scan [] [] rest bytes is = cc
scan [] (s ∷ scheme) rest bytes is = cc
scan (t ∷ text) scheme rest bytes is =
    elim (cases_Bool (nat_lt 32 t)) [
      | inl shown ↦ visible scheme bytes shown (rw shown at is) (λ others. scan text others rest)
      | inr hidden ↦ one_more t text scheme scheme (unseen_no_mark t hidden) (cond-false _ _ _ hidden) (scan text scheme rest bytes (rw hidden at is))
    ]
  where
    visible : (scheme : List ℕ) → All (Passes is_scheme_byte) scheme → nat_lt 32 t ≡ true → t ∷ seen text ≡ scheme ++ 58 ∷ rest → ((others : List ℕ) → All (Passes is_scheme_byte) others → seen text ≡ others ++ 58 ∷ rest → Scanned text others) → Scanned (t ∷ text) scheme
    visible [] bytes shown is later =
        let colon : t ≡ 58 = cc in
        let here : mark_at (t ∷ text) ≡ 0 = cond-false _ _ _ (ap (λ b. not (is_mark b)) colon) in
        (ap (λ n. get_or (t ∷ text) n 0) here ∙ colon, ap (λ n. seen (take n (t ∷ text))) here)
    visible (s ∷ scheme) bytes shown is later =
        let same : s ≡ t = cc in
        let after : seen text ≡ scheme ++ 58 ∷ rest = cc in
        let passes = subst (λ b. is_scheme_byte b ≡ true) same (All-head (Passes is_scheme_byte) s scheme bytes) in
        one_more t text scheme (s ∷ scheme) (scheme_byte_no_mark t passes) (cond-true _ _ _ shown ∙ ap (λ b. b ∷ scheme) (sym same)) (later scheme (All-tail (Passes is_scheme_byte) s scheme bytes) after)

-- ---- the law

lower_visible : (b : ℕ) → 32 < to_ascii_lowercase b → 32 < b
lower_visible b above = grind (arith, nat_tests)

visible_from_lower : (xs : List ℕ) → All IsVisible (lowercase xs) → All IsVisible xs
visible_from_lower [] visible = All-nil IsVisible
visible_from_lower (x ∷ xs) visible =
    All-cons IsVisible x xs (lower_visible x (All-head IsVisible (to_ascii_lowercase x) (lowercase xs) visible)) (visible_from_lower xs (All-tail IsVisible (to_ascii_lowercase x) (lowercase xs) visible))

literal_visible : (xs : List ℕ) → list_all (nat_lt 32) xs ≡ true → All IsVisible xs
literal_visible xs all = All-weaker (Passes (nat_lt 32)) IsVisible (λ b passes. grind (arith, nat_tests)) xs (All_from_list_all (nat_lt 32) xs all)

link_scheme_visible : (scheme : List ℕ) → is_link_scheme scheme ≡ true → All IsVisible scheme
link_scheme_visible scheme known = grind (arith, nat_tests, bytes_eq, bytes_eq-Decides, literal_visible)

-- the parser reads one of the schemes in a text that is taken, or none
known_scheme : (text cleaned rest : List ℕ) (split : Option (List ℕ × List ℕ)) → is_link text ≡ true → seen cleaned ≡ seen text → IfSome split (λ s. All (Passes is_scheme_byte) s.0 × (cleaned ≡ s.0 ++ 58 ∷ (s.1 ++ rest))) →
    IfSome split (λ s. is_link_scheme (lowercase s.0) ≡ true)
known_scheme text cleaned rest None link same split = tt
known_scheme text cleaned rest (Some split) link same is =
    let front = seen_all split.0 (All-weaker (Passes is_scheme_byte) IsVisible (λ b passes. grind (arith, nat_tests)) split.0 is.0) in
    let (colon, before) = scan text split.0 (seen (split.1 ++ rest)) is.0 (sym same ∙ ap seen is.1 ∙ seen-append split.0 (58 ∷ (split.1 ++ rest)) ∙ ap (λ l. l ++ 58 ∷ seen (split.1 ++ rest)) front) in
    let known : is_link_scheme (lowercase (take (mark_at text) text)) ≡ true = rw (eq-eqb (get_or text (mark_at text) 0) 58 colon) at link in
    let visible = visible_from_lower (take (mark_at text) text) (link_scheme_visible (lowercase (take (mark_at text) text)) known) in
    subst (λ s. is_link_scheme (lowercase s) ≡ true) (sym (seen_all (take (mark_at text) text) visible) ∙ before) known

-- what holds of the three schemes and of that of the page holds of the scheme of a text that is taken
link_scheme : (P : List ℕ → Type 0) → ((scheme : List ℕ) → is_link_scheme scheme ≡ true → P scheme) → (base : Option Parts) (text : List ℕ) → is_link text ≡ true → IfSome base (λ page. P page.scheme) → IfOk (parse_url base text) (λ url. P url.scheme)
unfolding parse_url
link_scheme P holds base text link page =
    let cleaned = strip_tabs_and_new_lines (trim_c0_control_and_space text) in
    let hash = split_once 35 cleaned in
    let question = split_once 63 hash.0 in
    let (after_hash, at_hash) = front_of 35 cleaned in
    let (after_question, at_question) = front_of 63 hash.0 in
    let rest = after_question ++ after_hash in
    let whole : cleaned ≡ question.0 ++ rest = at_hash ∙ ap (λ l. l ++ after_hash) at_question ∙ append_assoc question.0 after_question after_hash in
    let own = longer (split_scheme question.0) question.0 cleaned rest whole (own_scheme question.0) in
    parsed_scheme P (split_scheme question.0) base question.0 question.1 hash.1
    (own_holds (split_scheme question.0) (known_scheme text cleaned rest (split_scheme question.0) link (seen_cleaned text) own)) page
  where
    own_holds : (split : Option (List ℕ × List ℕ)) → IfSome split (λ s. is_link_scheme (lowercase s.0) ≡ true) → IfSome split (λ s. P (lowercase s.0))
    own_holds split known = grind (arith, nat_tests)

    longer : (split : Option (List ℕ × List ℕ)) (bytes cleaned rest : List ℕ) → cleaned ≡ bytes ++ rest → IfSome split (IsSchemeOf bytes) → IfSome split (λ s. All (Passes is_scheme_byte) s.0 × (cleaned ≡ s.0 ++ 58 ∷ (s.1 ++ rest)))
    longer None bytes cleaned rest whole is = tt
    longer (Some split) bytes cleaned rest whole is = (is.0, whole ∙ ap (λ l. l ++ rest) is.1 ∙ append_assoc split.0 (58 ∷ split.1) rest)

-- THE LINK LAW: behind a page with one of the schemes, the URL of a text that is taken has one of them
pub link_law : (base : Option Parts) (text : List ℕ) → is_link text ≡ true → IfSome base HasLinkScheme → IfOk (parse_url base text) HasLinkScheme
link_law base text link page = link_scheme (λ scheme. is_link_scheme scheme ≡ true) (λ scheme known. known) base text link page

-- behind any page it has one of them, or that of the page
pub page_law : (base : Option Parts) (text : List ℕ) → is_link text ≡ true → IfOk (parse_url base text) (HasLinkOrPageScheme base)
page_law base text link =
    link_scheme (λ scheme. (is_link_scheme scheme ≡ true) ⊎ IsSomeAnd base (λ page. scheme ≡ page.scheme)) (λ scheme known. inl known) base text link (own base)
  where
    own : (base : Option Parts) → IfSome base (λ page. (is_link_scheme page.scheme ≡ true) ⊎ IsSomeAnd base (λ base. page.scheme ≡ base.scheme))
    own base = grind (arith, nat_tests)
