-- The path state, when no dot segment and no backslash is read.
use Rattle.std.proofs.Common.{◌≡◌, ◌≢◌, ℕ, Bool, true, false, List, [], ◌∷◌, ◌++◌, Option, Some, None, All, sym, refl, ap, ◌∙◌, subst, append_assoc, append-nil, arith, inl, inr}
use Rattle.std.proofs.lemmas.Bool.Decides.{nat_tests}
use Rattle.std.proofs.lemmas.Bool.{cond-true, cond-false, cases_eq, ne_eqb}
use Rattle.std.proofs.lemmas.List.Elements.{All-nil, All-cons, All-head, All-tail, All-push}
use Rattle.form_urlencoded.specs.Form.{split, onto_first}
use Rattle.percent_encoding.specs.AsciiSet.{should_percent_encode}
use Rattle.percent_encoding.specs.Percent.{percent_encode}
use Rattle.percent_encoding.proofs.PercentLemmas.{percent_encode-append, percent_encode_kept}
use Rattle.url.specs.declared.sets.TheConstants.{PATH}
use Rattle.url.specs.declared.scheme.SchemeType.TheVariants.{SpecialNotFile}
use Rattle.url.specs.Input.{rsplit_once, rsplit_step}
use Rattle.url.specs.Scheme.{is_slash}
use Rattle.url.specs.Path.{dot_count, push_segment, parse_segments, parse_path}
use Rattle.url.proofs.InputLemmas.{rsplit_once_none}
use Rattle.html_urls.specs.Inputs.{IsNot}
use Rattle.html_urls.specs.Parts.Segments.{HasNoDotSegments, last_segment}

abbrev encoded : List ℕ → List ℕ
encoded bytes = percent_encode PATH bytes

abbrev IsPlain : List ℕ → Type 0
IsPlain segment = dot_count segment ≡ 0

pub slash_kept : should_percent_encode PATH 47 ≡ false
unfolding should_percent_encode
slash_kept = refl

-- ---- segments, and the last one

pub split_at : (xs ys : List ℕ) → All (IsNot 47) xs → split 47 (xs ++ 47 ∷ ys) ≡ xs ∷ split 47 ys
unfolding split
split_at [] ys none = refl
split_at (x ∷ xs) ys none =
    cond-false _ _ _ (ne_eqb x 47 (All-head (IsNot 47) x xs none)) ∙ ap (onto_first x) (split_at xs ys (All-tail (IsNot 47) x xs none))

pub split_one : (xs : List ℕ) → All (IsNot 47) xs → split 47 xs ≡ xs ∷ []
unfolding split
split_one [] none = refl
split_one (x ∷ xs) none =
    cond-false _ _ _ (ne_eqb x 47 (All-head (IsNot 47) x xs none)) ∙ ap (onto_first x) (split_one xs (All-tail (IsNot 47) x xs none))

-- the last segment has no slash
pub last_whole : (xs : List ℕ) → All (IsNot 47) (last_segment xs)
unfolding rsplit_once
last_whole [] = All-nil (IsNot 47)
last_whole (x ∷ xs) = step (rsplit_once 47 xs).0 (rsplit_once 47 xs).1 (last_whole xs)
  where
    step : (front : Option (List ℕ)) (back : List ℕ) → All (IsNot 47) back → All (IsNot 47) (rsplit_step 47 x front back).1
    step front back none = grind (arith, nat_tests)

-- what stands before a slash is not in the last segment
pub last_after : (xs ys : List ℕ) → last_segment (xs ++ 47 ∷ ys) ≡ last_segment ys
unfolding rsplit_once
last_after xs ys = (found xs).1
  where
    here : (front : Option (List ℕ)) (back : List ℕ) → (f : List ℕ) × (rsplit_step 47 47 front back ≡ (Some f, back))
    here (Some front) back = (47 ∷ front, refl)
    here None back = ([], refl)

    found : (xs : List ℕ) → ((f : List ℕ) × ((rsplit_once 47 (xs ++ 47 ∷ ys)).0 ≡ Some f)) × ((rsplit_once 47 (xs ++ 47 ∷ ys)).1 ≡ (rsplit_once 47 ys).1)
    found [] =
        let first = here (rsplit_once 47 ys).0 (rsplit_once 47 ys).1 in
        ((first.0, ap (λ r. r.0) first.1), ap (λ r. r.1) first.1)
    found (x ∷ xs) =
        let ((f, front), back) = found xs in
        let step : rsplit_step 47 x (rsplit_once 47 (xs ++ 47 ∷ ys)).0 (rsplit_once 47 (xs ++ 47 ∷ ys)).1 ≡ (Some (x ∷ f), (rsplit_once 47 ys).1) = λ i. rsplit_step 47 x (front i) (back i) in
        ((x ∷ f, ap (λ r. r.0) step), ap (λ r. r.1) step)

pub last_of_whole : (xs : List ℕ) → All (IsNot 47) xs → last_segment xs ≡ xs
unfolding rsplit_once
last_of_whole xs none = grind (arith, nat_tests, rsplit_once_none)

-- ---- the path state

push_plain : (path segment : List ℕ) (is_last : Bool) → IsPlain segment → push_segment SpecialNotFile path segment is_last ≡ path ++ 47 ∷ encoded segment
unfolding push_segment
push_plain path segment is_last plain = rw plain refl

no_slash : (b : ℕ) → b ≢ 47 → b ≢ 92 → is_slash SpecialNotFile b ≡ false
no_slash b other plain = rw (ne_eqb b 47 other, ne_eqb b 92 plain) refl

-- what is left of the input joins the path as it is
pub finish : (path segment bytes : List ℕ) → All (IsNot 47) segment → All (IsNot 92) bytes → HasNoDotSegments (segment ++ bytes) → parse_segments SpecialNotFile path segment bytes ≡ path ++ 47 ∷ encoded (segment ++ bytes)
unfolding parse_segments
finish path segment [] whole plain dots =
    let one = ap (All IsPlain) (ap (split 47) (append-nil segment) ∙ split_one segment whole) in
    push_plain path segment true (All-head IsPlain segment [] (subst (λ t. t) one dots)) ∙ ap (λ x. path ++ 47 ∷ encoded x) (sym (append-nil segment))
finish path segment (x ∷ bytes) whole plain dots =
    let later = All-tail (IsNot 92) x bytes plain in
    elim (cases_eq x 47) [
      | inl here ↦ let pieces = subst (All IsPlain) (ap (λ b. split 47 (segment ++ b ∷ bytes)) here ∙ split_at segment bytes whole) dots in
          let pushed = push_plain path segment false (All-head IsPlain segment (split 47 bytes) pieces) in
          cond-true _ _ _ (ap (is_slash SpecialNotFile) here)
          ∙ ap (λ p. parse_segments SpecialNotFile p [] bytes) pushed
          ∙ finish (path ++ 47 ∷ encoded segment) [] bytes (All-nil (IsNot 47)) later (All-tail IsPlain segment (split 47 bytes) pieces)
          ∙ append_assoc path (47 ∷ encoded segment) (47 ∷ encoded bytes)
          ∙ ap (λ x. path ++ 47 ∷ x) (sym (percent_encode-append PATH segment (x ∷ bytes) ∙ ap (λ b. encoded segment ++ encoded (b ∷ bytes)) here ∙ ap (λ x. encoded segment ++ x) (percent_encode_kept PATH 47 bytes slash_kept)))
      | inr other ↦ let joined = append_assoc segment (x ∷ []) bytes in
          cond-false _ _ _ (no_slash x other (All-head (IsNot 92) x bytes plain))
          ∙ finish path (segment ++ x ∷ []) bytes (All-push (IsNot 47) segment x whole other) later (subst HasNoDotSegments (sym joined) dots)
          ∙ ap (λ x. path ++ 47 ∷ encoded x) joined
    ]

-- after a front the parser has a path and the front's last segment, whatever follows
pub after_front : (path segment front : List ℕ) → All (IsNot 47) segment → All (IsNot 92) front → (found : List ℕ) × ((rest : List ℕ) → parse_segments SpecialNotFile path segment (front ++ rest) ≡ parse_segments SpecialNotFile found (last_segment (segment ++ front)) rest)
unfolding parse_segments
after_front path segment [] whole plain =
    (path, λ rest. ap (λ s. parse_segments SpecialNotFile path s rest) (sym (ap last_segment (append-nil segment) ∙ last_of_whole segment whole)))
after_front path segment (x ∷ front) whole plain =
    let later = All-tail (IsNot 92) x front plain in
    elim (cases_eq x 47) [
      | inl here ↦ let next = after_front (push_segment SpecialNotFile path segment false) [] front (All-nil (IsNot 47)) later in
          let last = ap (λ b. last_segment (segment ++ b ∷ front)) here ∙ last_after segment front in
          (next.0, λ rest. cond-true _ _ _ (ap (is_slash SpecialNotFile) here) ∙ next.1 rest ∙ ap (λ s. parse_segments SpecialNotFile next.0 s rest) (sym last))
      | inr other ↦ let next = after_front path (segment ++ x ∷ []) front (All-push (IsNot 47) segment x whole other) later in
          let joined = append_assoc segment (x ∷ []) front in
          (next.0, λ rest. cond-false _ _ _ (no_slash x other (All-head (IsNot 92) x front plain)) ∙ next.1 rest ∙ ap (λ s. parse_segments SpecialNotFile next.0 (last_segment s) rest) joined)
    ]

-- the path of a front whose last segment is no dot segment ends with that segment
pub path_alone : (path front : List ℕ) (plain : All (IsNot 92) front) → dot_count (last_segment front) ≡ 0 →
    parse_path SpecialNotFile path front ≡ (after_front path [] front (All-nil (IsNot 47)) plain).0 ++ 47 ∷ encoded (last_segment front)
path_alone path front plain resolved =
    let next = after_front path [] front (All-nil (IsNot 47)) plain in
    let last = last_segment front in
    let whole = last_whole front in
    ap (parse_path SpecialNotFile path) (sym (append-nil front)) ∙ next.1 []
    ∙ finish next.0 last [] whole (All-nil (IsNot 92)) (subst (All IsPlain) (sym (ap (split 47) (append-nil last) ∙ split_one last whole)) (All-cons IsPlain last [] resolved (All-nil IsPlain)))
    ∙ ap (λ x. next.0 ++ 47 ∷ encoded x) (append-nil last)

-- a text that goes on in the last segment of a front, and the rest after it, are what the path grows by
pub path_grows : (path front after : List ℕ) → All (IsNot 92) front → All (IsNot 92) after → dot_count (last_segment front) ≡ 0 → HasNoDotSegments (last_segment front ++ after) → parse_path SpecialNotFile path (front ++ after) ≡ parse_path SpecialNotFile path front ++ encoded after
path_grows path front after plain after_plain resolved dots =
    let next = after_front path [] front (All-nil (IsNot 47)) plain in
    let last = last_segment front in
    next.1 after ∙ finish next.0 last after (last_whole front) after_plain dots
    ∙ ap (λ x. next.0 ++ 47 ∷ x) (percent_encode-append PATH last after)
    ∙ sym (append_assoc next.0 (47 ∷ encoded last) (encoded after))
    ∙ ap (λ x. x ++ encoded after) (sym (path_alone path front plain resolved))
