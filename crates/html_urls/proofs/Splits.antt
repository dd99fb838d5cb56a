-- Splitting joined text, and cleaning visible text.
use Rattle.std.proofs.Common.{◌≡◌, ℕ, ◌+◌, ◌<◌, ◌-◌, Bool, true, false, cond, not, ◌==◌, List, [], ◌∷◌, ◌++◌, length, get_or, take, drop, reverse, Option, Some, is_some, All, sym, refl, ap, ◌∙◌, arith, append_assoc, append-nil, one-add, zero-add, suc-add, length-append, drop_of_length-le, inl, inr}
use Rattle.std.specs.List.{prefix_len, suffix_len}
use Rattle.std.proofs.lemmas.Bool.{lt-leb, cond-true, cond-false, cases_Bool, eq-eqb, ne_eqb}
use Rattle.std.proofs.lemmas.Bool.Decides.{nat_tests}
use Rattle.std.proofs.lemmas.List.{reverse-append}
use Rattle.std.proofs.lemmas.List.Elements.{All-get_or, All-head, All-tail}
use Rattle.std.proofs.lemmas.List.Sums.{suffix_len-le-length}
use Rattle.form_urlencoded.specs.Form.{onto_first, split}
use Rattle.url.specs.Input.{trim_start, trim_end, is_c0_control_or_space, is_tab_or_new_line, trim_c0_control_and_space, strip_tabs_and_new_lines, split_once}
use Rattle.url.proofs.InputLemmas.{IsNot, filter_all, split_around}
use Rattle.html_urls.specs.Components.{component, component_at}
use Rattle.html_urls.specs.declared.place.UrlPlace.{UrlPlace}
use Rattle.html_urls.specs.Inputs.{IsVisible, EndsVisibly, kept, kept_rest}
use Rattle.html_urls.proofs.Components.{component_visible, written_visible}

-- ---- what the parser keeps

pub all_visible : (xs : List ℕ) → All IsVisible xs → 0 < length xs → EndsVisibly xs
all_visible xs visible some = All-get_or IsVisible xs (length xs - 1) 0 (omega arith) visible

stripped-append : (xs ys : List ℕ) → strip_tabs_and_new_lines (xs ++ ys) ≡ strip_tabs_and_new_lines xs ++ strip_tabs_and_new_lines ys
unfolding strip_tabs_and_new_lines
stripped-append [] ys = refl
stripped-append (x ∷ xs) ys =
    elim (cases_Bool (not (is_tab_or_new_line x))) [ inl keep ↦ rw (keep, stripped-append xs ys) refl | inr drop_it ↦ rw (drop_it, stripped-append xs ys) refl ]

unstripped : (xs : List ℕ) → All IsVisible xs → strip_tabs_and_new_lines xs ≡ xs
unfolding strip_tabs_and_new_lines
unstripped xs visible = grind (arith, nat_tests, filter_all, not)

abbrev trims : ℕ → Bool
trims b = is_c0_control_or_space b

-- a visible byte stops the trimming, whatever follows
start_at : (xs : List ℕ) (b : ℕ) → 32 < b → (front : List ℕ) × ((ys : List ℕ) → trim_start trims (xs ++ b ∷ ys) ≡ front ++ b ∷ ys)
start_at [] b above = ([], λ ys. ap (λ n. drop n (b ∷ ys)) (cond-false _ _ _ (lt-leb b 32 above)))
start_at (x ∷ xs) b above =
    let later = start_at xs b above in
    elim (cases_Bool (trims x)) [ inl gone ↦ (later.0, λ ys. ap (λ n. drop n (x ∷ xs ++ b ∷ ys)) (cond-true _ _ _ gone ∙ one-add _) ∙ later.1 ys) | inr stays ↦ (x ∷ xs, λ ys. ap (λ n. drop n (x ∷ xs ++ b ∷ ys)) (cond-false _ _ _ stays)) ]

stopped : (xs ys : List ℕ) (b : ℕ) → 32 < b → prefix_len trims (xs ++ b ∷ ys) ≡ prefix_len trims xs
stopped [] ys b above = cond-false _ _ _ (lt-leb b 32 above)
stopped (x ∷ xs) ys b above = ap (λ n. cond (trims x) (1 + n) 0) (stopped xs ys b above)

end_at : (xs ys : List ℕ) (b : ℕ) → 32 < b → trim_end trims (xs ++ b ∷ ys) ≡ xs ++ b ∷ trim_end trims ys
end_at xs ys b above =
    let whole = xs ++ b ∷ [] in
    let n = suffix_len trims ys in
    let most = suffix_len-le-length trims ys in
    let joined = append_assoc xs (b ∷ []) ys in
    let same : suffix_len trims (whole ++ ys) ≡ n =
    ap (prefix_len trims) (reverse-append whole ys ∙ ap (λ l. reverse ys ++ l) (reverse-append xs (b ∷ []))) ∙ stopped (reverse ys) (reverse xs) b above in
    let long = length-append whole ys in
    let count : length (whole ++ ys) - suffix_len trims (whole ++ ys) ≡ length whole + (length ys - n) = omega arith in
    ap (trim_end trims) (sym joined) ∙ ap (λ k. take k (whole ++ ys)) count ∙ take_after whole (length ys - n) ∙ append_assoc xs (b ∷ []) (take (length ys - n) ys)
  where
    take_after : (front : List ℕ) (k : ℕ) → take (length front + k) (front ++ ys) ≡ front ++ take k ys
    take_after [] k = ap (λ j. take j ys) (zero-add k)
    take_after (x ∷ front) k = ap (λ j. take j (x ∷ front ++ ys)) (suc-add (length front) k) ∙ ap (λ l. x ∷ l) (take_after front k)

last_byte : (front : List ℕ) → EndsVisibly front → (before : List ℕ) × (b : ℕ) × (32 < b) × (front ≡ before ++ b ∷ [])
last_byte [] ends = absurd (omega arith)
last_byte (x ∷ front) ends =
    let i = length (x ∷ front) - 1 in
    let whole = x ∷ front in
    let inside : i < length whole = omega arith in
    let on : i + 1 ≡ length whole = omega arith in
    (take i whole, get_or whole i 0, ends, split_around whole i (get_or whole i 0) inside refl ∙ ap (λ l. take i whole ++ get_or whole i 0 ∷ l) (ap (λ n. drop n whole) on ∙ drop_of_length-le whole {i = length whole} (omega arith)))

pub kept_nothing : kept_rest [] ≡ []
unfolding strip_tabs_and_new_lines
kept_nothing = refl

-- a front that ends visibly is kept as it is without what follows
pub kept_joined : (front rest : List ℕ) → EndsVisibly front → kept (front ++ rest) ≡ kept front ++ kept_rest rest
unfolding trim_c0_control_and_space
kept_joined front rest ends =
    let (before, b, above, is) = last_byte front ends in
    let start = start_at before b above in
    let read : (ys : List ℕ) → kept ((before ++ b ∷ []) ++ ys) ≡ strip_tabs_and_new_lines (start.0 ++ b ∷ []) ++ kept_rest ys =
    λ ys.
    ap kept (append_assoc before (b ∷ []) ys) ∙ ap (λ x. strip_tabs_and_new_lines (trim_end trims x)) (start.1 ys)
    ∙ ap strip_tabs_and_new_lines (end_at start.0 ys b above ∙ sym (append_assoc start.0 (b ∷ []) (trim_end trims ys)))
    ∙ stripped-append (start.0 ++ b ∷ []) (trim_end trims ys) in
    let alone : kept (before ++ b ∷ []) ≡ strip_tabs_and_new_lines (start.0 ++ b ∷ []) = ap kept (sym (append-nil (before ++ b ∷ []))) ∙ read [] ∙ ap (λ l. strip_tabs_and_new_lines (start.0 ++ b ∷ []) ++ l) kept_nothing ∙ append-nil _ in
    ap (λ f. kept (f ++ rest)) is ∙ read rest ∙ ap (λ l. l ++ kept_rest rest) (sym (ap kept is ∙ alone))

pub kept_visible : (front rest : List ℕ) → All IsVisible front → kept_rest (front ++ rest) ≡ front ++ kept_rest rest
kept_visible [] rest visible = refl
kept_visible (x ∷ front) rest visible =
    let whole = x ∷ front in
    let (before, b, above, is) = last_byte whole (visible (length whole - 1) 0 (omega arith)) in
    ap strip_tabs_and_new_lines
    (ap (λ f. trim_end trims (f ++ rest)) is ∙ ap (trim_end trims) (append_assoc before (b ∷ []) rest) ∙ end_at before rest b above
    ∙ sym (append_assoc before (b ∷ []) (trim_end trims rest)) ∙ ap (λ f. f ++ trim_end trims rest) (sym is))
    ∙ stripped-append whole (trim_end trims rest) ∙ ap (λ l. l ++ kept_rest rest) (unstripped whole visible)

-- what the parser keeps of a front, a component and a rest
pub kept_around : (front text rest : List ℕ) → EndsVisibly front → kept (front ++ component text ++ rest) ≡ kept front ++ (component text ++ kept_rest rest)
kept_around front text rest ends =
    ap kept (append_assoc front (component text) rest) ∙ kept_joined front (component text ++ rest) ends ∙ ap (λ l. kept front ++ l) (kept_visible (component text) rest (component_visible text))

pub kept_around_at : (at : UrlPlace) (front text rest : List ℕ) → EndsVisibly front → kept (front ++ component_at at text ++ rest) ≡ kept front ++ (component_at at text ++ kept_rest rest)
kept_around_at at front text rest ends =
    ap kept (append_assoc front (component_at at text) rest) ∙ kept_joined front (component_at at text ++ rest) ends
    ∙ ap (λ l. kept front ++ l) (kept_visible (component_at at text) rest (written_visible at text))

-- ---- splitting

-- where the separator is in the front, the rest goes to what is after it
pub split_found : (s : ℕ) (xs ys after : List ℕ) → (split_once s xs).1 ≡ Some after → split_once s (xs ++ ys) ≡ ((split_once s xs).0, Some (after ++ ys))
unfolding split_once
split_found s [] ys after found = cc
split_found s (x ∷ xs) ys after found =
    elim (cases_Bool (x == s)) [ inl here ↦ let same : xs ≡ after = cc in rw (here, same) refl | inr other ↦ let later = split_found s xs ys after (rw other at found) in rw (other, later) refl ]

-- where it is not, the front goes before what the rest is split to
pub split_clear : (s : ℕ) (xs ys : List ℕ) → All (IsNot s) xs → split_once s (xs ++ ys) ≡ (xs ++ (split_once s ys).0, (split_once s ys).1)
unfolding split_once
split_clear s [] ys none = refl
split_clear s (x ∷ xs) ys none =
    cond-false _ _ _ (ne_eqb x s (All-head (IsNot s) x xs none)) ∙ ap (λ r. (x ∷ r.0, r.1)) (split_clear s xs ys (All-tail (IsNot s) x xs none))

-- a text with no separator is all before it
pub split_whole : (s : ℕ) (xs ys : List ℕ) → is_some (split_once s xs).1 ≡ false → split_once s (xs ++ ys) ≡ (xs ++ (split_once s ys).0, (split_once s ys).1)
unfolding split_once
split_whole s [] ys none = refl
split_whole s (x ∷ xs) ys none =
    elim (cases_Bool (x == s)) [ inl here ↦ let clash = rw here at none in cc | inr other ↦ cond-false _ _ _ other ∙ ap (λ r. (x ∷ r.0, r.1)) (split_whole s xs ys (rw other at none)) ]

pub some_value : (o : Option (List ℕ)) → is_some o ≡ true → (x : List ℕ) × (o ≡ Some x)
some_value o is = grind (arith, nat_tests)

-- ---- the pieces of joined bytes

onto_append : (b : ℕ) (first : List (List ℕ)) (others : List (List ℕ)) → 0 < length first → onto_first b first ++ others ≡ onto_first b (first ++ others)
onto_append b first others some = grind (arith, nat_tests)

pub split_some : (s : ℕ) (xs : List ℕ) → 0 < length (split s xs)
unfolding split
split_some s [] = omega arith
split_some s (x ∷ xs) =
    elim (cases_Bool (x == s)) [ inl here ↦ rw here (omega arith) | inr other ↦ rw other (onto (split s xs)) ]
  where
    onto : (pieces : List (List ℕ)) → 0 < length (onto_first x pieces)
    onto pieces = grind (arith, nat_tests)

pub split_joined : (s : ℕ) (xs ys : List ℕ) → split s (xs ++ s ∷ ys) ≡ split s xs ++ split s ys
unfolding split
split_joined s [] ys = cond-true _ _ _ (eq-eqb s s refl)
split_joined s (x ∷ xs) ys =
    elim (cases_Bool (x == s)) [ inl here ↦ rw (here, split_joined s xs ys) refl | inr other ↦ rw (other, split_joined s xs ys) (sym (onto_append x (split s xs) (split s ys) (split_some s xs))) ]
