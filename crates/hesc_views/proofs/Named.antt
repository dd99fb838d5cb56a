-- Where paths and the names of files are cut.
use Rattle.std.proofs.Common.{◌≡◌, ◌≢◌, inl, inr, ◌+◌, ◌-◌, ◌==◌, ◌<◌, ◌≤◌, ℕ, Bool, true, not, List, Some, None, get_or, length, drop, sym, ap, ◌∙◌, arith}
use Rattle.std.specs.List.{after_last, suffix_len}
use Rattle.std.specs.Str.Pattern.{RFindsChar}
use Rattle.std.proofs.lemmas.Bool.Decides.{eqb_tells}
use Rattle.std.proofs.lemmas.List.{get_or-drop}
use Rattle.std.proofs.lemmas.List.Sums.{suffix_len_is}
use Rattle.std.proofs.lemmas.Str.Pattern.{NoCharPasses-char}
use Rattle.hesc_specs.specs.Text.Ascii.{slash}

abbrev is_no_slash : ℕ → Bool
is_no_slash b = not (b == slash)

other_byte : (b : ℕ) → b ≢ slash → is_no_slash b ≡ true
other_byte b other = elim (eqb_tells b slash) [
  | inl is ↦ absurd (other is.1)
  | inr is ↦ ap not is.0
]

-- no slash stands at or behind this place, and one right before it, if anything does
after_last_is : (path : List ℕ) (n : ℕ) → n ≤ length path → ((k : ℕ) → n ≤ k → k < length path → get_or path k 0 ≢ slash) →
    (0 < n → get_or path (n - 1) 0 ≡ slash) → drop n path ≡ after_last (λ b. b == slash) path
after_last_is path n within none before =
    let rest : suffix_len is_no_slash path ≡ length path - n =
    suffix_len_is is_no_slash path n 0 within (λ k from below. other_byte (get_or path k 0) (none k from below))
    (λ some. ap is_no_slash (before some)) in
    let place : n ≡ length path - suffix_len is_no_slash path = omega (arith, rest, within) in
    ap (λ m. drop m path) place

-- behind the last slash
pub behind_last : (path back : List ℕ) (i j : ℕ) → RFindsChar slash path (Some (i, j)) → back ≡ drop j path → length back + j ≡ length path →
    back ≡ after_last (λ b. b == slash) path
behind_last path back i j found is whole =
    let within : j ≤ length path = omega (arith, whole) in
    let left : length (drop j path) ≡ length back = ap (λ (n : List ℕ). length n) (sym is) in
    let none : (k : ℕ) → j ≤ k → k < length path → get_or path k 0 ≢ slash = λ k from below same.
    let here : get_or (drop j path) (k - j) 0 ≡ get_or path (j + (k - j)) 0 = get_or-drop j path (k - j) 0 in
    let place : j + (k - j) ≡ k = omega (arith, from) in
    NoCharPasses-char slash (drop j path) (k - j) found.0 (omega arith) (omega (arith, left, whole, from, below))
    (here ∙ (ap (λ n. get_or path n 0) place ∙ same)) in
    let before : 0 < j → get_or path (j - 1) 0 ≡ slash = λ some.
    let place : j - 1 ≡ i = omega (arith, found.1.ends) in
    ap (λ n. get_or path n 0) place ∙ found.1.byte (omega arith) in
    is ∙ after_last_is path j within none before

-- without a slash it is all
pub behind_none : (path : List ℕ) → RFindsChar slash path None → path ≡ after_last (λ b. b == slash) path
behind_none path none =
    after_last_is path 0 (omega arith) (λ k from below. NoCharPasses-char slash path k none (omega arith) below) (λ some. absurd (omega (arith, some)))
