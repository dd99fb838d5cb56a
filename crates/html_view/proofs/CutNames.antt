-- The words of a name, cut at its first dot.
use Rattle.std.proofs.Common.{ℕ, Bool, suc, nat_eq, refl, ◌≡◌, ◌≢◌, ◌<◌, ◌==◌, true, false, List, [], ◌∷◌, ◌++◌, length, get_or, Option, Some, None, IfSome, IfNone, MatchOption, Bor, sym, ap, ◌∙◌, subst, append_assoc, append-nil, arith, ⊎_elim}
use Rattle.std.proofs.lemmas.Bool.{cases_Bool, eqb-true}
use Rattle.std.proofs.lemmas.List.Folds.{list_any_at}
use Rattle.std.specs.List.{list_any}
use Rattle.html_view.specs.Names.{dot, words_behind}

abbrev LacksDot : List ℕ → Type 0
LacksDot word = (i : ℕ) → i < length word → get_or word i 0 ≢ dot

is_other : (b : ℕ) (word : List ℕ) → LacksDot (b ∷ word) → (b == dot) ≡ false
is_other b word lacks = ⊎_elim (λ (is : (b == dot) ≡ true). absurd (lacks 0 (omega arith) (eqb-true b dot is))) (λ (is : (b == dot) ≡ false). is) (cases_Bool (b == dot))

pub words_cut : (front word rest : List ℕ) → LacksDot word → words_behind front (word ++ dot ∷ rest) ≡ (front ++ word) ∷ words_behind [] rest
words_cut front [] rest lacks = ap (λ w. w ∷ words_behind [] rest) (sym (append-nil front))
words_cut front (b ∷ word) rest lacks =
    rw (is_other b word lacks)
    (words_cut (front ++ b ∷ []) word rest (λ i below. lacks (suc i) (omega arith)) ∙ ap (λ w. w ∷ words_behind [] rest) (append_assoc front (b ∷ []) word))

pub one_word : (front word : List ℕ) → LacksDot word → words_behind front word ≡ (front ++ word) ∷ []
one_word front [] lacks = ap (λ w. w ∷ []) (sym (append-nil front))
one_word front (b ∷ word) lacks =
    rw (is_other b word lacks)
    (one_word (front ++ b ∷ []) word (λ i below. lacks (suc i) (omega arith)) ∙ ap (λ w. w ∷ []) (append_assoc front (b ∷ []) word))

-- ---- where `split_once` cuts

abbrev Cut : List ℕ → Option (Bor (List ℕ) × Bor (List ℕ)) → Type 0
Cut words found = MatchOption found (LacksDot words) (λ x. (words ≡ x.0.now ++ (dot ∷ x.1.now)) × LacksDot x.0.now)

pub some_cut : (words : List ℕ) (found : Option (Bor (List ℕ) × Bor (List ℕ))) → Cut words found →
    IfSome found (λ x. words_behind [] words ≡ x.0.now ∷ words_behind [] x.1.now)
some_cut words None cut = tt
some_cut words (Some x) cut = ap (words_behind []) cut.0 ∙ words_cut [] x.0.now x.1.now cut.1

pub none_cut : (words : List ℕ) (found : Option (Bor (List ℕ) × Bor (List ℕ))) → Cut words found →
    IfNone found (words_behind [] words ≡ words ∷ [])
none_cut words None lacks = one_word [] words lacks
none_cut words (Some x) cut = tt

longer : (word rest : List ℕ) → length rest < length (word ++ dot ∷ rest)
longer [] rest = omega arith
longer (b ∷ word) rest = let shorter = longer word rest in omega arith

pub shorter_cut : (words : List ℕ) (found : Option (Bor (List ℕ) × Bor (List ℕ))) → Cut words found →
    IfSome found (λ x. length x.1.now < length words)
shorter_cut words None cut = tt
shorter_cut words (Some x) cut = subst (λ w. length x.1.now < length w) (sym cut.0) (longer x.0.now x.1.now)

-- ---- where no byte is a dot

lacks_dot : (word : List ℕ) → list_any (λ b. nat_eq b dot) word ≡ false → LacksDot word
lacks_dot word none i below is =
    let some : list_any (λ b. nat_eq b dot) word ≡ true = list_any_at (λ b. nat_eq b dot) word i 0 below (rw is refl) in
    absurd (cc)

pub dotless : (word bytes : List ℕ) (found : Bool) → bytes ≡ word → found ≡ list_any (λ b. nat_eq b dot) bytes → found ≡ false → words_behind [] word ≡ word ∷ []
dotless word bytes found are same none = one_word [] word (lacks_dot word (ap (list_any (λ b. nat_eq b dot)) (sym are) ∙ sym same ∙ none))
