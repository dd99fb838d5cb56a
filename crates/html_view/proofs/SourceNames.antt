-- Names: the words of a name, as they are read byte by byte.
use Rattle.std.proofs.Common.{ℕ, ◌≡◌, ◌≢◌, Bool, true, false, ◌==◌, List, [], ◌∷◌, ◌++◌, inl, inr, refl, sym, ap, ◌∙◌}
use Rattle.std.specs.List.{AllByRecursion, list_all}
use Rattle.std.proofs.lemmas.Bool.{and_from, cases_Bool, eqb-true}
use Rattle.std.proofs.lemmas.List.Folds.{list_all-append}
use Rattle.html_view.specs.Names.{dot, words_behind}
use Rattle.html_view.specs.Tags.{IsWord, is_letter}

-- the bytes of a word so far, and that the words from here on make all
pub record InWord (started : Bool) (bytes rest : List ℕ) : Type 0 where
  pub word : List ℕ
  pub letters : list_all is_letter word ≡ true
  pub some : started ≡ true → word ≢ []
  pub leads : AllByRecursion IsWord (words_behind word rest) → AllByRecursion IsWord (words_behind [] bytes)

pub begins_word : (bytes : List ℕ) → InWord false bytes bytes
begins_word bytes = record {
  word = [];
  letters = refl;
  some = λ is. let clash : false ≡ true = is in cc;
  leads = λ words. words;
}

letter_dot : (b : ℕ) → is_letter b ≡ true → (b == dot) ≡ false
letter_dot b letter = elim (cases_Bool (b == dot)) [
  | inr other ↦ other
  | inl same ↦ let clash : false ≡ true = ap is_letter (sym (eqb-true b dot same)) ∙ letter in cc
]

pub takes_letter : (started : Bool) (b : ℕ) (bytes rest : List ℕ) → is_letter b ≡ true → InWord started bytes (b ∷ rest)
    → InWord true bytes rest
takes_letter started b bytes rest letter within = record {
  word = within.word ++ b ∷ [];
  letters = list_all-append is_letter within.word (b ∷ []) ∙ and_from (list_all is_letter within.word) (list_all is_letter (b ∷ []))
      within.letters (and_from (is_letter b) true letter refl);
  some = λ is. longer within.word;
  leads = λ words. within.leads (rw (letter_dot b letter) words);
}
  where
    longer : (word : List ℕ) → word ++ b ∷ [] ≢ []
    longer [] is = cc
    longer (c ∷ word) is = cc

pub takes_dot : (b : ℕ) (bytes rest : List ℕ) → (b == dot) ≡ true → InWord true bytes (b ∷ rest) → InWord false bytes rest
takes_dot b bytes rest is within = record {
  word = [];
  letters = refl;
  some = λ is. let clash : false ≡ true = is in cc;
  leads = λ words. within.leads (rw is (record { some = within.some refl; letters = within.letters }, words));
}

pub ends_word : (bytes : List ℕ) → InWord true bytes [] → AllByRecursion IsWord (words_behind [] bytes)
ends_word bytes within = within.leads (record { some = within.some refl; letters = within.letters }, tt)
