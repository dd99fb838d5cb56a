use Rattle.std.proofs.Common.{ℕ, ◌≡◌, ◌==◌, true, List, [], ◌∷◌, ◌∙◌, length, subst, refl, sym, ap, arith}
use Rattle.std.proofs.lemmas.Bool.{eqb-true}
use Rattle.html_view.specs.Names.{dot}
use Rattle.html_view.specs.Tags.{AreWords, IsName, behind_dot, innermost, words}
use Rattle.html_view.proofs.source.tag.is_name.Goals as goal

none_left : (bytes : List ℕ) → (length bytes == 0) ≡ true → bytes ≡ []
none_left [] is = refl
none_left (b ∷ bytes) is = let none = eqb-true (length (b ∷ bytes)) 0 is in absurd (omega arith)

pub returns-in-None : goal.returns-in-None
returns-in-None c = λ is. words (subst AreWords c.as_bytes.ensures.value (c.are_words.ensures is))

pub returns-then-is_empty : goal.returns-then-is_empty
returns-then-is_empty c = λ is.
    let cut = c.in-Some.ensures.cases in
    let none : c.in-Some.words.now ≡ [] = none_left c.in-Some.words.now (sym c.is_empty.ensures ∙ c.if-is_empty.true) in
    subst IsName (sym (cut.1.1 ∙ ap (λ w. dot ∷ w) (sym cut.2 ∙ none))) innermost

pub returns-else-is_empty : goal.returns-else-is_empty
returns-else-is_empty c = λ is.
    let cut = c.in-Some.ensures.cases in
    subst IsName (sym (cut.1.1 ∙ ap (λ w. dot ∷ w) (sym cut.2)))
    (behind_dot (subst AreWords c.as_bytes-else-is_empty.ensures.value (c.are_words-else-is_empty.ensures is)))
