-- What is not refused after bytes was not before them.
use Rattle.std.proofs.Common.{ℕ, ◌≡◌, true, false, List, [], ◌∷◌, refl, ◌∙◌, subst, sym, ⊎_elim}
use Rattle.std.proofs.lemmas.Bool.{cases_Bool, false≢true, true≢false}
use Rattle.html_tokenizer.specs.Standing.{is_refused}
use Rattle.html_tokenizer.specs.Tokenizer.Actions.{Action}
use Rattle.html_tokenizer.specs.Tokenizer.States.{Refused, State, Tokenizer}
use Rattle.html_tokenizer.specs.Tokenizer.Tokenization.{consume, state_after}
use Rattle.html_tokenizer.specs.Tokenizer.Transitions.{Transition, moves}
use Rattle.html_tokenizer.proofs.Passing.{stays_refused}

refusal : (s : State) → is_refused s ≡ true → s ≡ Refused
refusal Refused is = refl
refusal other is = absurd (false≢true is)

refused_at : (t : Tokenizer) (bytes : List ℕ) → t.state ≡ Refused → is_refused (state_after t bytes).state ≡ true
unfolding consume
refused_at t [] is = rw is refl
refused_at t (b ∷ bytes) is = rw (is, stays_refused bytes) refl

pub not_refused : (t : Tokenizer) (bytes : List ℕ) → is_refused (state_after t bytes).state ≡ false → is_refused t.state ≡ false
not_refused t bytes unrefused =
    ⊎_elim
    (λ (is : is_refused t.state ≡ true). absurd (true≢false (sym (refused_at t bytes (refusal t.state is)) ∙ unrefused)))
    (λ (none : is_refused t.state ≡ false). none)
    (cases_Bool (is_refused t.state))

pub goes_to : {u : Tokenizer} {actions : List Action} (t : Tokenizer) (b : ℕ) (raw : List ℕ) → consume t b ≡ moves u actions →
    is_refused (state_after t (b ∷ raw)).state ≡ false → is_refused (state_after u raw).state ≡ false
goes_to t b raw is unrefused = subst (λ (x : Transition). is_refused (state_after x.next raw).state ≡ false) is unrefused
