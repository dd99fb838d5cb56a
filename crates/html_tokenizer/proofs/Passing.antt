-- Bytes from one state of the tokenizer to another.
use Rattle.std.proofs.Common.{ℕ, zero, suc, ◌≡◌, ◌<◌, List, [], ◌∷◌, ◌++◌, length, map, take, refl, ap, ◌∙◌, sym, append_assoc, append-nil, arith, ◌≤◌, ◌+◌, ◌-◌, Bool, false, drop, slice_index}
use Rattle.std.proofs.lemmas.List.{map-append, take_more, take_rest}
use Rattle.html_tokenizer.specs.Tokenizer.Actions.{Action}
use Rattle.html_tokenizer.specs.Tokenizer.States.{Refused, Tokenizer, refused}
use Rattle.html_tokenizer.specs.Tokenizer.Tokenization.{consume, state_after, actions_of}
use Rattle.html_tokenizer.specs.Tokenizer.Transitions.{Transition, moves}
use Rattle.std.proofs.Math.Seq.{take-add}
use Rattle.hesc_specs.specs.Text.FirstPlace.{IsFirstPlace}
use Rattle.html_tokenizer.specs.Tokenizer.Phases.{ReadsOn}

-- the bytes lead from one state to the other, with these actions
pub record Passes (t : Tokenizer) (bytes : List ℕ) (done : List Action) (u : Tokenizer) : Type 0 where
  pub after : state_after t bytes ≡ u
  pub actions : actions_of t bytes ≡ done

pub state_after-append : (t : Tokenizer) (first second : List ℕ) →
    state_after t (first ++ second) ≡ state_after (state_after t first) second
state_after-append t [] second = refl
state_after-append t (b ∷ first) second = state_after-append (consume t b).next first second

pub actions_of-append : (t : Tokenizer) (first second : List ℕ) →
    actions_of t (first ++ second) ≡ actions_of t first ++ actions_of (state_after t first) second
actions_of-append t [] second = refl
actions_of-append t (b ∷ first) second =
    ap (λ more. (consume t b).actions ++ more) (actions_of-append (consume t b).next first second)
    ∙ sym (append_assoc (consume t b).actions (actions_of (consume t b).next first) (actions_of (state_after (consume t b).next first) second))

pub passes_none : {t : Tokenizer} → Passes t [] [] t
passes_none = record { after = refl; actions = refl }

pub passes_itself : (t : Tokenizer) (bytes : List ℕ) → Passes t bytes (actions_of t bytes) (state_after t bytes)
passes_itself t bytes = record { after = refl; actions = refl }

pub passes_both : {t u v : Tokenizer} {p q : List ℕ} {a b : List Action} →
    Passes t p a u → Passes u q b v → Passes t (p ++ q) (a ++ b) v
passes_both {t} {u} {v} {p} {q} {a} {b} first second = record {
  after = state_after-append t p q ∙ ap (λ x. state_after x q) first.after ∙ second.after;
  actions = actions_of-append t p q ∙ ap (λ x. x ++ actions_of (state_after t p) q) first.actions
      ∙ ap (λ x. a ++ actions_of x q) first.after ∙ ap (λ x. a ++ x) second.actions;
}

-- bytes that are read as a text, and then others
pub passes_texts : {t u v : Tokenizer} {p q : List ℕ} (read : ℕ → Action) (first second : List ℕ) →
    Passes t p (map read first) u → Passes u q (map read second) v → Passes t (p ++ q) (map read (first ++ second)) v
passes_texts read first second one other = rw (map-append read first second) (passes_both one other)

-- one byte, and then others
pub passes_byte : {t u v : Tokenizer} {b : ℕ} {bytes : List ℕ} {first others : List Action} →
    consume t b ≡ moves u first → Passes u bytes others v → Passes t (b ∷ bytes) (first ++ others) v
passes_byte {t} {u} {v} {b} {bytes} {first} {others} is rest =
    let next = ap (λ (x : Transition). x.next) is in
    record {
      after = ap (λ x. state_after x bytes) next ∙ rest.after;
      actions = ap (λ (x : Transition). x.actions ++ actions_of (consume t b).next bytes) is
          ∙ ap (λ x. first ++ actions_of x bytes) next ∙ ap (λ x. first ++ x) rest.actions;
    }

-- one byte alone
pub passes_one : {t u : Tokenizer} {b : ℕ} (actions : List Action) → consume t b ≡ moves u actions → Passes t (b ∷ []) actions u
passes_one {t} {u} {b} actions is = rw (← append-nil actions) (passes_byte is passes_none)

-- nothing leads out of a refusal
pub stays_refused : (bytes : List ℕ) → state_after refused bytes ≡ refused
unfolding consume
stays_refused [] = refl
stays_refused (b ∷ bytes) = stays_refused bytes

-- so that after a refusal the rest need not be read
pub refuses_rest : (t u : Tokenizer) (bytes : List ℕ) (count : ℕ) → count < length bytes →
    u ≡ state_after t (take count bytes) → u.state ≡ Refused → state_after t bytes ≡ refused
unfolding consume
refuses_rest t u [] count within before is = absurd (omega arith)
refuses_rest t u (b ∷ bytes) zero within before is =
    ap (λ x. state_after (consume x b).next bytes) (sym before) ∙ rw is (stays_refused bytes)
refuses_rest t u (b ∷ bytes) (suc count) within before is = refuses_rest (consume t b).next u bytes count (omega arith) before is

-- ---- from one place in the bytes to another

-- one byte more
pub reads_longer : (t u v : Tokenizer) (bytes : List ℕ) (count : ℕ) → count < length bytes →
    u ≡ state_after t (take count bytes) → (consume u (slice_index bytes count)).next ≡ v → v ≡ state_after t (take (count + 1) bytes)
reads_longer t u v bytes count within before here =
    rw (take_more bytes count 0 within, state_after-append t (take count bytes) (slice_index bytes count ∷ []), ← before, here) refl

-- more bytes, so many of those that follow
pub reads_more : (t u v : Tokenizer) (bytes : List ℕ) (count more : ℕ) → u ≡ state_after t (take count bytes) →
    v ≡ state_after u (take more (take (length bytes - count) (drop count bytes))) → v ≡ state_after t (take (count + more) bytes)
reads_more t u v bytes count more before here =
    let rest = rw take_rest at here in
    rw (take-add count more bytes, state_after-append t (take count bytes) (take more (drop count bytes)), ← before, rest) refl

pub reads_byte : (t u : Tokenizer) (bytes : List ℕ) (done : ℕ) → done < length bytes → (consume t (slice_index bytes done)).next ≡ u →
    ReadsOn t u bytes done (done + 1)
reads_byte t u bytes done within here = record {
  forth = omega arith;
  within = omega arith;
  read = λ start before. reads_longer start t u bytes done within before here;
}

pub reads_stretch : (t u : Tokenizer) (bytes : List ℕ) (done count : ℕ) → done + count ≤ length bytes →
    state_after t (take count (take (length bytes - done) (drop done bytes))) ≡ u → ReadsOn t u bytes done (done + count)
reads_stretch t u bytes done count within here = record {
  forth = omega arith;
  within = within;
  read = λ start before. reads_more start t u bytes done count before (sym here);
}

pub reads_both : {t u v : Tokenizer} {bytes : List ℕ} {before between after : ℕ} → ReadsOn t u bytes before between → ReadsOn u v bytes between after →
    ReadsOn t v bytes before after
reads_both first second = record {
  forth = omega (arith, first.forth, second.forth);
  within = second.within;
  read = λ start before. second.read start (first.read start before);
}

-- ---- where the tokenizer stays

pub stays_at_each : (t : Tokenizer) (bytes : List ℕ) (count : ℕ) → count ≤ length bytes →
    ((k : ℕ) → k < count → (consume t (slice_index bytes k)).next ≡ t) → state_after t (take count bytes) ≡ t
stays_at_each t bytes zero within each = refl
stays_at_each t [] (suc count) within each = absurd (omega arith)
stays_at_each t (b ∷ bytes) (suc count) within each =
    ap (λ x. state_after x (take count bytes)) (each 0 (omega arith))
    ∙ stays_at_each t bytes count (omega arith) (λ k below. each (suc k) (omega arith))

-- up to the first byte that passes a test, where it stays at each byte that does not pass it
pub stays_up_to : (test : ℕ → Bool) (t : Tokenizer) (bytes : List ℕ) (place : ℕ) → IsFirstPlace test bytes 0 place →
    ((b : ℕ) → test b ≡ false → (consume t b).next ≡ t) → state_after t (take place bytes) ≡ t
stays_up_to test t bytes place first each =
    stays_at_each t bytes place first.in_range (λ k below. each (slice_index bytes k) (first.before k (omega arith) below))
