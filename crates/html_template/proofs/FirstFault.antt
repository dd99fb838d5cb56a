-- The first of a list of optional faults is at a position exactly where it stands there, and none before it.
use Rattle.std.proofs.Common.{ℕ, zero, suc, ◌≡◌, ◌↔◌, ◌≤◌, ◌+◌, List, [], ◌∷◌, Option, Some, None, refl, ap, ◌∙◌, arith}
use Rattle.std.proofs.lemmas.Bool.Decides.{nat_tests}
use Rattle.html_template.specs.FirstFault.{AreNone, IsFirst, first_fault, first_from}

-- no two faults are told as one
pub record TellsApart {F G : Type 0} (tell : ℕ → F → G) : Type 0 where
  pub position : (m n : ℕ) (fault other : F) → tell m fault ≡ tell n other → m ≡ n
  pub fault : (m n : ℕ) (fault other : F) → tell m fault ≡ tell n other → fault ≡ other

module _ {F G : Type 0} (tell : ℕ → F → G) where
  some_told : {first second : G} → Some first ≡ Some second → first ≡ second
  some_told is = cc

  -- what is told is a fault with its position
  pub some_first : (n : ℕ) (faults : List (Option F)) (told : G) → ((m : ℕ) (fault : F) → tell m fault ≡ told → ⊥) → first_from tell n faults ≡ Some told → ⊥
  some_first n [] told other is = cc
  some_first n (None ∷ faults) told other is = some_first (n + 1) faults told other is
  some_first n (Some fault ∷ faults) told other is = other n fault (some_told is)

  -- positions are counted on
  after_start : TellsApart tell → (faults : List (Option F)) (n m : ℕ) (fault : F) → first_from tell n faults ≡ Some (tell m fault) → n ≤ m
  after_start apart [] n m fault is = absurd (cc)
  after_start apart (None ∷ faults) n m fault is = omega (arith, after_start apart faults (n + 1) m fault is)
  after_start apart (Some other ∷ faults) n m fault is = omega (arith, apart.position n m other fault (some_told is))

  to_first : TellsApart tell → (faults : List (Option F)) (n k : ℕ) (fault : F) → first_from tell n faults ≡ Some (tell (n + k) fault) → IsFirst k fault faults
  to_first apart [] n k fault is = absurd (cc)
  to_first apart (None ∷ faults) n zero fault is = absurd (omega (arith, after_start apart faults (n + 1) (n + zero) fault is))
  to_first apart (None ∷ faults) n (suc k) fault is =
      let same : n + suc k ≡ n + 1 + k = omega arith in
      (refl, to_first apart faults (n + 1) k fault (is ∙ ap (λ m. Some (tell m fault)) same))
  to_first apart (Some other ∷ faults) n zero fault is = ap Some (apart.fault n (n + zero) other fault (some_told is))
  to_first apart (Some other ∷ faults) n (suc k) fault is = absurd (omega (arith, apart.position n (n + suc k) other fault (some_told is)))

  from_first : (faults : List (Option F)) (n k : ℕ) (fault : F) → IsFirst k fault faults → first_from tell n faults ≡ Some (tell (n + k) fault)
  from_first [] n k fault first = absurd first
  from_first (here ∷ faults) n zero fault first =
      let same : n ≡ n + zero = omega arith in
      rw first (ap (λ m. Some (tell m fault)) same)
  from_first (here ∷ faults) n (suc k) fault first =
      let same : n + 1 + k ≡ n + suc k = omega arith in
      rw first.0 (from_first faults (n + 1) k fault first.1 ∙ ap (λ m. Some (tell m fault)) same)

  pub is_first : TellsApart tell → (faults : List (Option F)) (k : ℕ) (fault : F) → (first_fault tell faults ≡ Some (tell k fault)) ↔ IsFirst k fault faults
  is_first apart faults k fault = grind (arith, nat_tests, to_first, from_first)

  -- none is told exactly where there is none
  to_none : (faults : List (Option F)) (n : ℕ) → first_from tell n faults ≡ None → AreNone faults
  to_none [] n is = tt
  to_none (None ∷ faults) n is = (refl, to_none faults (n + 1) is)
  to_none (Some fault ∷ faults) n is = absurd (cc)

  from_none : (faults : List (Option F)) (n : ℕ) → AreNone faults → first_from tell n faults ≡ None
  from_none [] n none = refl
  from_none (here ∷ faults) n none = rw none.0 (from_none faults (n + 1) none.1)

  pub is_none : (n : ℕ) (faults : List (Option F)) → (first_from tell n faults ≡ None) ↔ AreNone faults
  is_none n faults = (to_none faults n, from_none faults n)
