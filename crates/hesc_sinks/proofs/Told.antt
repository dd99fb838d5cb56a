-- What a writer tells after more of its calls.
use Rattle.std.proofs.Common.{◌≡◌, ℕ, List, ◌++◌, refl, ◌∙◌, append_assoc}
use Rattle.std.specs.Prelude.{Option, Some, None}
use Rattle.std.specs.Io.KnownBytes.{Appends, Keeps}
use denote.Struct.Props.{props}
use mathlib.Core.Logic.{∥∥₁_elim, ∥∥₁_map}

Appends-more : (first middle last : Option (List ℕ)) (taken more all : List ℕ) → all ≡ taken ++ more → Appends middle last more → Appends first middle taken → Appends first last all
Appends-more None middle last taken more all is later earlier = tt
Appends-more (Some a) None last taken more all is later earlier = absurd earlier
Appends-more (Some a) (Some b) None taken more all is later earlier = later
Appends-more (Some a) (Some b) (Some c) taken more all is later earlier = later ∙ rw (earlier, is) (append_assoc a taken more)

Appends-kept : (first middle last : Option (List ℕ)) (taken all : List ℕ) → all ≡ taken → Keeps middle last → Appends first middle taken → Appends first last all
Appends-kept None middle last taken all is later earlier = tt
Appends-kept (Some a) None last taken all is later earlier = absurd earlier
Appends-kept (Some a) (Some b) None taken all is later earlier = later
Appends-kept (Some a) (Some b) (Some c) taken all is later earlier = later ∙ rw (earlier, is) refl

-- after a write that took more
pub told-more : (first middle last : Option (List ℕ)) (taken more all : List ℕ) → all ≡ taken ++ more → Appends middle last more → ∥ Appends first middle taken ∥₁ → ∥ Appends first last all ∥₁
told-more first middle last taken more all is later told = ∥∥₁_map told (Appends-more first middle last taken more all is later)

-- after a write that failed
pub told-kept : (first middle last : Option (List ℕ)) (taken all : List ℕ) → all ≡ taken → Keeps middle last → ∥ Appends first middle taken ∥₁ → ∥ Appends first last all ∥₁
told-kept first middle last taken all is later told = ∥∥₁_map told (Appends-kept first middle last taken all is later)

Appends-prop : (first last : Option (List ℕ)) (bytes : List ℕ) → IsProp (Appends first last bytes)
Appends-prop None last bytes = hlevel props
Appends-prop (Some a) None bytes = hlevel props
Appends-prop (Some a) (Some b) bytes = hlevel props

-- what a sink took that began with nothing is what went out
pub told-all : (old new first last : Option (List ℕ)) (taken bytes : List ℕ) → first ≡ old → last ≡ new → taken ≡ bytes → ∥ Appends first last taken ∥₁ → Appends old new bytes
told-all old new first last taken bytes same_first same_last same_taken told =
    let here : Appends first last taken = ∥∥₁_elim told (Appends-prop first last taken) (λ appends. appends) in
    rw (← same_first, ← same_last, ← same_taken) here
