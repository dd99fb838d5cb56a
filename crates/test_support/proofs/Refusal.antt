-- `is_refused` in a walk that calls it: its contract, what it is handed, and what it leaves.
use Rattle.std.proofs.Common.{◌≡◌, ◌<◌, ◌^◌, ℕ, Bool, List, [], ◌∷◌, refl, ap, w64}
use seplogic.Ra.Ura.{Ura}
use mir.Val.{Val, vint, vptr, vbool}
use base.Logic.{SProp, ent, sep, ex, guard, id⊢}
use base.Fml.{Fml, Lft, Share, ftrue, flft}
use prog.Memory.{Memory}
use prog.Routine.{Routine}
use types.Logic.{Logic, sem}
use contract.Monad.{Fun}
use types.Kit.{‵, raw, ◌⊛◌, some, later, ◌$◌, ◌∵◌, !, qed, done, move, keep, use1, split, join, fjoin}
use types.Kit.{feq_i, feq_l, flt_i, pick, show, check, await, updating, now as at_once}
use denote.Builtin.{bool}
use denote.Memory.{hidden_shr}
use denote.Steps.{nothing, only}
use denote.Triple.Clauses.{lasts}
use denote.Triple.Spec.{triple_of}
use denote.Triple.Statement.{Contract}
use Rattle.std.specs.contracts.cell.Cell as Cell
use Rattle.test_support.specs.contracts.refusing.Requests as Requests
use Rattle.test_support.specs.contracts.refusing.is_refused as is_refused

-- a `&` to the cell at that address
abbrev pub cell_seen : Lft → ℕ × ℕ → Fml
cell_seen κ at = hidden_shr (Cell.the_row Requests.the_row) κ (record { value = tt }) at.0 at.1

module _ {M : Type 1} {𝓤 : Ura M} (𝓛 : Logic 𝓤) (at_mem : Memory → SProp 𝓤) (run : Routine → Fun 𝓤)
    (κ : Lft) (q : Share) (at : ℕ × ℕ) (bytes : ℕ) where
  open 𝓛 use {H, A}

  abbrev pub Counts : Contract 𝓤
  Counts = triple_of 𝓛 is_refused.signature (is_refused.spec 𝓛 at_mem run)

  -- a call with the cell at that address, under a token of its lifetime, for so many bytes
  abbrev pub call : Counts.Ghost
  call = (
    (
      (κ, tt),
      (q, tt),
      tt,
      (record { ref_ptr = at; now = record { value = tt } }, (bytes, tt)),
      (vptr at.0 at.1 ∷ [], (vint w64 bytes ∷ [], tt)),
    ),
    tt,
  )

  pub handed : bytes < 2 ^ 64 → ent 𝓤 (sep 𝓤 (sem 𝓛 (cell_seen κ at)) (A.lft κ q)) (Counts.pre call)
  handed fits =
      qed 𝓛 (‵ (cell_seen κ at) ∷ ‵ (flft κ q) ∷ []) ∵
      nothing ! $ flt_i ! bytes (2 ^ 64) fits $ feq_i ! (List Val) (vint w64 bytes ∷ []) _ refl $ fjoin ! $ fjoin ! $
      move ! (1 ∷ []) $ feq_i ! (List Val) (vptr at.0 at.1 ∷ []) _ refl $ fjoin ! $ fjoin ! $
      nothing ! $ move ! (2 ∷ 0 ∷ []) $ join ! $ join ! $ nothing ! $ move ! (1 ∷ 0 ∷ []) $ join ! $ done !

  -- the answer is a `bool`, and the token comes back
  pub left : (v : Val) → ent 𝓤 (Counts.post call v)
      (H.⇛ (ex 𝓤 (λ (is_last : Bool). guard 𝓤 (v ≡ vbool is_last) (A.lft κ q))))
  left v =
      qed 𝓛 (raw (Counts.post call v) ∷ []) ∵ updating ! $
      use1 𝓛 (later (some (λ (is_last : Bool). ((‵ (flft κ q) ⊛ ‵ ftrue) ⊛ ‵ (bool.own_val is_last (v ∷ [])))
      ⊛ some (λ (ws : Unit {0} × (Unit {0} × Unit {0})). ‵ (lasts is_refused.ended call.0.0 call.0.3 ws) ⊛ ‵ ftrue)))) (id⊢ 𝓤 _) $
      await ! tt $ pick ! (λ is_last. split ! $ split ! $ move ! (1 ∷ []) $ feq_l ! (λ is. split ! $ at_once ! $
      show ! (λ (b : Bool). guard 𝓤 (v ≡ vbool b) (A.lft κ q)) is_last $ check ! (ap only is) $
      keep ! (0 ∷ []) $ done !))
