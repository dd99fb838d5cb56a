-- A `&` to a `Refusing`, as the walks of its methods meet it.
use Rattle.std.proofs.Common.{ℕ, ◌+◌, [], ◌∷◌}
use seplogic.Ra.Ura.{Ura}
use mir.Syntax.{Args, a_type, dnil, dcons}
use base.Logic.{ent, sep}
use base.Fml.{Fml, Lft}
use prog.Memory.{size, align, up}
use types.Logic.{Logic, sem}
use types.Kit.{‵, ◌$◌, ◌∵◌, !, qed, done, move, keep, fsplit}
use denote.Builtin.{RefOf}
use denote.Memory.{hidden_shr}
use denote.Opens.{unhide}
use denote.Param.{bounded, param}
use denote.Signature.{Slot, plain}
use Rattle.std.proofs.alloc.Calls.{Al, α, seen}
use Rattle.test_support.proofs.Refusal.{cell_seen}
use Rattle.test_support.specs.contracts.refusing.Refusing.{the_row}

module _ (Z : Al) where
  -- what the code is given for its type parameter
  abbrev pub args : Args
  args = bounded (a_type ∷ []) (Z.row, tt) (dcons Z.d (dcons Z.drops dnil))

  abbrev pub self : Slot 2
  self = RefOf (0 ∷ []) tt (plain (λ _. the_row (param 0 Z.row))) (λ _. tt)

  -- the offsets of the fields
  abbrev pub inner_at : ℕ
  inner_at = up (align (α Z)) 0

  abbrev pub requests_at : ℕ
  requests_at = up 8 (inner_at + size (α Z))

module _ (Z : Al) (κ : Lft) (heap : (the_row (param 0 Z.row)).Denot) (place : ℕ × ℕ) where
  abbrev pub handle_seen : Fml
  handle_seen = hidden_shr (the_row (param 0 Z.row)) κ heap place.0 place.1

  abbrev pub inner_seen : Fml
  inner_seen = seen Z κ (place.0, place.1 + inner_at Z) heap.inner

  abbrev pub requests_seen : Fml
  requests_seen = cell_seen κ (place.0, place.1 + requests_at Z)

  -- a `&` to the struct is a `&` to each of its fields
  pub fields_seen : {M : Type 1} {𝓤 : Ura M} (𝓛 : Logic 𝓤)
      → ent 𝓤 (sem 𝓛 handle_seen) (sep 𝓤 (sem 𝓛 requests_seen) (sem 𝓛 inner_seen))
  fields_seen 𝓛 =
      qed 𝓛 (‵ handle_seen ∷ []) ∵ unhide ! $ fsplit ! $ fsplit ! $ move ! (1 ∷ []) $ fsplit ! $
      keep ! (0 ∷ 2 ∷ []) $ done !
