-- A piece without a partial end is decided as a whole.
use Rattle.std.proofs.Common.{◌≡◌, ℕ, true, List, [], ◌∷◌, ◌++◌, ◌==◌, length, refl, ◌∙◌, arith, inl, inr}
use Rattle.std.proofs.lemmas.Bool.{cases_Bool, eqb-true}
use Rattle.std.proofs.Math.Seq.{drop-length}
use Rattle.hesc_specs.specs.Bodies.DecidedChanges.{partial_at}
use Rattle.hesc_specs.specs.Bodies.Encoding.{body_encoding}
use Rattle.hesc_specs.specs.Bodies.Sessions.{is_partial, partial_end, decided_encoding}
use Rattle.hesc_specs.specs.Text.FirstPlace.{IsFirstAt}
use Rattle.hesc_specs.specs.declared.elements.Element.{Element}
use Rattle.hesc_specs.proofs.Bodies.DecidedChanges.{partial_end-place}

decided-whole : (element : Element) (text : List ℕ) → partial_end element text ≡ [] → decided_encoding element text ≡ body_encoding element text
decided-whole element [] none = refl
decided-whole element (b ∷ text) none =
    elim (cases_Bool (is_partial element (b ∷ text))) [
      | inl undecided ↦ absurd (cc (rw undecided at none))
      | inr decided ↦ rw (decided, decided-whole element text (rw decided at none)) refl
    ]

-- where nothing is held, the piece is added with its encoding, and nothing is held of it
pub whole-added : (element : Element) (held piece : List ℕ) (end : ℕ) → (length held == 0) ≡ true → IsFirstAt (partial_at element piece) 0 (length piece) end → end ≡ length piece
    → (decided_encoding element (held ++ piece) ≡ body_encoding element piece) × (partial_end element (held ++ piece) ≡ held)
whole-added element [] piece end nothing first is_end =
    let none : partial_end element piece ≡ [] = partial_end-place element piece end first ∙ rw (is_end, drop-length piece) refl in
    (decided-whole element piece none, none)
whole-added element (b ∷ held) piece end nothing first is_end = absurd (omega (arith, eqb-true (length (b ∷ held)) 0 nothing))
