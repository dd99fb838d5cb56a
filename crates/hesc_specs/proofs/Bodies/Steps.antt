-- Steps of a session that begins with nothing held: none, one more, and a finish after them.
use Rattle.std.proofs.Common.{ℕ, ◌≡◌, List, [], ◌++◌, refl, sym, ap, ◌∙◌, append_assoc}
use Rattle.std.proofs.lemmas.List.{append-nil}
use Rattle.hesc_specs.specs.Bodies.Encoding.{body_encoding}
use Rattle.hesc_specs.specs.Bodies.Sessions.{IsStep}
use Rattle.hesc_specs.specs.declared.elements.Element.{Element}

pub no_step : (element : Element) → IsStep element [] [] [] []
no_step element = (λ rest. refl, refl)

-- two steps, one after the other, are one over the joined pieces
pub joined_steps : (element : Element) (held piece held' added next held'' more : List ℕ) → IsStep element held piece held' added → IsStep element held' next held'' more
    → IsStep element held (piece ++ next) held'' (added ++ more)
joined_steps element held piece held' added next held'' more first second = (
  λ rest.
      ap (λ x. body_encoding element (held ++ x)) (append_assoc piece next rest)
      ∙ (first.0 (next ++ rest) ∙ (ap (λ x. added ++ x) (second.0 rest) ∙ sym (append_assoc added more (body_encoding element (held'' ++ rest))))),
  second.1,
)

-- what was added and the encoding of what is held are the encoding of all that was given
pub finished_steps : (element : Element) (given held added : List ℕ) → IsStep element [] given held added → added ++ body_encoding element held ≡ body_encoding element given
finished_steps element given held added step =
    ap (λ x. added ++ body_encoding element x) (sym (append-nil held)) ∙ (sym (step.0 []) ∙ ap (body_encoding element) (append-nil given))
