-- Where something is decided of a body: its partial end begins, or an opening does.
use Rattle.std.specs.Prelude.{ℕ, Bool, false, ◌||◌, List, [], ◌∷◌, drop}
use Rattle.hesc_specs.specs.Bodies.Openings.{is_opening}
use Rattle.hesc_specs.specs.Bodies.Sessions.{is_partial}
use Rattle.hesc_specs.specs.declared.elements.Element.{Element}

abbrev pub decides : Element → List ℕ → Bool
decides element [] = false
decides element (b ∷ bytes) = is_partial element (b ∷ bytes) || is_opening element (b ∷ bytes)

abbrev pub decides_at : Element → List ℕ → ℕ → Bool
decides_at element text place = decides element (drop place text)
