-- When two texts are the same body: cut before each `<`, they differ only in the `\` of openings.
use Rattle.std.specs.Prelude.{◌≡◌, ◌⊎◌, ℕ, true, List, [], ◌∷◌, ◌++◌, ◌==◌, if◌then◌else◌}
use Rattle.hesc_specs.specs.Text.Ascii.{less_than, backslash}
use Rattle.hesc_specs.specs.Bodies.Openings.{is_opening}
use Rattle.hesc_specs.specs.declared.elements.Element.{Element}

-- the bytes before the first `<`
abbrev pub first_piece : List ℕ → List ℕ
first_piece [] = []
first_piece (b ∷ text) = if b == less_than then [] else b ∷ first_piece text

-- for each `<`, the bytes from it up to the next `<` or the end
abbrev pub later_pieces : List ℕ → List (List ℕ)
later_pieces [] = []
later_pieces (b ∷ text) = if b == less_than then (b ∷ first_piece text) ∷ later_pieces text else later_pieces text

-- the text, cut before each `<`
abbrev pub pieces : List ℕ → List (List ℕ)
pieces text = first_piece text ∷ later_pieces text

-- what follows a piece, before the others: the next `<`, or the end of the text
abbrev pub follower : List (List ℕ) → List ℕ
follower [] = []
follower (piece ∷ others) = less_than ∷ []

-- the piece with one `\` after its first byte
abbrev pub escaped_piece : List ℕ → List ℕ
escaped_piece [] = []
escaped_piece (b ∷ piece) = b ∷ backslash ∷ piece

-- the first piece begins an opening, with what follows it, and the second is it with one `\` after its `<`
abbrev pub Escapes : Element → List ℕ → List ℕ → List ℕ → Type 0
Escapes element next piece other = (is_opening element (piece ++ next) ≡ true) × (other ≡ escaped_piece piece)

-- there are equally many pieces, and each pair is equal, or one of it is the other escaped
abbrev pub SamePieces : Element → List (List ℕ) → List (List ℕ) → Type 0
SamePieces element [] [] = Unit {0}
SamePieces element [] (other ∷ others) = ⊥
SamePieces element (piece ∷ rest) [] = ⊥
SamePieces element (piece ∷ rest) (other ∷ others) =
    ((piece ≡ other) ⊎ (Escapes element (follower rest) piece other ⊎ Escapes element (follower others) other piece)) × SamePieces element rest others

-- two texts are the same body
abbrev pub IsSameBody : Element → List ℕ → List ℕ → Type 0
IsSameBody element text other = SamePieces element (pieces text) (pieces other)
