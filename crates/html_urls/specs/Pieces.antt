-- The segments of a path and the strings of a query, where these are markup and slots.
use Rattle.std.specs.Prelude.{◌≡◌, ℕ, Bool, true, false, ◌==◌, List, [], ◌∷◌, ◌++◌, if◌then◌else◌}
use Rattle.url.specs.Ascii.{slash}
use Rattle.html_urls.specs.Shapes.{from_slot, front_of, path_parts, texts_after}
use Rattle.html_urls.specs.Slots.{Given, Markup, Slot, url_of}

-- the part stands before the first piece
abbrev pub onto_piece : Given → List (List Given) → List (List Given)
onto_piece part [] = (part ∷ []) ∷ []
onto_piece part (piece ∷ pieces) = (part ∷ piece) ∷ pieces

-- one byte of markup before the first piece
abbrev pub onto_markup : ℕ → List (List Given) → List (List Given)
onto_markup b ((Markup bytes ∷ piece) ∷ pieces) = (Markup (b ∷ bytes) ∷ piece) ∷ pieces
onto_markup b pieces = onto_piece (Markup (b ∷ [])) pieces

-- the pieces of markup, of which the last goes on in the first of the others
abbrev pub markup_pieces : ℕ → List ℕ → List (List Given) → List (List Given)
markup_pieces separator [] later = onto_piece (Markup []) later
markup_pieces separator (b ∷ bytes) later =
    if b == separator then (Markup [] ∷ []) ∷ markup_pieces separator bytes later else onto_markup b (markup_pieces separator bytes later)

-- the pieces between the separators of the markup
abbrev pub pieces : ℕ → List Given → List (List Given)
pieces separator [] = [] ∷ []
pieces separator (Markup bytes ∷ parts) = markup_pieces separator bytes (pieces separator parts)
pieces separator (Slot at ∷ parts) = onto_piece (Slot at) (pieces separator parts)

-- each piece with its texts
abbrev pub filled_pieces : List (List Given) → List (List ℕ) → List (List ℕ)
filled_pieces [] texts = []
filled_pieces (piece ∷ more) texts = url_of piece texts ∷ filled_pieces more (texts_after piece texts)

-- a piece that is not empty, whatever its texts
abbrev pub has_markup : List Given → Bool
has_markup [] = false
has_markup (Markup [] ∷ parts) = has_markup parts
has_markup (Markup (b ∷ bytes) ∷ parts) = true
has_markup (Slot at ∷ parts) = has_markup parts

abbrev pub HasMarkup : List Given → Type 0
HasMarkup piece = has_markup piece ≡ true

-- what stands behind the last `/`, where this stands behind the last one so far
abbrev pub behind_slash : List ℕ → List ℕ → List ℕ
behind_slash so_far [] = so_far
behind_slash so_far (b ∷ bytes) = if b == slash then behind_slash [] bytes else behind_slash (so_far ++ b ∷ []) bytes

-- the open segment of the markup before the first slot, and what of the parts is the path's behind it
abbrev pub open_path : List Given → List Given
open_path parts = Markup (behind_slash [] (front_of parts)) ∷ from_slot (path_parts parts)
