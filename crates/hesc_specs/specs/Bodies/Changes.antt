-- The changes of the body encoders and decoders.
use Rattle.std.specs.Prelude.{ℕ, zero, suc, ◌+◌, List, [], ◌∷◌, drop, slice_index, if◌then◌else◌}
use Rattle.hesc_specs.specs.Text.Ascii.{backslash}
use Rattle.hesc_specs.specs.Bodies.Encoding.{nothing_before}
use Rattle.hesc_specs.specs.Text.Changes.{Change}
use Rattle.hesc_specs.specs.Bodies.Openings.{is_opening, is_escaped_opening}
use Rattle.hesc_specs.specs.declared.elements.Element.{Element}

-- a body encoder's changes of the bytes that stand at a place and after it: a `\` right after the `<` of each opening
abbrev pub body_encoding_changes_of : Element → ℕ → List ℕ → List Change
body_encoding_changes_of element at [] = []
body_encoding_changes_of element at (b ∷ bytes) =
    if is_opening element (b ∷ bytes) then record { start = at + 1; end = at + 1; bytes = backslash ∷ [] } ∷ body_encoding_changes_of element (at + 1) bytes
    else body_encoding_changes_of element (at + 1) bytes

-- a body encoder's changes of a source from a place on
abbrev pub body_encoding_changes : Element → List ℕ → ℕ → List Change
body_encoding_changes element source from = body_encoding_changes_of element from (drop from source)

-- a body decoder's changes of the bytes that stand at a place and after it, after another byte: the second byte of each escaped opening is dropped
abbrev pub body_decoding_changes_of : Element → ℕ → ℕ → List ℕ → List Change
body_decoding_changes_of element before at [] = []
body_decoding_changes_of element before at (b ∷ bytes) =
    if is_escaped_opening element (before ∷ b ∷ bytes) then record { start = at; end = at + 1; bytes = [] } ∷ body_decoding_changes_of element b (at + 1) bytes
    else body_decoding_changes_of element b (at + 1) bytes

-- the byte that stands before a place
abbrev pub byte_before : List ℕ → ℕ → ℕ
byte_before source zero = nothing_before
byte_before source (suc place) = slice_index source place

-- a body decoder's changes of a source from a place on
abbrev pub body_decoding_changes : Element → List ℕ → ℕ → List Change
body_decoding_changes element source from = body_decoding_changes_of element (byte_before source from) from (drop from source)
