-- What a body encoder writes for a text, and what a body decoder reads from one.
use Rattle.std.specs.Prelude.{◌≢◌, ℕ, ◌+◌, ◌-◌, List, [], ◌∷◌, All, drop, length, if◌then◌else◌}
use Rattle.hesc_specs.specs.Text.Ascii.{less_than, backslash}
use Rattle.hesc_specs.specs.Text.Elements.{element_name}
use Rattle.hesc_specs.specs.Bodies.Openings.{is_opening, is_escaped_opening}
use Rattle.hesc_specs.specs.declared.elements.Element.{Element}

-- the bytes in order, each followed by `\` if an opening begins at its place
abbrev pub body_encoding : Element → List ℕ → List ℕ
body_encoding element [] = []
body_encoding element (b ∷ text) =
    b ∷ (if is_opening element (b ∷ text) then backslash ∷ body_encoding element text else body_encoding element text)

-- the bytes in order, without the second byte of each escaped opening; `before` is the byte that stands before them
abbrev pub body_decoding_after : Element → ℕ → List ℕ → List ℕ
body_decoding_after element before [] = []
body_decoding_after element before (b ∷ text) =
    if is_escaped_opening element (before ∷ b ∷ text) then body_decoding_after element b text
    else b ∷ body_decoding_after element b text

-- what stands before the first byte of a text: nothing, for which NUL serves, since it begins no opening
abbrev pub nothing_before : ℕ
nothing_before = 0

-- the text without the second byte of each escaped opening
abbrev pub body_decoding : Element → List ℕ → List ℕ
body_decoding element text = body_decoding_after element nothing_before text

-- none of the last bytes is `<`, as many as `</` and the element's name have
abbrev pub EndsWithoutLessThan : Element → List ℕ → Type 0
EndsWithoutLessThan element text = All (λ b. b ≢ less_than) (drop (length text - (length (element_name element) + 2)) text)
