-- Openings of a body: where a comment or the element's end tag could begin. Each place is judged by itself, by what the text from it on begins with.
use Rattle.std.specs.Prelude.{◌≡◌, ℕ, zero, suc, Bool, true, false, ◌&&◌, ◌||◌, nat_le, ◌==◌, List, [], ◌∷◌, drop, codes}
use Rattle.hesc_specs.specs.Text.Ascii.{slash, less_than, greater_than, backslash}
use Rattle.hesc_specs.specs.Text.Words.{begins, begins_in_any_case}
use Rattle.hesc_specs.specs.Text.Elements.{element_name}
use Rattle.hesc_specs.specs.declared.elements.Element.{Element}

-- a name ends before `/`, `>`, a byte 9 to 13 or 28 to 32, and at the end of the text
abbrev pub ends_name : List ℕ → Bool
ends_name [] = true
ends_name (b ∷ bytes) = b == slash || b == greater_than || (nat_le 9 b && nat_le b 13) || (nat_le 28 b && nat_le b 32)

-- the bytes after a `<` complete an opening: `!--`, or `/` and the element's name in any ASCII case, which ends there
abbrev pub completes_opening : Element → List ℕ → Bool
completes_opening element bytes = begins (codes "!--") bytes || begins_in_any_case (slash ∷ element_name element) ends_name bytes

-- an opening begins at the first byte
abbrev pub is_opening : Element → List ℕ → Bool
is_opening element [] = false
is_opening element (b ∷ bytes) = b == less_than && completes_opening element bytes

-- an escaped opening begins at the first byte: `<` and `\`, and without the `\` an opening
abbrev pub is_escaped_opening : Element → List ℕ → Bool
is_escaped_opening element [] = false
is_escaped_opening element (b ∷ []) = false
is_escaped_opening element (b ∷ c ∷ bytes) = b == less_than && (c == backslash && is_opening element (b ∷ bytes))

-- an opening begins at a place of a text
abbrev pub opens_at : Element → List ℕ → ℕ → Bool
opens_at element text place = is_opening element (drop place text)

-- an escaped opening begins at a place of a text
abbrev pub opens_escaped_at : Element → List ℕ → ℕ → Bool
opens_escaped_at element text place = is_escaped_opening element (drop place text)

-- a place has the `\` of an escaped opening, which begins right before
abbrev pub drops_at : Element → List ℕ → ℕ → Bool
drops_at element text zero = false
drops_at element text (suc place) = opens_escaped_at element text place

-- no opening begins at any place
abbrev pub HasNoOpening : Element → List ℕ → Type 0
HasNoOpening element text = (place : ℕ) → opens_at element text place ≡ false

-- no escaped opening begins at any place
abbrev pub HasNoEscapedOpening : Element → List ℕ → Type 0
HasNoEscapedOpening element text = (place : ℕ) → opens_escaped_at element text place ≡ false
