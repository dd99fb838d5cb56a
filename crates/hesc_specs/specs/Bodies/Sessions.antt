-- Bodies that are given in pieces: what a session holds back, what it adds, and its steps.
use Rattle.std.specs.Prelude.{◌≡◌, ℕ, Bool, true, ◌&&◌, ◌||◌, ◌==◌, List, [], ◌∷◌, ◌++◌, codes, drop, if◌then◌else◌}
use Rattle.std.specs.Str.{IsUtf8}
use Rattle.hesc_specs.specs.Text.Ascii.{slash, less_than, backslash}
use Rattle.hesc_specs.specs.Bodies.Encoding.{body_encoding}
use Rattle.hesc_specs.specs.Text.Elements.{element_name}
use Rattle.hesc_specs.specs.Bodies.Openings.{is_opening}
use Rattle.hesc_specs.specs.Text.Words.{is_beginning_in_any_case}
use Rattle.hesc_specs.specs.declared.elements.Element.{Element}

-- what follows decides whether an opening begins with these bytes: there are none, or they are `<`, `<!`, `<!-`, or `</` and a beginning of the element's name in any ASCII case
abbrev pub is_partial : Element → List ℕ → Bool
is_partial element [] = true
is_partial element (b ∷ bytes) =
    b == less_than && (is_beginning_in_any_case (codes "!-") bytes || is_beginning_in_any_case (slash ∷ element_name element) bytes)

-- the longest end of a text that is partial
abbrev pub partial_end : Element → List ℕ → List ℕ
partial_end element [] = []
partial_end element (b ∷ text) = if is_partial element (b ∷ text) then b ∷ text else partial_end element text

-- the bytes before that end, each followed by `\` if an opening begins at its place
abbrev pub decided_encoding : Element → List ℕ → List ℕ
decided_encoding element [] = []
decided_encoding element (b ∷ text) =
    if is_partial element (b ∷ text) then []
    else b ∷ (if is_opening element (b ∷ text) then backslash ∷ decided_encoding element text else decided_encoding element text)

-- a step of a session over texts: holding some bytes and given a piece, it adds others and holds new ones, which are partial. Whatever text follows, nothing is lost of the encoding
abbrev pub IsTextStep : Element → List ℕ → List ℕ → List ℕ → List ℕ → Type 0
IsTextStep element held piece held' added =
    ((rest : List ℕ) → IsUtf8 rest → body_encoding element (held ++ (piece ++ rest)) ≡ added ++ body_encoding element (held' ++ rest))
    × (is_partial element held' ≡ true)

-- the same whatever bytes follow, a text or not; so each such step is one over texts
abbrev pub IsStep : Element → List ℕ → List ℕ → List ℕ → List ℕ → Type 0
IsStep element held piece held' added =
    ((rest : List ℕ) → body_encoding element (held ++ (piece ++ rest)) ≡ added ++ body_encoding element (held' ++ rest))
    × (is_partial element held' ≡ true)

-- a session that holds some bytes, goes by a step over each of the pieces and then adds the encoding of what it holds, adds these bytes in all
abbrev pub IsSession : Element → List ℕ → List (List ℕ) → List ℕ → Type 0
IsSession element held [] all = all ≡ body_encoding element held
IsSession element held (piece ∷ pieces) all =
    (held' : List ℕ) × (added : List ℕ) × (later : List ℕ)
    × IsStep element held piece held' added × IsSession element held' pieces later × (all ≡ added ++ later)

-- the same by steps over texts, where each piece is a text
abbrev pub IsTextSession : Element → List ℕ → List (List ℕ) → List ℕ → Type 0
IsTextSession element held [] all = all ≡ body_encoding element held
IsTextSession element held (piece ∷ pieces) all =
    (held' : List ℕ) × (added : List ℕ) × (later : List ℕ)
    × IsUtf8 piece × IsTextStep element held piece held' added × IsTextSession element held' pieces later × (all ≡ added ++ later)

-- held bytes, with a `\` after the `<` if they begin an opening
abbrev pub flushed : Bool → List ℕ → List ℕ
flushed opens held = if opens then less_than ∷ backslash ∷ drop 1 held else held
