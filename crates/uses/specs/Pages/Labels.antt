-- A style with a label.
use Rattle.std.specs.Prelude.{◌≡◌, ℕ, List, ◌++◌, Some, codes, drop, length}
use Rattle.html_escape.specs.Words.{encoded}
use Rattle.html_escape.specs.declared.encoder.Encoder.TheVariants.{StyleDoubleQuoted}
use Rattle.hesc_specs.specs.Text.Nul.{nul}
use Rattle.hesc_places.specs.Words.{enclosed, reading}
use Rattle.hesc_grammars.specs.declared.place.Place.TheVariants.{StyleDouble}

-- the style, with the label as a string of it
abbrev pub label_text : List ℕ → List ℕ
label_text label =
    codes "<style>main::before{content:" ++ enclosed StyleDoubleQuoted StyleDouble label ++ codes "}</style>"

-- after `content:"` and whatever follows the style, the label is read with U+FFFD for NUL
abbrev pub LabelComesBack : List ℕ → List ℕ → Type 0
LabelComesBack label style =
    (rest : List ℕ) → reading StyleDouble (drop (length (codes "<style>main::before{content:\"")) style ++ rest) ≡
    Some (nul label, length (encoded StyleDoubleQuoted label))
