-- A cell of a table with a title.
use Rattle.std.specs.Prelude.{ℕ, List, ◌++◌, codes}
use Rattle.html_escape.specs.Words.{encoded}
use Rattle.html_escape.specs.declared.encoder.Encoder.TheVariants.{DoubleQuotedAttribute, Text}

-- the cell, each of its two texts encoded for its place
abbrev pub cell_text : List ℕ → List ℕ → List ℕ
cell_text title text =
    codes "<td title=\"" ++ encoded DoubleQuotedAttribute title ++ codes "\">" ++ encoded Text text ++ codes "</td>"
