-- A table of rows.
use Rattle.std.specs.Prelude.{ℕ, List, ◌++◌, codes}
use Rattle.std.specs.List.{flat_map}
use Rattle.html_escape.specs.Words.{encoded}
use Rattle.html_escape.specs.declared.encoder.Encoder.TheVariants.{DoubleQuotedAttribute, Text}
use Rattle.uses.specs.declared.pages.rows.Row.{Row}

-- a row, each of its two texts encoded for its place
abbrev pub row_text : Row → List ℕ
row_text row =
    codes "<tr title=\"" ++ encoded DoubleQuotedAttribute row.title.now ++ codes "\"><td>" ++ encoded Text row.text.now ++ codes "</td></tr>"

abbrev pub table_text : List Row → List ℕ
table_text rows = codes "<table>" ++ flat_map row_text rows ++ codes "</table>"
