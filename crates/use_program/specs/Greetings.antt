-- A page that greets.
use Rattle.std.specs.Prelude.{ℕ, List, ◌++◌, codes}
use Rattle.html_escape.specs.Words.{encoded}
use Rattle.html_escape.specs.declared.encoder.Encoder.TheVariants.{DoubleQuotedAttribute, Text}

-- the name stands twice, each time encoded for its place
abbrev pub greeting_text : List ℕ → List ℕ
greeting_text name = codes "<p title=\"Hello, " ++ encoded DoubleQuotedAttribute name ++ codes "\">Hello, " ++ encoded Text name ++ codes "!</p>"
