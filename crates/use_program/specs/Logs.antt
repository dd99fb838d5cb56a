-- A line of a log.
use Rattle.std.specs.Prelude.{ℕ, List, ◌++◌, codes}
use Rattle.html_escape.specs.Words.{encoded}
use Rattle.html_escape.specs.declared.encoder.Encoder.TheVariants.{Text}

-- an item of a list, its message encoded as text
abbrev pub log_line : List ℕ → List ℕ
log_line message = codes "<li>" ++ encoded Text message ++ codes "</li>\n"
