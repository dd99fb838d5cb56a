-- An item of a log.
use Rattle.std.specs.Prelude.{ℕ, List, ◌++◌, codes}
use Rattle.html_escape.specs.Words.{encoded}
use Rattle.html_escape.specs.declared.encoder.Encoder.TheVariants as encoder

-- the item, byte by byte
abbrev pub item_text : List ℕ → List ℕ → List ℕ
item_text time message =
    codes "<li title=\"" ++ (encoded encoder.DoubleQuotedAttribute time ++ (codes "\">" ++ (encoded encoder.Text message ++ codes "</li>")))
