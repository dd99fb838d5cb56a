-- A log, as a list.
use Rattle.std.specs.Prelude.{ℕ, List, ◌++◌, codes}
use Rattle.std.specs.Borrow.{Bor}
use Rattle.std.specs.List.{flat_map}
use Rattle.html_escape.specs.Words.{encoded}
use Rattle.html_escape.specs.declared.encoder.Encoder.TheVariants.{Text}

-- an item, its message encoded as text
abbrev pub item_text : List ℕ → List ℕ
item_text message = codes "<li>" ++ encoded Text message ++ codes "</li>"

abbrev pub items_text : List (Bor (List ℕ)) → List ℕ
items_text messages = flat_map (λ message. item_text message.now) messages

abbrev pub list_text : List (Bor (List ℕ)) → List ℕ
list_text messages = codes "<ul>" ++ items_text messages ++ codes "</ul>"
