-- What the encoder and the decoder of a class make of a text, and where they change it.
use Rattle.std.specs.Prelude.{ℕ, Bool, false, List, [], Option, Some, None}
use Rattle.hesc_specs.specs.Text.Changes.{Change, html_changes}
use Rattle.hesc_specs.specs.Text.Classes.{string_class}
use Rattle.hesc_specs.specs.Html.{encoding}
use Rattle.hesc_specs.specs.Strings.Changes.{string_decoding_changes, string_encoding_changes, string_escapes_at}
use Rattle.hesc_specs.specs.Strings.Tokens.{string_decoding}
use Rattle.hesc_specs.specs.Strings.Encoding.{string_encoding}
use Rattle.hesc_specs.specs.declared.classes.Class.{Class}
use Rattle.hesc_specs.specs.declared.elements.Element.{Element}
use Rattle.hesc_specs.specs.declared.quotes.Quotes.{Quotes}

-- one value for an HTML encoder's class, another by the element and the quote marks of a string encoder's
abbrev pub by_class : {A : Type 0} → Option (Element × Quotes) → A → (Element → Quotes → A) → A
by_class None html string = html
by_class (Some s) html string = string s.0 s.1

-- what the encoder of a class writes for a text
abbrev pub escaped : Class → List ℕ → List ℕ
escaped class = by_class (string_class class) (encoding class) string_encoding

-- the changes of the encoder of a class, of a source from a place on
abbrev pub escape_changes : Class → List ℕ → ℕ → List Change
escape_changes class = by_class (string_class class) (html_changes class) string_encoding_changes

-- what the decoder of a class reads from a text: an HTML encoder's class has none, and the text stays as it is
abbrev pub unescaped : Class → List ℕ → List ℕ
unescaped class = by_class (string_class class) (λ text. text) string_decoding

-- the changes of the decoder of a class, of a source from a place on
abbrev pub unescape_changes : Class → List ℕ → ℕ → List Change
unescape_changes class = by_class (string_class class) (λ source from. []) string_decoding_changes

-- an escape of a class begins at a place; an HTML encoder's class has none
abbrev pub unescapes_at : Class → List ℕ → ℕ → Bool
unescapes_at class = by_class (string_class class) (λ source place. false) string_escapes_at
