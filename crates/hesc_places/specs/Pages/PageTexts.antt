-- The text of a page: an input with a value and a placeholder, and a script that shows a text.
use Rattle.std.specs.Prelude.{◌≡◌, ℕ, List, [], ◌∷◌, ◌++◌, Some, codes, length}
use Rattle.hesc_specs.specs.Text.Ascii.{double_quote}
use Rattle.hesc_specs.specs.Text.Nul.{nul}
use Rattle.html_escape.specs.declared.encoder.Encoder.TheVariants.{UnquotedAttribute, DoubleQuotedAttribute}
use Rattle.html_escape.specs.Encoders.{encoded}
use Rattle.hesc_places.specs.Pages.FormTexts.{script_text}
use Rattle.hesc_places.specs.Pages.PageReadings.{PageRead, page_reading}

-- the value of an input, without quotes
abbrev pub value_part : List ℕ → List ℕ
value_part a = codes "<input value=" ++ encoded UnquotedAttribute a

-- its placeholder, in double quotes
abbrev pub placeholder_part : List ℕ → List ℕ
placeholder_part b = codes " placeholder=" ++ double_quote ∷ (encoded DoubleQuotedAttribute b ++ double_quote ∷ [])

-- the text of the page of three texts, the last of which its script shows
abbrev pub page_text : List ℕ → List ℕ → List ℕ → List ℕ
page_text a b c = value_part a ++ (placeholder_part b ++ script_text c)

-- what is read from the text of a page
abbrev pub page_back : List ℕ → List ℕ → List ℕ → PageRead
page_back a b c = record { first = nul a; second = b; third = c; end = length (page_text a b c) }

-- whatever follows the part, it is read as the three texts
abbrev pub IsReadAsPage : List ℕ → List ℕ → List ℕ → List ℕ → Type 0
IsReadAsPage a b c part = (rest : List ℕ) → page_reading (part ++ rest) ≡ Some (page_back a b c)
