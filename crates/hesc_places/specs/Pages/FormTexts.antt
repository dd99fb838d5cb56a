-- The text of a form: the tag with its attributes, and the script.
use Rattle.std.specs.Prelude.{◌≡◌, ◌≢◌, ⊤, ℕ, Bool, false, IsTrue, List, [], ◌∷◌, ◌++◌, Some, codes, length, map}
use Rattle.std.specs.Char.{is_ascii_lowercase}
use Rattle.std.specs.List.{flat_map, list_all, AllByRecursion}
use Rattle.hesc_specs.specs.Text.Ascii.{space, double_quote, single_quote, equals_sign}
use Rattle.hesc_specs.specs.Text.Nul.{nul}
use Rattle.html_escape.specs.declared.encoder.Encoder.TheVariants as encoder
use Rattle.html_escape.specs.Encoders.{encoded}
use Rattle.hesc_places.specs.declared.markup.types.Attribute.{Attribute}
use Rattle.hesc_places.specs.declared.markup.types.Quoting.{Quoting}
use Rattle.hesc_places.specs.declared.markup.types.Quoting.TheVariants.{Unquoted, Single, Double}
use Rattle.hesc_places.specs.Pages.AttributeReadings.{Entry, differ, entry}
use Rattle.hesc_places.specs.Pages.FormReadings.{FormRead, form_reading}

-- an attribute that is to be written
abbrev pub written : Attribute → Entry
written a = entry a.name.now a.quoting a.value.now

-- a value as it stands in the tag
abbrev pub value_text : Quoting → List ℕ → List ℕ
value_text Unquoted value = encoded encoder.UnquotedAttribute value
value_text Single value = single_quote ∷ (encoded encoder.SingleQuotedAttribute value ++ single_quote ∷ [])
value_text Double value = double_quote ∷ (encoded encoder.DoubleQuotedAttribute value ++ double_quote ∷ [])

-- an attribute, with the space before it
abbrev pub attribute_text : Entry → List ℕ
attribute_text a = space ∷ (a.name ++ equals_sign ∷ value_text a.quoting a.value)

-- a space stands after the last attribute if it is unquoted, so that its value does not take the `/`
abbrev pub gap_after : Quoting → List ℕ
gap_after Unquoted = space ∷ []
gap_after other = []

abbrev pub gap : List Entry → List ℕ
gap [] = []
gap (a ∷ []) = gap_after a.quoting
gap (a ∷ b ∷ others) = gap (b ∷ others)

-- what stands after the attributes
abbrev pub script_text : List ℕ → List ℕ
script_text script = codes "/><script>alert('" ++ (encoded encoder.ScriptSingleQuoted script ++ codes "');</script>")

-- the text of a form with these attributes and this script string
abbrev pub form_text : List Entry → List ℕ → List ℕ
form_text attributes script = codes "<input" ++ (flat_map attribute_text attributes ++ (gap attributes ++ script_text script))

-- a name is one or more lower-case ASCII letters
abbrev pub is_name : List ℕ → Bool
is_name [] = false
is_name (b ∷ name) = list_all is_ascii_lowercase (b ∷ name)

-- an unquoted value is not empty
abbrev pub IsFilled : Quoting → List ℕ → Type 0
IsFilled Unquoted value = length value ≢ 0
IsFilled other value = ⊤

-- each name is one, no name stands twice, and no unquoted value is empty
pub record AreGood (attributes : List Entry) : Type 0 where
  pub names : AllByRecursion (λ a. IsTrue (is_name a.name)) attributes
  pub differ : IsTrue (differ (map (λ a. a.name) attributes))
  pub filled : AllByRecursion (λ a. IsFilled a.quoting a.value) attributes

-- the value that is read back: U+FFFD for NUL where it is unquoted
abbrev pub value_back : Quoting → List ℕ → List ℕ
value_back Unquoted value = nul value
value_back other value = value

abbrev pub entry_back : Entry → Entry
entry_back a = record { name = a.name; quoting = a.quoting; value = value_back a.quoting a.value }

-- what is read from the text of a form
abbrev pub form_back : List Entry → List ℕ → FormRead
form_back attributes script =
    record { attributes = map entry_back attributes; script = script; end = length (form_text attributes script) }

-- whatever follows the part, it is read as the attributes and the script's string
abbrev pub IsReadAsForm : List Entry → List ℕ → List ℕ → Type 0
IsReadAsForm attributes script part =
    (rest : List ℕ) → form_reading (part ++ rest) ≡ Some (form_back attributes script)
