-- The words of a form's attributes: for each its name, the letter of its quoting, and its value.
use Rattle.std.specs.Prelude.{◌≡◌, ℕ, Bool, true, false, ◌&&◌, ◌||◌, List, [], ◌∷◌, bytes_eq}
use Rattle.std.specs.List.{flat_map}
use Rattle.hesc_places.specs.Pages.AttributeReadings.{Entry}
use Rattle.hesc_places.specs.declared.markup.types.Quoting.TheVariants.{Unquoted, Single, Double}
use Rattle.hesc_commands.specs.Names.{quoting_name}

-- the words of an attribute
abbrev pub attribute_words : Entry → List (List ℕ)
attribute_words a = a.name ∷ (quoting_name a.quoting ∷ (a.value ∷ []))

-- the words are those of these attributes
abbrev pub AreWordsOf : List Entry → List (List ℕ) → Type 0
AreWordsOf attributes words = flat_map attribute_words attributes ≡ words

-- the word is the letter of a quoting
abbrev pub is_letter : List ℕ → Bool
is_letter word = bytes_eq word (quoting_name Unquoted) || (bytes_eq word (quoting_name Single) || bytes_eq word (quoting_name Double))

-- the words are three for each attribute, the second a letter
abbrev pub name_attributes : List (List ℕ) → Bool
name_attributes [] = true
name_attributes (name ∷ letter ∷ value ∷ words) = is_letter letter && name_attributes words
name_attributes others = false
