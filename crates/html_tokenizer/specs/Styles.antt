-- The law of slots in a `style` attribute.
use Rattle.std.specs.Prelude.{⊤, ℕ, ◌≡◌, true, List, [], ◌∷◌, ◌++◌, length}
use Rattle.std.specs.List.{AllByRecursion, list_all}
use Rattle.html_tokenizer.specs.declared.states.StylePart.{StylePart}
use Rattle.html_tokenizer.specs.declared.states.StylePart.TheVariants.{BeforeName, Value}
use Rattle.html_tokenizer.specs.Declarations.{declarations, is_style_byte, stays_in_value}
use Rattle.html_tokenizer.specs.Tokenizer.Attributes.StyleParts.{part_after}

-- each text, and the markup behind it
abbrev pub filled_with : List (List ℕ) → List (List ℕ) → List ℕ
filled_with (text ∷ texts) (markup ∷ markups) = text ++ (markup ++ filled_with texts markups)
filled_with texts markups = []

-- a slot stands in the value of a declaration, and so one behind each markup but the last, which goes on with the declaration
abbrev pub StandInValues : StylePart → List (List ℕ) → Type 0
StandInValues part [] = ⊤
StandInValues part (markup ∷ markups) =
    (part ≡ Value) × (stays_in_value markup ≡ true) × StandInValues (part_after Value markup) markups

-- a text for each slot, which it takes
pub record AreStyleValues (texts markups : List (List ℕ)) : Type 0 where
  pub count : length texts ≡ length markups
  pub taken : AllByRecursion (λ text. list_all is_style_byte text ≡ true) texts

-- the value of this front, and slots with this markup behind each, has the same declarations with all texts
abbrev pub HasSameDeclarations : List ℕ → List (List ℕ) → Type 0
HasSameDeclarations front markups =
    (texts others : List (List ℕ)) → StandInValues (part_after BeforeName front) markups → AreStyleValues texts markups → AreStyleValues others markups →
    declarations (front ++ filled_with texts markups) ≡ declarations (front ++ filled_with others markups)
