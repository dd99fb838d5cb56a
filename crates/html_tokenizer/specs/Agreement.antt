-- The tokenizer beside the readings of the places in hesc_grammars.
use Rattle.std.specs.Prelude.{◌≡◌, ◌⊎◌, ℕ, Bool, true, false, ◌&&◌, ◌||◌, List, [], ◌∷◌, ◌++◌, Some, bytes_eq, codes, length, map}
use Rattle.std.specs.Char.{to_ascii_lowercase}
use Rattle.hesc_specs.specs.Text.Ascii.{carriage_return, slash, less_than}
use Rattle.hesc_grammars.specs.Places.{end_byte}
use Rattle.hesc_grammars.specs.Places.{reading}
use Rattle.hesc_grammars.specs.declared.place.End.{End}
use Rattle.hesc_grammars.specs.declared.place.Place.{Place}
use Rattle.hesc_grammars.specs.declared.place.Place.TheVariants.{UnquotedAttribute}
use Rattle.html_tokenizer.specs.declared.slot_place.SlotPlace.{SlotPlace}
use Rattle.html_tokenizer.specs.declared.slot_place.SlotPlace.TheVariants.{Unquoted}
use Rattle.html_tokenizer.specs.declared.states.Code.TheVariants.{Plain}
use Rattle.html_tokenizer.specs.declared.elements.Content.{Content}
use Rattle.html_tokenizer.specs.declared.elements.OpenElement.TheVariants.{Normal}
use Rattle.html_tokenizer.specs.Tokenizer.Actions.{StringEnd, read_byte}
use Rattle.html_tokenizer.specs.Tokenizer.Code.{is_script}
use Rattle.html_tokenizer.specs.Tokenizer.Code.Escapes.{is_opaque}
use Rattle.html_tokenizer.specs.Tokenizer.Elements.{with_element}
use Rattle.html_tokenizer.specs.Tokenizer.States.{State, Tokenizer, In, BeforeValue, InCode, CodeLess, at}
use Rattle.html_tokenizer.specs.Tokenizer.Tags.{end_tag_byte, ends_name}
use Rattle.html_tokenizer.specs.Tokenizer.Tags.EndTags.{is_appropriate}
use Rattle.html_tokenizer.specs.Tokenizer.Tokenization.{state_after, actions_of}

-- up to the mark at which a place's reading ends, the tokenizer stays in the value, and its actions
-- are at the value that the place's reading found
pub record Agrees (p : SlotPlace) (content : Content) (mark : ℕ) (bytes : List ℕ) (found : List ℕ × ℕ) : Type 0 where
  pub front : List ℕ
  pub rest : List ℕ
  pub parts : bytes ≡ front ++ mark ∷ rest
  pub end : length front ≡ found.1
  pub after : state_after (at (In p) content) front ≡ at (In p) content
  pub actions : actions_of (at (In p) content) front ≡ map (read_byte p) found.0

-- wherever the place has a reading, the two agree
abbrev pub AgreesWith : SlotPlace → Content → Place → ℕ → List ℕ → Type 0
AgreesWith p content place mark bytes =
    (found : List ℕ × ℕ) → reading place bytes ≡ Some found → Agrees p content mark bytes found

-- the bytes before the mark at which a reading ends, where these and the reading's value are related so
pub record Ends (Read : List ℕ → List ℕ → Type 0) (mark : ℕ) (bytes : List ℕ) (found : List ℕ × ℕ) : Type 0 where
  pub front : List ℕ
  pub rest : List ℕ
  pub parts : bytes ≡ front ++ mark ∷ rest
  pub end : length front ≡ found.1
  pub read : Read front found.0

-- from the `=` on the tokenizer goes into a value without quotes and stays there, and its actions are at the value
pub record StaysUnquoted (content : Content) (front value : List ℕ) : Type 0 where
  pub after : state_after (at BeforeValue content) front ≡ at (In Unquoted) content
  pub actions : actions_of (at BeforeValue content) front ≡ map (read_byte Unquoted) value

-- a carriage return stands in the bytes
pub record HasReturn (bytes : List ℕ) : Type 0 where
  pub before : List ℕ
  pub following : List ℕ
  pub parts : bytes ≡ before ++ carriage_return ∷ following

-- wherever a value without quotes has a reading, the two agree up to its end, unless a carriage return
-- stands in it: there the tokenizer does what it does at a line feed, which ends the value
abbrev pub AgreesUnquoted : Content → End → List ℕ → Type 0
AgreesUnquoted content end bytes =
    (found : List ℕ × ℕ) → reading (UnquotedAttribute end) bytes ≡ Some found →
    Ends (λ front value. StaysUnquoted content front value ⊎ HasReturn front) (end_byte end) bytes found

-- at the bytes of a string and the mark after them the tokenizer's actions are at the value, and it leaves the string
pub record LeavesString (p : SlotPlace) (content : Content) (mark : ℕ) (front value : List ℕ) : Type 0 where
  pub after : state_after (at (In p) content) (front ++ mark ∷ []) ≡ at (InCode Plain) content
  pub actions : actions_of (at (In p) content) (front ++ mark ∷ []) ≡ map (read_byte p) value ++ StringEnd ∷ []

-- `<!` in a script, which the HTML around a string reads, and a `<` in an escape of a style
abbrev pub could_be_markup : Content → List ℕ → Bool
could_be_markup content word = (bytes_eq word (codes "<!") && is_script content.element) || bytes_eq word (codes "\\<")

-- the state is in a part of the code that takes no slot
abbrev pub is_given_up : State → Bool
is_given_up (InCode kind) = is_opaque kind
is_given_up (CodeLess kind) = is_opaque kind
is_given_up other = false

-- at such a word the tokenizer gives the string up
pub record GivesUp (content : Content) (word : List ℕ) (t : Tokenizer) : Type 0 where
  pub markup : could_be_markup content word ≡ true
  pub after : is_given_up t.state ≡ true

-- the word is the end tag of the element, its name in any case, up to the byte behind the name: it ends the code
pub record EndsCode (content : Content) (word : List ℕ) (t : Tokenizer) : Type 0 where
  pub name : List ℕ
  pub last : ℕ
  pub tag : word ≡ less_than ∷ slash ∷ (name ++ last ∷ [])
  pub appropriate : is_appropriate content.element (map to_ascii_lowercase name) ≡ true
  pub end : ends_name last ≡ true
  pub after : t ≡ (end_tag_byte (with_element content Normal) last).next

abbrev pub LeavesAt : Content → List ℕ → Tokenizer → Type 0
LeavesAt content word t = GivesUp content word t ⊎ EndsCode content word t

-- such a word stands in the string
pub record LeavesEarly (p : SlotPlace) (content : Content) (front : List ℕ) : Type 0 where
  pub before : List ℕ
  pub word : List ℕ
  pub following : List ℕ
  pub parts : front ≡ (before ++ word) ++ following
  pub leaves : LeavesAt content word (state_after (at (In p) content) (before ++ word))

-- wherever a string has a reading, the two agree, or the tokenizer gives it up, or the code ends in it
abbrev pub AgreesInString : SlotPlace → Content → Place → ℕ → List ℕ → Type 0
AgreesInString p content place mark bytes =
    (found : List ℕ × ℕ) → reading place bytes ≡ Some found →
    Ends (λ front value. LeavesString p content mark front value ⊎ LeavesEarly p content front) mark bytes found
