-- Character references in text and in the value of an attribute, and a `&` that begins none.
-- HTML Standard, 13.2.5.72 Character reference state to 13.2.5.80 Numeric character reference end state, where
-- what the standard calls errors has no reading. The names of 13.5 are of letters and digits, and most end in a
-- `;`: so the longest one that follows a `&` is known at the first other byte. It is the word before that byte
-- with a `;`, or else a name without one that begins the word.
use Rattle.std.specs.Prelude.{ℕ, Bool, ◌&&◌, ◌||◌, not, List, [], ◌∷◌, ◌++◌, ◌==◌, Option, Some, None, bytes_eq, codes, if◌then◌else◌, length, map}
use Rattle.std.specs.Char.{is_ascii_alphanumeric}
use Rattle.std.specs.List.{list_any}
use Rattle.hesc_specs.specs.References.Rows as rows
use Rattle.hesc_specs.specs.Text.Ascii.{number_sign, ampersand, semicolon, equals_sign}
use Rattle.hesc_specs.specs.Text.Words.{begins}
use Rattle.hesc_grammars.specs.References.{body_character}
use Rattle.html_entities.specs.NamedReferences.{named_references}
use Rattle.html_tokenizer.specs.declared.slot_place.SlotPlace.{SlotPlace}
use Rattle.html_tokenizer.specs.declared.slot_place.SlotPlace.TheVariants.{Text}
use Rattle.html_tokenizer.specs.declared.elements.Content.{Content}
use Rattle.html_tokenizer.specs.declared.states.ListPart.TheVariants as list
use Rattle.html_tokenizer.specs.Tokenizer.Actions.{read_byte}
use Rattle.html_tokenizer.specs.Tokenizer.Attributes.{fixed}
use Rattle.html_tokenizer.specs.Tokenizer.Values.LegacyNames.{legacy_names}
use Rattle.html_tokenizer.specs.Tokenizer.States as state
use Rattle.html_tokenizer.specs.Tokenizer.States.{Attribute, at_value}
use Rattle.html_tokenizer.specs.Tokenizer.Transitions.{Transition, moves, refuses, reconsumes}
use Rattle.html_tokenizer.specs.Tokenizer.Values.{character_read}

-- 13.5 Named character references: the characters of a name that a `;` ends
unfoldable pub named_characters : List ℕ → Option (List ℕ)
named_characters name = rows.value_of named_references name

-- a name that needs no `;` begins the word
unfoldable pub begins_with_legacy : List ℕ → Bool
begins_with_legacy word = list_any (λ name. begins name word) legacy_names

-- the word is such a name
unfoldable pub is_legacy : List ℕ → Bool
is_legacy word = list_any (λ name. bytes_eq name word) legacy_names

-- a reference may go on with the byte after the word: a letter or a digit, or a `#` right after the `&`
abbrev pub goes_on : List ℕ → ℕ → Bool
goes_on word b = is_ascii_alphanumeric b || (b == number_sign && length word == 0)

-- behind a `&` and a word that stand for themselves though a name that needs no `;` begins the word, the value takes no slot: Chromium's
-- parser of fragments (`innerHTML`) looks for a `;` behind the `&`, which may be one of the text, and reads the name by it
abbrev pub behind_word : List ℕ → Attribute → Attribute
behind_word word attribute = if begins_with_legacy word then fixed attribute else attribute

-- behind a reference: in a URL of a list any but `&amp;` may be white space or a comma, and the list is followed no further
abbrev pub behind_reference : List ℕ → Attribute → Attribute
behind_reference word (state.Listed part) = state.Listed (if bytes_eq word (codes "amp") then part else list.Rest)
behind_reference word other = other

-- flush code points consumed as a character reference, and reconsume the byte in the return state
abbrev pub flushes : SlotPlace → List ℕ → Transition → Transition
flushes p word again = reconsumes (map (read_byte p) (ampersand ∷ word)) again

-- 13.2.5.74 Ambiguous ampersand state: no name begins the word, and a `;` after it is an error
abbrev pub ambiguous_end : SlotPlace → List ℕ → ℕ → Transition → Transition
ambiguous_end p word b again = if b == semicolon then refuses else flushes p word again

-- 13.2.5.73 Named character reference state, where a name without its `;` is consumed: an error, but in the
-- value of an attribute where a letter, a digit or `=` comes next
abbrev pub legacy_end : SlotPlace → List ℕ → ℕ → Transition → Transition
legacy_end Text word b again = refuses
legacy_end other word b again =
    if is_legacy word && not (b == equals_sign) then refuses else flushes other word again

-- 13.2.5.73, where no name with its `;` is consumed
abbrev pub unnamed_end : SlotPlace → List ℕ → ℕ → Transition → Transition
unnamed_end p word b again =
    if begins_with_legacy word then legacy_end p word b again else ambiguous_end p word b again

-- a reference that is read as characters, if it is one
abbrev pub characters_read : SlotPlace → Content → Attribute → Option (List ℕ) → Transition → Transition
characters_read p content attribute None otherwise = otherwise
characters_read p content attribute (Some characters) otherwise =
    moves (at_value (state.In p) content attribute) (map (read_byte p) characters)

-- 13.2.5.73
abbrev pub name_end : SlotPlace → Content → Attribute → List ℕ → ℕ → Transition → Transition
name_end p content attribute word b again =
    if b == semicolon then characters_read p content (behind_reference word attribute) (named_characters word) (unnamed_end p word b again)
    else unnamed_end p word b again

-- 13.2.5.75 Numeric character reference state to 13.2.5.80
abbrev pub number_end : SlotPlace → Content → Attribute → List ℕ → ℕ → Transition
number_end p content attribute word b =
    if b == semicolon then character_read p content (behind_reference word attribute) (body_character word) else refuses

-- where a reference ends, and the byte alone would lead on so
abbrev pub reference_end : SlotPlace → Content → Attribute → List ℕ → ℕ → Transition → Transition
reference_end p content attribute [] b again = flushes p [] again
reference_end p content attribute (first ∷ word) b again =
    if first == number_sign then number_end p content attribute (first ∷ word) b
    else name_end p content attribute (first ∷ word) b again

-- 13.2.5.72 Character reference state
abbrev pub reference_byte : SlotPlace → Content → Attribute → List ℕ → ℕ → Transition → Transition
reference_byte p content attribute word b again =
    if goes_on word b then moves (at_value (state.Within p (word ++ b ∷ [])) content attribute) []
    else reference_end p content attribute word b again
