-- The structure of a page: the actions at it, without the bytes of its texts and values.
use Rattle.std.specs.Prelude.{◌≡◌, ⊤, ℕ, Bool, true, false, List, ◌++◌, Option, Some}
use Rattle.std.specs.List.{AllByRecursion, filter}
use Rattle.std.specs.Str.{IsUtf8}
use Rattle.html_tokenizer.specs.Tokenizer.Actions.{Action, EmitByte, ValueByte, StringByte}
use Rattle.html_tokenizer.specs.Tokenizer.States.{data_state}
use Rattle.html_template.specs.TemplateFaults.{is_template, placed}
use Rattle.html_template.specs.Templates.{Chunk, Fill, Given, actions_all, page}
use Rattle.html_tokenizer.specs.Tokenizer.Tokenization.{state_after, actions_of}

-- DOCTYPEs and their identifiers, tags and their names, attributes and their names, comments, code, and where strings begin and end
abbrev pub is_structure : Action → Bool
is_structure (EmitByte b) = false
is_structure (ValueByte b) = false
is_structure (StringByte b) = false
is_structure other = true

abbrev pub structure : List Action → List Action
structure actions = filter is_structure actions

-- whatever follows, the page is tokenized as the template is, with each text handed to its slot whole
pub record IsReadAs (chunks : List Chunk) (texts : List (List ℕ)) (bytes : List ℕ) : Type 0 where
  pub actions : (rest : List ℕ) →
      actions_of data_state (bytes ++ rest) ≡ actions_all data_state chunks texts ++ actions_of data_state rest
  pub ends : (rest : List ℕ) → state_after data_state (bytes ++ rest) ≡ state_after data_state rest

-- behind these bytes the tokenizer is where a page begins: they end within no tag, reference or `template`, and within no element whose content
-- is read its own way
abbrev pub IsWhole : List ℕ → Type 0
IsWhole bytes = state_after data_state bytes ≡ data_state

-- the parts are a template, these texts fill it, and the bytes are its page of them
pub record IsPageOf (parts : List Given) (texts : List (List ℕ)) (bytes : List ℕ) : Type 0 where
  pub template : is_template parts ≡ true
  pub full : Fill (placed parts) texts
  pub utf8 : AllByRecursion IsUtf8 texts
  pub whole : page (placed parts) texts ≡ bytes

-- what is written behind such a page makes one of its parts and these, where it is known what the writer holds
abbrev pub JoinsWritten : List Given → List (List ℕ) → Option (List ℕ) → Option (List ℕ) → Type 0
JoinsWritten more others (Some old) (Some new) =
    (parts : List Given) (texts : List (List ℕ)) → IsPageOf parts texts old → IsPageOf (parts ++ more) (texts ++ others) new
JoinsWritten more others old new = ⊤
