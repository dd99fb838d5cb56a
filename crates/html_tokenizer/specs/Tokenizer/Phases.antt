-- The states of the running tokenizer, as those of the definitions.
use Rattle.std.specs.Prelude.{⊤, ℕ, ◌≡◌, ◌≤◌, false, true, List, [], ◌∷◌, ◌++◌, length, take}
use Rattle.html_tokenizer.specs.declared.slot_place.SlotPlace.TheVariants as place
use Rattle.html_tokenizer.specs.declared.reader.Reader.{Reader}
use Rattle.html_tokenizer.specs.declared.states.ListPart.TheVariants as list
use Rattle.html_tokenizer.specs.declared.states.StylePart.TheVariants as style
use Rattle.html_tokenizer.specs.declared.states.Kind.{Kind}
use Rattle.html_tokenizer.specs.declared.states.Kind.TheVariants as kind
use Rattle.html_tokenizer.specs.declared.states.Move.{Move}
use Rattle.html_tokenizer.specs.declared.states.Phase.{Phase}
use Rattle.html_tokenizer.specs.declared.states.Phase.TheVariants as phase
use Rattle.html_tokenizer.specs.declared.states.Word.{Word}
use Rattle.html_tokenizer.specs.declared.states.Word.TheVariants.{New, Keep, Begin, Add}
use Rattle.html_tokenizer.specs.Tokenizer.Attributes.{reference_read}
use Rattle.html_tokenizer.specs.Tokenizer.States as state
use Rattle.html_tokenizer.specs.Tokenizer.States.{State, Attribute, Tokenizer, at_value}
use Rattle.html_tokenizer.specs.Tokenizer.Tokenization.{state_after}
use Rattle.html_tokenizer.specs.Tokenizer.Transitions.{Transition}
use Rattle.html_tokenizer.specs.Tokenizer.Values.References.{begins_with_legacy}

abbrev pub state_of : Phase → List ℕ → State
state_of (phase.In p) word = state.In p
state_of (phase.Within p) word = state.Within p word
state_of (phase.StringLess p) word = state.StringLess p
state_of phase.TagOpen word = state.TagOpen
state_of phase.EndTagOpen word = state.EndTagOpen
state_of phase.TagName word = state.TagName word
state_of phase.EndTagName word = state.EndTagName word
state_of (phase.ValueEndTag p) word = state.ValueEndTag p word
state_of phase.AfterEndTagName word = state.AfterEndTagName
state_of phase.BeforeName word = state.BeforeName
state_of phase.Name word = state.Name word
state_of phase.AfterName word = state.AfterName word
state_of phase.BeforeValue word = state.BeforeValue
state_of phase.AfterValue word = state.AfterValue
state_of phase.SelfClosing word = state.SelfClosing
state_of (phase.InCode code) word = state.InCode code
state_of (phase.CodeLess code) word = state.CodeLess code
state_of (phase.CodeEndTag code) word = state.CodeEndTag code word
state_of (phase.CodeWord code) word = state.CodeWord code word
state_of phase.Declaration word = state.Declaration word
state_of phase.BeforeDoctype word = state.BeforeDoctype
state_of phase.Doctype word = state.Doctype word
state_of phase.AfterDoctype word = state.AfterDoctype
state_of phase.DoctypeKeyword word = state.DoctypeKeyword word
state_of phase.BeforePublic word = state.BeforePublic
state_of (phase.PublicIdentifier mark) word = state.PublicIdentifier mark
state_of phase.AfterPublic word = state.AfterPublic
state_of phase.BetweenIdentifiers word = state.BetweenIdentifiers
state_of phase.BeforeSystem word = state.BeforeSystem
state_of (phase.SystemIdentifier mark) word = state.SystemIdentifier mark
state_of phase.AfterSystem word = state.AfterSystem
state_of phase.BogusComment word = state.BogusComment
state_of phase.CommentStart word = state.CommentStart
state_of phase.CommentStartDash word = state.CommentStartDash
state_of phase.Comment word = state.Comment
state_of phase.CommentDash word = state.CommentDash
state_of phase.CommentEnd word = state.CommentEnd
state_of phase.Refused word = state.Refused

abbrev pub attribute_in : Kind → List ℕ → Attribute
attribute_in kind.Ordinary word = state.Ordinary
attribute_in kind.Forbidden word = state.Forbidden
attribute_in kind.BeforeDeclaration word = state.Declarations style.BeforeName
attribute_in kind.DeclarationName word = state.Declarations style.Name
attribute_in kind.AfterDeclarationName word = state.Declarations style.AfterName
attribute_in kind.DeclarationValue word = state.Declarations style.Value
attribute_in kind.Important word = state.Declarations style.Important
attribute_in kind.OpaqueStyle word = state.Declarations style.Opaque
attribute_in kind.BeforeListedUrl word = state.Listed list.BeforeUrl
attribute_in kind.ListedUrl word = state.Listed list.Url
attribute_in kind.FixedListedUrl word = state.Listed list.FixedUrl
attribute_in kind.ListedComma word = state.Listed list.Comma
attribute_in kind.Descriptors word = state.Listed list.Descriptors
attribute_in kind.RestOfList word = state.Listed list.Rest
attribute_in kind.Link word = state.Link
attribute_in kind.Url word = state.Url
attribute_in kind.FixedUrl word = state.FixedUrl
attribute_in kind.RawUrl word = state.RawUrl
attribute_in kind.FixedRawUrl word = state.FixedRawUrl
attribute_in kind.ScriptType word = state.ScriptType word
attribute_in kind.Encoding word = state.Encoding word
attribute_in kind.Pragma word = state.Pragma word
attribute_in kind.PageType word = state.PageType word
attribute_in kind.Relation word = state.Relation word
attribute_in kind.Unread word = state.Unread
attribute_in kind.Raw word = state.Raw

abbrev pub word_after : Word → List ℕ → List ℕ
word_after New word = []
word_after Keep word = word
word_after (Begin b) word = b ∷ []
word_after (Add b) word = word ++ b ∷ []

-- where a tokenizer that holds the word goes
abbrev pub moved : Move → List ℕ → Tokenizer
moved m word =
    at_value (state_of m.phase (word_after m.word word)) m.content (attribute_in m.kind (word_after m.word word))

-- the byte behind a word leads on by the first of the moves, and by the second where a name that needs no `;` begins the word
pub record LeadsOn (again fixed : Move) (word : List ℕ) (t : Transition) : Type 0 where
  pub other : begins_with_legacy word ≡ false → moved again word ≡ t.next
  pub legacy : begins_with_legacy word ≡ true → moved fixed word ≡ t.next

-- where the running tokenizer is
abbrev pub tokenizer_of : {A : Type 0} → Reader A → Tokenizer
tokenizer_of reader = at_value (state_of reader.phase reader.word.items) reader.content (attribute_in reader.kind reader.word.items)

-- from where so many of the bytes led to where so many of them lead, which are no fewer
pub record ReadsOn (t u : Tokenizer) (bytes : List ℕ) (before after : ℕ) : Type 0 where
  pub forth : before ≤ after
  pub within : after ≤ length bytes
  pub read : (start : Tokenizer) → t ≡ state_after start (take before bytes) → u ≡ state_after start (take after bytes)

-- the tokenizer is not within an escape of a script's string
abbrev pub IsNoScriptEscape : Phase → Type 0
IsNoScriptEscape (phase.Within place.ScriptSingle) = ⊥
IsNoScriptEscape (phase.Within place.ScriptDouble) = ⊥
IsNoScriptEscape other = ⊤

-- the tokenizer is in text, in a value in quotes, or right before or after one
abbrev pub IsTextOrValue : Phase → Type 0
IsTextOrValue (phase.In place.Text) = ⊤
IsTextOrValue (phase.In place.DoubleQuoted) = ⊤
IsTextOrValue (phase.In place.SingleQuoted) = ⊤
IsTextOrValue phase.BeforeValue = ⊤
IsTextOrValue phase.AfterValue = ⊤
IsTextOrValue other = ⊥

-- the tokenizer is where the name of a tag or an attribute may begin
abbrev pub IsBeforeName : Phase → Type 0
IsBeforeName phase.TagOpen = ⊤
IsBeforeName phase.EndTagOpen = ⊤
IsBeforeName phase.BeforeName = ⊤
IsBeforeName other = ⊥

-- the tokenizer is in such a name
abbrev pub IsInName : Phase → Type 0
IsInName phase.TagName = ⊤
IsInName phase.EndTagName = ⊤
IsInName phase.Name = ⊤
IsInName other = ⊥

-- a letter that the state holds leaves the attribute as it is: in a reference each that a reference leaves so, elsewhere an
-- ordinary one
abbrev pub HoldsLetters : Phase → Attribute → Type 0
HoldsLetters (phase.Within p) attribute = reference_read attribute ≡ attribute
HoldsLetters other attribute = attribute ≡ state.Ordinary

-- the state and the attribute are the same
abbrev pub HoldsNoWord : State → State → Attribute → Attribute → Type 0
HoldsNoWord first second kind other = (first ≡ second) × (kind ≡ other)
