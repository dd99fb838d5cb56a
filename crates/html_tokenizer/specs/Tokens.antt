-- The tokens of a page: the actions, put together as the standard does.
-- HTML Standard, 13.2.5: the output is DOCTYPE, start tag, end tag, comment and character tokens, here
-- with the code of scripts and styles byte by byte, and their strings.
use Rattle.std.specs.Prelude.{ℕ, Bool, true, false, List, [], ◌∷◌, ◌++◌, Option, Some, None, map}
use Rattle.std.specs.List.{filter}
use Rattle.html_tokenizer.specs.Tokenizer.Actions.{Action, NewDoctype, SetPublicEmpty, PublicByte, SetSystemEmpty, SystemByte, EmitDoctype, NewComment, CommentByte, EmitComment, EmitByte, NewStartTag, NewEndTag, TagNameByte, NewAttribute, NameByte, ValueByte, SetSelfClosing, EmitTag, CodeByte, StringStart, StringByte, StringEnd}

-- a DOCTYPE, whose name is `html`: its public and its system identifier, each missing or its bytes
pub record Doctype : Type 0 where
  pub public_identifier : Option (List ℕ)
  pub system_identifier : Option (List ℕ)

pub record Attribute : Type 0 where
  pub name : List ℕ
  pub value : List ℕ

-- a tag: its name, its attributes from the last to the first, and whether it closes itself
pub record Tag : Type 0 where
  pub is_end : Bool
  pub name : List ℕ
  pub attributes : List Attribute
  pub self_closing : Bool

pub data Token : Type 0 where
  DoctypeToken : Doctype → Token
  Comment : List ℕ → Token
  TagToken : Tag → Token
  Character : ℕ → Token
  Code : ℕ → Token
  String : List ℕ → Token

-- the tokens that were emitted, and what was read of the next
pub record Building : Type 0 where
  pub emitted : List Token
  pub doctype : Doctype
  pub tag : Tag
  pub comment : List ℕ
  pub string : List ℕ

-- a DOCTYPE whose identifiers are missing
abbrev pub no_doctype : Doctype
no_doctype = record { public_identifier = None; system_identifier = None }

abbrev pub no_tag : Bool → Tag
no_tag is_end = record { is_end = is_end; name = []; attributes = []; self_closing = false }

abbrev pub nothing : Building
nothing = record { emitted = []; doctype = no_doctype; tag = no_tag false; comment = []; string = [] }

-- one byte more of an identifier
abbrev pub longer_identifier : ℕ → Option (List ℕ) → Option (List ℕ)
longer_identifier b None = None
longer_identifier b (Some bytes) = Some (bytes ++ b ∷ [])

abbrev pub with_public : Option (List ℕ) → Building → Building
with_public identifier s = record s { doctype = record s.doctype { public_identifier = identifier } }

abbrev pub with_system : Option (List ℕ) → Building → Building
with_system identifier s = record s { doctype = record s.doctype { system_identifier = identifier } }

-- one byte more of the name, and of the value, of the attribute that was begun last
abbrev pub longer_name : ℕ → List Attribute → List Attribute
longer_name b [] = []
longer_name b (a ∷ attributes) = record { name = a.name ++ b ∷ []; value = a.value } ∷ attributes

abbrev pub longer_value : ℕ → List Attribute → List Attribute
longer_value b [] = []
longer_value b (a ∷ attributes) = record { name = a.name; value = a.value ++ b ∷ [] } ∷ attributes

abbrev pub emits : Token → Building → Building
emits token s = record s { emitted = s.emitted ++ token ∷ [] }

abbrev pub with_attributes : List Attribute → Building → Building
with_attributes attributes s = record s { tag = record s.tag { attributes = attributes } }

abbrev pub built : Building → Action → Building
built s NewDoctype = record s { doctype = no_doctype }
built s SetPublicEmpty = with_public (Some []) s
built s (PublicByte b) = with_public (longer_identifier b s.doctype.public_identifier) s
built s SetSystemEmpty = with_system (Some []) s
built s (SystemByte b) = with_system (longer_identifier b s.doctype.system_identifier) s
built s EmitDoctype = emits (DoctypeToken s.doctype) s
built s NewComment = record s { comment = [] }
built s (CommentByte b) = record s { comment = s.comment ++ b ∷ [] }
built s EmitComment = emits (Comment s.comment) s
built s (EmitByte b) = emits (Character b) s
built s NewStartTag = record s { tag = no_tag false }
built s NewEndTag = record s { tag = no_tag true }
built s (TagNameByte b) = record s { tag = record s.tag { name = s.tag.name ++ b ∷ [] } }
built s NewAttribute = with_attributes (record { name = []; value = [] } ∷ s.tag.attributes) s
built s (NameByte b) = with_attributes (longer_name b s.tag.attributes) s
built s (ValueByte b) = with_attributes (longer_value b s.tag.attributes) s
built s SetSelfClosing = record s { tag = record s.tag { self_closing = true } }
built s EmitTag = emits (TagToken s.tag) s
built s (CodeByte b) = emits (Code b) s
built s StringStart = record s { string = [] }
built s (StringByte b) = record s { string = s.string ++ b ∷ [] }
built s StringEnd = emits (String s.string) s

abbrev pub build : Building → List Action → Building
build s [] = s
build s (action ∷ actions) = build (built s action) actions

abbrev pub tokens : List Action → List Token
tokens actions = (build nothing actions).emitted

-- a token without its values
abbrev pub bare_attribute : Attribute → Attribute
bare_attribute a = record { name = a.name; value = [] }

abbrev pub bare_tag : Tag → Tag
bare_tag tag = record tag { attributes = map bare_attribute tag.attributes }

abbrev pub bare : Token → Token
bare (TagToken tag) = TagToken (bare_tag tag)
bare (String bytes) = String []
bare other = other

abbrev pub is_markup : Token → Bool
is_markup (Character b) = false
is_markup other = true

-- the tokens but for characters, each without its values
abbrev pub skeleton : List Token → List Token
skeleton all = map bare (filter is_markup all)
