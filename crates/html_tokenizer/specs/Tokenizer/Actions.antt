-- What the tokenizer does at a byte: the standard's own actions, and those at the code of scripts and styles.
use Rattle.std.specs.Prelude.{ℕ, List, [], ◌∷◌}
use Rattle.html_tokenizer.specs.declared.slot_place.SlotPlace.{SlotPlace}
use Rattle.html_tokenizer.specs.declared.slot_place.SlotPlace.TheVariants.{Text, DoubleQuoted, SingleQuoted, Unquoted, ScriptSingle, ScriptDouble, StyleSingle, StyleDouble}

pub data Action : Type 0 where
  -- create a DOCTYPE token with the name `html`, set its public identifier to empty, append a byte to
  -- it, the same of its system identifier, emit it
  NewDoctype : Action
  SetPublicEmpty : Action
  PublicByte : ℕ → Action
  SetSystemEmpty : Action
  SystemByte : ℕ → Action
  EmitDoctype : Action
  -- create a comment token, append a byte to it, emit it
  NewComment : Action
  CommentByte : ℕ → Action
  EmitComment : Action
  -- emit a byte of a character token
  EmitByte : ℕ → Action
  -- create a start tag or an end tag token, append a byte to its name
  NewStartTag : Action
  NewEndTag : Action
  TagNameByte : ℕ → Action
  -- start a new attribute, append a byte to its name, and to its value
  NewAttribute : Action
  NameByte : ℕ → Action
  ValueByte : ℕ → Action
  -- set the self-closing flag; emit the tag
  SetSelfClosing : Action
  EmitTag : Action
  -- a byte of a script's or a style's code; a string begins, a byte of its value, it ends
  CodeByte : ℕ → Action
  StringStart : Action
  StringByte : ℕ → Action
  StringEnd : Action

-- what is done at a byte of a value
abbrev pub read_byte : SlotPlace → ℕ → Action
read_byte Text = EmitByte
read_byte DoubleQuoted = ValueByte
read_byte SingleQuoted = ValueByte
read_byte Unquoted = ValueByte
read_byte ScriptSingle = StringByte
read_byte ScriptDouble = StringByte
read_byte StyleSingle = StringByte
read_byte StyleDouble = StringByte

-- what is done where the end tag of its element ends a text or a string
abbrev pub value_end : SlotPlace → List Action
value_end ScriptSingle = StringEnd ∷ []
value_end ScriptDouble = StringEnd ∷ []
value_end StyleSingle = StringEnd ∷ []
value_end StyleDouble = StringEnd ∷ []
value_end other = []
