-- The states of the tokenizer.
-- HTML Standard, 13.2.5 Tokenization, by its states; a state for the code of scripts and styles and
-- for their strings; and what the value of an attribute means. A state holds what was read and is
-- not decided yet, so that no byte is looked at before its turn.
use Rattle.std.specs.Prelude.{ℕ, List}
use Rattle.html_tokenizer.specs.declared.slot_place.SlotPlace.{SlotPlace}
use Rattle.html_tokenizer.specs.declared.slot_place.SlotPlace.TheVariants as place
use Rattle.html_tokenizer.specs.declared.elements.Content.{Content}
use Rattle.html_tokenizer.specs.declared.states.Code.{Code}
use Rattle.html_tokenizer.specs.declared.states.ListPart.{ListPart}
use Rattle.html_tokenizer.specs.declared.states.StylePart.{StylePart}
use Rattle.html_tokenizer.specs.declared.elements.OpenElement.TheVariants.{Normal}

pub data State : Type 0 where
  -- 13.2.5.1 Data state, 13.2.5.2 RCDATA state, 13.2.5.36 to 13.2.5.38 Attribute value states; a string's value
  In : SlotPlace → State
  -- 13.2.5.72 Character reference state, which returns there; an escape of a string; and its bytes so far
  Within : SlotPlace → List ℕ → State
  -- a `<` in a string, 13.2.5.12 RAWTEXT less-than sign state, 13.2.5.15 Script data less-than sign state
  StringLess : SlotPlace → State
  -- 13.2.5.6 Tag open state, 13.2.5.9 RCDATA less-than sign state
  TagOpen : State
  -- 13.2.5.7 End tag open state, 13.2.5.10 RCDATA end tag open state
  EndTagOpen : State
  -- 13.2.5.8 Tag name state of a start tag, and the name so far in lower case
  TagName : List ℕ → State
  -- the same of an end tag, also in other contents of text alone
  EndTagName : List ℕ → State
  -- 13.2.5.11 RCDATA end tag name state in a `title` or `textarea`, and the letters so far; in a string 13.2.5.13,
  -- 13.2.5.14, 13.2.5.16 and 13.2.5.17
  ValueEndTag : SlotPlace → List ℕ → State
  -- 13.2.5.32 Before attribute name state of an end tag, which has no attributes here
  AfterEndTagName : State
  -- 13.2.5.32 Before attribute name state, 13.2.5.33 Attribute name state, 13.2.5.34 After attribute name state, and the name so far
  BeforeName : State
  Name : List ℕ → State
  AfterName : List ℕ → State
  -- 13.2.5.35 Before attribute value state
  BeforeValue : State
  -- 13.2.5.39 After attribute value (quoted) state, 13.2.5.40 Self-closing start tag state
  AfterValue : State
  SelfClosing : State
  -- 13.2.5.3 RAWTEXT state, 13.2.5.4 Script data state
  InCode : Code → State
  -- 13.2.5.12 RAWTEXT less-than sign state, 13.2.5.15 Script data less-than sign state, 13.2.5.23 Script data escaped
  -- less-than sign state, 13.2.5.30 Script data double escaped less-than sign state
  CodeLess : Code → State
  -- 13.2.5.13, 13.2.5.14, 13.2.5.16, 13.2.5.17, 13.2.5.24 and 13.2.5.25: after `</` in code, and the letters so far
  CodeEndTag : Code → List ℕ → State
  -- 13.2.5.26 Script data double escape start state, 13.2.5.31 Script data double escape end state, and the letters so far
  CodeWord : Code → List ℕ → State
  -- 13.2.5.42 Markup declaration open state, and what was read in it; after `doctype` 13.2.5.53 DOCTYPE state
  Declaration : List ℕ → State
  -- 13.2.5.54 Before DOCTYPE name state, 13.2.5.55 DOCTYPE name state, 13.2.5.56 After DOCTYPE name state
  BeforeDoctype : State
  Doctype : List ℕ → State
  AfterDoctype : State
  -- in 13.2.5.56 the letters so far of `public` or `system`; after the whole word 13.2.5.57 After DOCTYPE public keyword state, 13.2.5.63 After DOCTYPE system keyword state
  DoctypeKeyword : List ℕ → State
  -- 13.2.5.58 Before DOCTYPE public identifier state, 13.2.5.59 and 13.2.5.60 DOCTYPE public identifier states, with the quote mark that ends it, 13.2.5.61 After DOCTYPE public identifier state
  BeforePublic : State
  PublicIdentifier : ℕ → State
  AfterPublic : State
  -- 13.2.5.62 Between DOCTYPE public and system identifiers state
  BetweenIdentifiers : State
  -- 13.2.5.64 Before DOCTYPE system identifier state, 13.2.5.65 and 13.2.5.66 DOCTYPE system identifier states, 13.2.5.67 After DOCTYPE system identifier state
  BeforeSystem : State
  SystemIdentifier : ℕ → State
  AfterSystem : State
  -- 13.2.5.41 Bogus comment state
  BogusComment : State
  -- 13.2.5.43 Comment start state, 13.2.5.44 Comment start dash state, 13.2.5.45 Comment state, 13.2.5.50 Comment end dash state, 13.2.5.51 Comment end state
  CommentStart : State
  CommentStartDash : State
  Comment : State
  CommentDash : State
  CommentEnd : State
  -- this profile has no reading
  Refused : State

-- what a text in the value of the attribute would mean
pub data Attribute : Type 0 where
  -- itself
  Ordinary : Attribute
  -- code, a page, or a list of URLs that is not followed
  Forbidden : Attribute
  -- the declarations of a `style`, and where in one the value is
  Declarations : StylePart → Attribute
  -- the list of a `srcset`, and where in it the value is
  Listed : ListPart → Attribute
  -- a URL, of an element that only shows or follows it, and of another one; one that takes no slot any more
  Link : Attribute
  Url : Attribute
  FixedUrl : Attribute
  -- a URL in a `noscript`, whose bytes are raw text where scripts run; one that takes no slot any more
  RawUrl : Attribute
  FixedRawUrl : Attribute
  -- the type of a script, and its bytes so far
  ScriptType : List ℕ → Attribute
  -- of a `meta`: its `charset`, its `http-equiv`, its `content` where that is the type of the page, and their bytes so far; as the second also
  -- the `attributeName` of an animation
  Encoding : List ℕ → Attribute
  Pragma : List ℕ → Attribute
  PageType : List ℕ → Attribute
  -- the `rel` of a `link`, and its bytes so far
  Relation : List ℕ → Attribute
  -- one of these three, with a reference in it, or the next, with a `<` in it
  Unread : Attribute
  -- another value in a `noscript`
  Raw : Attribute

pub record Tokenizer : Type 0 where
  pub state : State
  pub content : Content
  pub attribute : Attribute

abbrev pub at : State → Content → Tokenizer
at state content = record { state = state; content = content; attribute = Ordinary }

abbrev pub at_value : State → Content → Attribute → Tokenizer
at_value state content attribute = record { state = state; content = content; attribute = attribute }

-- text and elements, outside of templates
abbrev pub normal : Content
normal = record { element = Normal; templates = 0 }

abbrev pub refused : Tokenizer
refused = at Refused normal

-- where a page begins and ends
abbrev pub data_state : Tokenizer
data_state = at (In place.Text) normal
