-- Where a slot stands in what was read, and where a page may end.
use Rattle.std.specs.Prelude.{◌≡◌, Bool, true, false, ◌&&◌, ◌==◌, if◌then◌else◌}
use Rattle.html_tokenizer.specs.declared.reader.Standing.{Standing}
use Rattle.html_tokenizer.specs.declared.reader.Standing.TheVariants.{Stands, InUrl, InLink, InListedUrl, InDeclaration, InScript, InJson, Nowhere, Barred}
use Rattle.html_tokenizer.specs.declared.slot_place.SlotPlace.{SlotPlace}
use Rattle.html_tokenizer.specs.declared.slot_place.SlotPlace.TheVariants.{Text, DoubleQuoted, SingleQuoted, Unquoted, ScriptSingle, ScriptDouble, StyleSingle, StyleDouble}
use Rattle.html_tokenizer.specs.declared.states.Code.{Code}
use Rattle.html_tokenizer.specs.declared.states.Code.TheVariants.{Plain, Json, JsonRest}
use Rattle.html_tokenizer.specs.declared.states.ListPart.{ListPart}
use Rattle.html_tokenizer.specs.declared.states.ListPart.TheVariants as list
use Rattle.html_tokenizer.specs.declared.states.StylePart.{StylePart}
use Rattle.html_tokenizer.specs.declared.states.StylePart.TheVariants.{Value}
use Rattle.html_tokenizer.specs.declared.elements.Content.{Content}
use Rattle.html_tokenizer.specs.declared.elements.OpenElement.{OpenElement}
use Rattle.html_tokenizer.specs.declared.elements.OpenElement.TheVariants as element
use Rattle.html_tokenizer.specs.Tokenizer.Code.{is_script}
use Rattle.html_tokenizer.specs.Tokenizer.Code.Escapes.{is_opaque}
use Rattle.html_tokenizer.specs.Tokenizer.States as state
use Rattle.html_tokenizer.specs.Tokenizer.States.{State, Attribute, Tokenizer, at_value, refused}
use Rattle.html_tokenizer.specs.Tokenizer.Elements.{is_normal}

-- a slot in a `style`: in the value of a declaration, where quote marks end the attribute's
abbrev pub in_declaration : StylePart → SlotPlace → Standing
in_declaration Value DoubleQuoted = InDeclaration DoubleQuoted
in_declaration Value SingleQuoted = InDeclaration SingleQuoted
in_declaration part p = Barred

-- a slot in a list: in one of its URLs, where quote marks end the attribute's value
abbrev pub in_list : ListPart → SlotPlace → Standing
in_list list.Url DoubleQuoted = InListedUrl DoubleQuoted
in_list list.Url SingleQuoted = InListedUrl SingleQuoted
in_list part p = Barred

-- a slot in the value of an attribute, if its text would mean itself, or stand in a URL or in a declaration
abbrev pub unless_forbidden : Attribute → SlotPlace → Standing
unless_forbidden state.Ordinary p = Stands p
unless_forbidden state.Url p = InUrl p
unless_forbidden state.RawUrl p = InUrl p
unless_forbidden state.Link p = InLink p
unless_forbidden (state.Declarations part) p = in_declaration part p
unless_forbidden (state.Listed part) p = in_list part p
unless_forbidden other p = Barred

-- a slot with which a value without quotes begins: no URL
abbrev pub before_value : Attribute → Standing
before_value state.Ordinary = Stands Unquoted
before_value other = Barred

abbrev pub is_ordinary : Attribute → Bool
is_ordinary state.Ordinary = true
is_ordinary other = false

-- in the code of a script, between words, strings and comments, a string literal is a token of its own
abbrev pub takes_literal : Code → Content → Attribute → Bool
takes_literal Plain content attribute = is_ordinary attribute && is_script content.element
takes_literal other content attribute = false

-- in a data block of JSON, behind white space alone
abbrev pub takes_json : Code → Content → Attribute → Bool
takes_json Json content attribute = is_ordinary attribute && is_script content.element
takes_json other content attribute = false

-- a slot in other code is nowhere, and where the rest takes none, in a second language
abbrev pub in_code : Code → Content → Attribute → Standing
in_code kind content attribute =
    if is_opaque kind then Barred
    else (if takes_literal kind content attribute then InScript
    else (if takes_json kind content attribute then InJson
    else Nowhere))

-- a `noscript` takes none but in a URL, in whose texts no `<` is written: where scripts run no reference is read in it
abbrev pub in_content : OpenElement → Standing → Standing
in_content element.NoScript (InUrl p) = InUrl p
in_content element.NoScript standing = Barred
in_content other standing = standing

-- where a slot stands: within a value, or where a value without quotes may begin
abbrev pub standing_in : State → Content → Attribute → Standing
standing_in (state.In p) content attribute = in_content content.element (unless_forbidden attribute p)
standing_in state.BeforeValue content attribute = before_value attribute
standing_in (state.InCode kind) content attribute = in_code kind content attribute
standing_in other content attribute = Nowhere

abbrev pub standing : Tokenizer → Standing
standing t = standing_in t.state t.content t.attribute

abbrev pub is_same : SlotPlace → SlotPlace → Bool
is_same Text Text = true
is_same DoubleQuoted DoubleQuoted = true
is_same SingleQuoted SingleQuoted = true
is_same Unquoted Unquoted = true
is_same ScriptSingle ScriptSingle = true
is_same ScriptDouble ScriptDouble = true
is_same StyleSingle StyleSingle = true
is_same StyleDouble StyleDouble = true
is_same other another = false

abbrev pub stands : SlotPlace → Standing → Bool
stands p (Stands q) = is_same p q
stands p (InUrl q) = is_same p q
stands p (InLink q) = is_same p q
stands p (InListedUrl q) = is_same p q
stands p (InDeclaration q) = is_same p q
stands p other = false

-- the tokenizer after a slot at this place, by the template alone
abbrev pub state_after_slot : SlotPlace → Tokenizer → Tokenizer
state_after_slot p t = if stands p (standing t) then at_value (state.In p) t.content t.attribute else refused

-- and behind JSON, where no slot follows
abbrev pub past_json : Tokenizer → Tokenizer
past_json t = at_value (state.InCode JsonRest) t.content t.attribute

-- where the tokenizer goes at a slot: into a value that may begin there, in a data block behind its JSON, and else it stays
abbrev pub AfterStanding : Standing → Tokenizer → Tokenizer → Type 0
AfterStanding (Stands p) old new = new ≡ state_after_slot p old
AfterStanding (InUrl p) old new = new ≡ state_after_slot p old
AfterStanding (InLink p) old new = new ≡ state_after_slot p old
AfterStanding (InListedUrl p) old new = new ≡ state_after_slot p old
AfterStanding (InDeclaration p) old new = new ≡ state_after_slot p old
AfterStanding InJson old new = new ≡ past_json old
AfterStanding other old new = new ≡ old

-- in a start tag, where behind a blank an attribute may begin: 13.2.5.32 Before attribute name state, 13.2.5.34 After attribute name
-- state, 13.2.5.39 After attribute value (quoted) state
abbrev pub is_between_attributes : State → Bool
is_between_attributes state.BeforeName = true
is_between_attributes (state.AfterName name) = true
is_between_attributes state.AfterValue = true
is_between_attributes other = false

abbrev pub is_refused : State → Bool
is_refused state.Refused = true
is_refused other = false

-- text and elements, outside of templates
abbrev pub is_outside : Content → Bool
is_outside content = is_normal content.element && content.templates == 0

-- a page may end here
abbrev pub may_end_in : State → Content → Attribute → Bool
may_end_in (state.In Text) content attribute = is_outside content && is_ordinary attribute
may_end_in other content attribute = false

abbrev pub may_end : Tokenizer → Bool
may_end t = may_end_in t.state t.content t.attribute
