-- The states in the name of an attribute, after which a value of URLs may begin.
use Rattle.std.proofs.Common.{◌≡◌, Bool, true, false, refl}
use Rattle.std.proofs.lemmas.Bool.{true≢false}
use Rattle.html_tokenizer.specs.UrlValues.{is_of_urls}
use Rattle.html_tokenizer.specs.declared.elements.OpenElement.{OpenElement}
use Rattle.html_tokenizer.specs.declared.elements.OpenElement.TheVariants.{Script}
use Rattle.html_tokenizer.specs.Tokenizer.Elements.{content_state}
use Rattle.html_tokenizer.specs.Tokenizer.States.{AfterName, Attribute, Name, State}

-- in the name of an attribute, or after it
abbrev pub is_named : State → Bool
is_named (Name name) = true
is_named (AfterName name) = true
is_named other = false

-- the value is of URLs, or one that is may begin at the next byte
abbrev pub may_open : State → Attribute → Bool
may_open (Name name) attribute = true
may_open (AfterName name) attribute = true
may_open other attribute = is_of_urls attribute

pub neither_opens : (s : State) (attribute : Attribute) → is_named s ≡ false → is_of_urls attribute ≡ false → may_open s attribute ≡ false
neither_opens (Name name) attribute unnamed is = absurd (true≢false unnamed)
neither_opens (AfterName name) attribute unnamed is = absurd (true≢false unnamed)
neither_opens other attribute unnamed is = is

pub opens_unnamed : (s : State) (attribute : Attribute) → may_open s attribute ≡ false → is_named s ≡ false
opens_unnamed (Name name) attribute none = none
opens_unnamed (AfterName name) attribute none = none
opens_unnamed other attribute none = refl

pub opens_no_url : (s : State) (attribute : Attribute) → may_open s attribute ≡ false → is_of_urls attribute ≡ false
opens_no_url (Name name) attribute none = absurd (true≢false none)
opens_no_url (AfterName name) attribute none = absurd (true≢false none)
opens_no_url other attribute none = none

-- the content of no element begins in a name
pub content_unnamed : (element : OpenElement) → is_named (content_state element) ≡ false
content_unnamed Script = refl
content_unnamed other = refl
