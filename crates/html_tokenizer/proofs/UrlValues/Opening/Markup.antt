-- No URL opens in a tag, but in the name of an attribute, nor in code.
use Rattle.std.proofs.Common.{ℕ, ◌≡◌, false, List, map, ◌&&◌, inl, inr, Option, Some, None, refl, arith, [], ◌∷◌, ◌++◌}
use Rattle.std.proofs.lemmas.Bool.{cases_Bool}
use Rattle.std.specs.Char.{is_ascii_alphabetic, to_ascii_lowercase}
use Rattle.html_tokenizer.specs.UrlValues.{is_of_urls}
use Rattle.html_tokenizer.specs.declared.elements.Content.{Content}
use Rattle.html_tokenizer.specs.declared.elements.OpenElement.{OpenElement}
use Rattle.html_tokenizer.specs.declared.elements.OpenElement.TheVariants.{Normal, Script, Style, SvgStyle}
use Rattle.html_tokenizer.specs.Tokenizer.Actions.{Action, CodeByte}
use Rattle.html_tokenizer.specs.Tokenizer.Elements.{closed, content_of, content_state, with_element}
use Rattle.html_tokenizer.specs.Tokenizer.States.{BeforeName, Ordinary, State, Tokenizer, CodeEndTag, at}
use Rattle.html_tokenizer.specs.Tokenizer.Transitions.{Transition, refuses}
use Rattle.html_tokenizer.specs.Tokenizer.Tags.{after_element_name, closed_itself, end_tag_byte, end_tag_name_byte, ends_name, first_name_byte, in_tag, name_byte, opened, tag_name_byte, tag_open_byte}
use Rattle.html_tokenizer.specs.Tokenizer.Tags.EndTags.{is_appropriate, held_end_tag_byte}
use Rattle.html_tokenizer.proofs.UrlValues.Names.{content_unnamed, is_named, may_open, neither_opens}
use Rattle.html_tokenizer.specs.declared.states.Code.{Code}
use Rattle.html_tokenizer.specs.declared.states.Code.TheVariants as code
use Rattle.html_tokenizer.specs.Tokenizer.Code.{byte_of_code, code_end_tag_byte, code_less_byte, code_word_byte, in_code_byte, text_less_byte}
use Rattle.html_tokenizer.specs.Tokenizer.Code.Scripts.{letters_byte, script_code_byte}
use Rattle.html_tokenizer.specs.Tokenizer.Code.Words.{longer}
use Rattle.html_tokenizer.specs.Tokenizer.Code.Styles.{style_code_byte}

-- no URL is open after the transition, nor a name, after which one may open
abbrev pub OpensNone : Transition → Type 0
OpensNone x = may_open x.next.state x.next.attribute ≡ false

-- no URL is open after it
abbrev pub HoldsNone : Transition → Type 0
HoldsNone x = is_of_urls x.next.attribute ≡ false

pub end_tag_opens_none : (content : Content) (b : ℕ) → OpensNone (end_tag_byte content b)
end_tag_opens_none content b = grind arith

pub held_opens_none : (content : Content) (word : List ℕ) (before : List Action) (longer : Tokenizer) (given : ℕ → Action) (again : Transition) (b : ℕ) →
    may_open longer.state longer.attribute ≡ false → OpensNone again →
    OpensNone (held_end_tag_byte content word before longer given again b)
held_opens_none content word before longer given again b at_longer at_again =
    elim (cases_Bool (ends_name b && is_appropriate content.element (map to_ascii_lowercase word))) [
      | inl ends ↦ rw ends (end_tag_opens_none (with_element content Normal) b)
      | inr other ↦
          elim (cases_Bool (is_ascii_alphabetic b)) [
            | inl letter ↦ rw (other, letter) at_longer
            | inr none ↦ rw (other, none) at_again
          ]
    ]

pub opened_opens_none : (content : Content) → OpensNone (opened content)
opened_opens_none content = neither_opens (content_state content.element) Ordinary (content_unnamed content.element) refl

pub in_tag_opens_none : (blank : State) (content : Content) (b : ℕ) (other : Transition) → is_named blank ≡ false → OpensNone other →
    OpensNone (in_tag blank content b other)
in_tag_opens_none blank content b other unnamed none =
    grind (arith, neither_opens blank Ordinary unnamed refl, opened_opens_none content)

pub in_tag_holds_none : (blank : State) (content : Content) (b : ℕ) (other : Transition) → HoldsNone other →
    HoldsNone (in_tag blank content b other)
in_tag_holds_none blank content b other none = grind arith

pub first_name_holds_none : (content : Content) (b : ℕ) → HoldsNone (first_name_byte content b)
first_name_holds_none content b = grind arith

pub name_holds_none : (content : Content) (name : List ℕ) (b : ℕ) → HoldsNone (name_byte content name b)
name_holds_none content name b = grind arith

pub tag_open_opens_none : (content : Content) (b : ℕ) → OpensNone (tag_open_byte content b)
tag_open_opens_none content b = grind arith

named_opens_none : (content : Option Content) (b : ℕ) → OpensNone (after_element_name content b)
named_opens_none None b = refl
named_opens_none (Some content) b = in_tag_opens_none BeforeName content b refuses refl refl

pub tag_name_opens_none : (content : Content) (name : List ℕ) (b : ℕ) → OpensNone (tag_name_byte content name b)
tag_name_opens_none content name b =
    elim (cases_Bool (ends_name b)) [
      | inl ends ↦ rw ends (named_opens_none (content_of content name) b)
      | inr other ↦ rw other (grind arith)
    ]

pub end_name_opens_none : (content : Content) (name : List ℕ) (b : ℕ) → OpensNone (end_tag_name_byte content name b)
end_name_opens_none content name b = grind (arith, end_tag_opens_none (closed content name) b)

pub closed_opens_none : (element : Option OpenElement) (content : Content) → OpensNone (closed_itself element content)
closed_opens_none None content = refl
closed_opens_none (Some element) content = opened_opens_none content

-- ---- code

letters_open_none : (after : Option Code) (content : Content) (b : ℕ) → OpensNone (letters_byte after content b)
letters_open_none None content b = grind arith
letters_open_none (Some kind) content b = refl

script_opens_none : (kind : Code) (content : Content) (b : ℕ) → OpensNone (script_code_byte kind content b)
script_opens_none code.Plain content b = grind arith
script_opens_none other content b = grind (arith, letters_open_none (longer other b) content b)

style_opens_none : (kind : Code) (content : Content) (b : ℕ) → OpensNone (style_code_byte kind content b)
style_opens_none code.Plain content b = grind arith
style_opens_none other content b = grind arith

code_opens_none : (element : OpenElement) (kind : Code) (content : Content) (b : ℕ) → OpensNone (byte_of_code element kind content b)
code_opens_none Script kind content b = script_opens_none kind content b
code_opens_none Style kind content b = style_opens_none kind content b
code_opens_none SvgStyle kind content b = grind arith
code_opens_none other kind content b = refl

pub in_code_opens_none : (kind : Code) (content : Content) (b : ℕ) → OpensNone (in_code_byte kind content b)
in_code_opens_none kind content b = grind (arith, code_opens_none content.element kind content b)

less_opens_none : (kind : Code) (content : Content) (b : ℕ) → OpensNone (text_less_byte kind content b)
less_opens_none kind content b = grind (arith, in_code_opens_none kind content b)

pub code_less_opens_none : (kind : Code) (content : Content) (b : ℕ) → OpensNone (code_less_byte kind content b)
code_less_opens_none code.Escaped content b = grind (arith, in_code_opens_none code.Escaped content b)
code_less_opens_none code.DoubleEscaped content b = grind (arith, in_code_opens_none code.DoubleEscaped content b)
code_less_opens_none other content b = less_opens_none other content b

pub code_word_opens_none : (kind : Code) (content : Content) (word : List ℕ) (b : ℕ) → OpensNone (code_word_byte kind content word b)
code_word_opens_none kind content word b = grind (arith, in_code_opens_none kind content b)

pub code_end_opens_none : (kind : Code) (content : Content) (word : List ℕ) (b : ℕ) → OpensNone (code_end_tag_byte kind content word b)
code_end_opens_none kind content word b =
    held_opens_none content word [] (at (CodeEndTag kind (word ++ b ∷ [])) content) CodeByte (in_code_byte kind content b) b refl (in_code_opens_none kind content b)
