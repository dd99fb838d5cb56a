-- The end tags that end a text, a string or code.
-- HTML Standard, 13.2.5: an appropriate end tag token.
use Rattle.std.specs.Prelude.{ℕ, Bool, true, false, ◌&&◌, List, [], ◌∷◌, ◌++◌, if◌then◌else◌, bytes_eq, codes, map}
use Rattle.std.specs.Char.{is_ascii_alphabetic, to_ascii_lowercase}
use Rattle.hesc_specs.specs.Text.Ascii.{slash, less_than}
use Rattle.html_tokenizer.specs.declared.elements.Content.{Content}
use Rattle.html_tokenizer.specs.declared.elements.OpenElement.{OpenElement}
use Rattle.html_tokenizer.specs.declared.elements.OpenElement.TheVariants.{Normal, Title, Textarea, Script, Style, Frame}
use Rattle.html_tokenizer.specs.Tokenizer.Actions.{Action, NewEndTag, TagNameByte}
use Rattle.html_tokenizer.specs.Tokenizer.Elements.{with_element}
use Rattle.html_tokenizer.specs.Tokenizer.States.{Tokenizer}
use Rattle.html_tokenizer.specs.Tokenizer.Transitions.{Transition, moves, reconsumes}
use Rattle.html_tokenizer.specs.Tokenizer.Tags.{ends_name, end_tag_byte}

-- contents of text, in which a `<` that begins no appropriate end tag is text
abbrev pub is_rcdata : OpenElement → Bool
is_rcdata Title = true
is_rcdata Textarea = true
is_rcdata other = false

-- the appropriate end tag (13.2.5) of such text, and of code
abbrev pub is_appropriate : OpenElement → List ℕ → Bool
is_appropriate Title name = bytes_eq name (codes "title")
is_appropriate Textarea name = bytes_eq name (codes "textarea")
is_appropriate Script name = bytes_eq name (codes "script")
is_appropriate Style name = bytes_eq name (codes "style")
is_appropriate Frame name = bytes_eq name (codes "iframe")
is_appropriate other name = false

-- after `</` and letters: the appropriate end tag, or one letter more, or these are given back before the byte
abbrev pub held_end_tag_byte : Content → List ℕ → List Action → Tokenizer → (ℕ → Action) → Transition → ℕ → Transition
held_end_tag_byte content word ended longer given again b =
    if ends_name b && is_appropriate content.element (map to_ascii_lowercase word)
    then reconsumes (ended ++ NewEndTag ∷ map (λ d. TagNameByte (to_ascii_lowercase d)) word) (end_tag_byte (with_element content Normal) b)
    else (if is_ascii_alphabetic b then moves longer []
    else reconsumes (map given (less_than ∷ slash ∷ word)) again)
