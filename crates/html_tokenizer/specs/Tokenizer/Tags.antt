-- What a byte does in a tag.
-- HTML Standard, 13.2.5.6 to 13.2.5.8, 13.2.5.32 to 13.2.5.35, 13.2.5.39 and 13.2.5.40, where the bytes
-- that the standard calls errors have no reading, but for `<?`, which begins a comment. A carriage return is white space: the standard
-- makes it a line feed before it tokenizes (13.2.3.5).
pub mod EndTags
use Rattle.std.specs.Prelude.{ℕ, Bool, ◌&&◌, ◌||◌, List, [], ◌∷◌, ◌++◌, ◌==◌, Option, Some, None, if◌then◌else◌}
use Rattle.std.specs.Char.{is_ascii_alphabetic, to_ascii_lowercase}
use Rattle.hesc_specs.specs.Text.Ascii.{carriage_return, double_quote, single_quote, slash, less_than, equals_sign, greater_than}
use Rattle.hesc_grammars.specs.Words.{is_white_space}
use Rattle.html_tokenizer.specs.declared.slot_place.SlotPlace.TheVariants as place
use Rattle.html_tokenizer.specs.declared.elements.Content.{Content}
use Rattle.html_tokenizer.specs.declared.elements.OpenElement.{OpenElement}
use Rattle.html_tokenizer.specs.Tokenizer.Actions.{NewComment, CommentByte, NewStartTag, NewEndTag, TagNameByte, NewAttribute, NameByte, SetSelfClosing, EmitTag}
use Rattle.html_tokenizer.specs.Tokenizer.Attributes.{value_of, without_value}
use Rattle.html_tokenizer.specs.Tokenizer.Elements.{beside, closed, content_of, content_state, ends_content, holds_comments, holds_markup, inside, with_element}
use Rattle.html_tokenizer.specs.Tokenizer.States as state
use Rattle.html_tokenizer.specs.Tokenizer.States.{State}
use Rattle.html_tokenizer.specs.Tokenizer.Transitions.{Transition, goes, moves, refuses}

-- white space, where a carriage return is a line feed
abbrev pub is_space : ℕ → Bool
is_space b = is_white_space b || b == carriage_return

abbrev pub exclamation_mark : ℕ
exclamation_mark = 33

abbrev pub question_mark : ℕ
question_mark = 63

-- at the `>` of a start tag
abbrev pub opened : Content → Transition
opened content = goes (content_state content.element) (inside content) (EmitTag ∷ [])

-- at white space, `/` or `>` of a start tag, and else at another byte
abbrev pub in_tag : State → Content → ℕ → Transition → Transition
in_tag blank content b other =
    if is_space b then goes blank content []
    else (if b == slash then goes state.SelfClosing content []
    else (if b == greater_than then opened content
    else other))

-- 13.2.5.6 Tag open state, but for `/`: in a content of text alone no other tag begins, and a `<` in it is refused
abbrev pub tag_open_byte : Content → ℕ → Transition
tag_open_byte content b =
    if holds_markup content.element && is_ascii_alphabetic b
    then goes (state.TagName (to_ascii_lowercase b ∷ [])) content (NewStartTag ∷ TagNameByte (to_ascii_lowercase b) ∷ [])
    else (if holds_comments content.element && b == exclamation_mark then goes (state.Declaration []) content []
    else (if holds_comments content.element && b == question_mark then goes state.BogusComment content (NewComment ∷ CommentByte b ∷ [])
    else refuses))

-- 13.2.5.7 End tag open state
abbrev pub end_tag_open_byte : Content → ℕ → Transition
end_tag_open_byte content b =
    if is_ascii_alphabetic b
    then goes (state.EndTagName (to_ascii_lowercase b ∷ [])) content (NewEndTag ∷ TagNameByte (to_ascii_lowercase b) ∷ [])
    else refuses

-- white space, `/` or `>`
abbrev pub ends_name : ℕ → Bool
ends_name b = is_space b || b == slash || b == greater_than

-- after the name of an element, if the profile has it
abbrev pub after_element_name : Option Content → ℕ → Transition
after_element_name None b = refuses
after_element_name (Some content) b = in_tag state.BeforeName content b refuses

-- 13.2.5.8 Tag name state of a start tag
abbrev pub tag_name_byte : Content → List ℕ → ℕ → Transition
tag_name_byte content name b =
    if ends_name b then after_element_name (content_of content name) b
    else (if b == 0 then refuses
    else goes (state.TagName (name ++ to_ascii_lowercase b ∷ [])) content (TagNameByte (to_ascii_lowercase b) ∷ []))

-- white space or `>` in an end tag
abbrev pub end_tag_byte : Content → ℕ → Transition
end_tag_byte content b =
    if is_space b then goes state.AfterEndTagName content []
    else (if b == greater_than then goes (state.In place.Text) content (EmitTag ∷ [])
    else refuses)

-- 13.2.5.8 Tag name state of an end tag
abbrev pub end_tag_name_byte : Content → List ℕ → ℕ → Transition
end_tag_name_byte content name b =
    if ends_name b then (if ends_content content.element name then end_tag_byte (closed content name) b else refuses)
    else (if b == 0 then refuses
    else goes (state.EndTagName (name ++ to_ascii_lowercase b ∷ [])) content (TagNameByte (to_ascii_lowercase b) ∷ []))

-- a byte that the standard calls an error in an attribute's name
abbrev pub is_name_error : ℕ → Bool
is_name_error b = b == 0 || b == double_quote || b == single_quote || b == less_than

-- a byte of an attribute's name
abbrev pub name_byte : Content → List ℕ → ℕ → Transition
name_byte content name b =
    if is_name_error b then refuses
    else goes (state.Name (name ++ to_ascii_lowercase b ∷ [])) content (NameByte (to_ascii_lowercase b) ∷ [])

-- the first byte of an attribute's name
abbrev pub first_name_byte : Content → ℕ → Transition
first_name_byte content b =
    if b == equals_sign || is_name_error b then refuses
    else goes (state.Name (to_ascii_lowercase b ∷ [])) content (NewAttribute ∷ NameByte (to_ascii_lowercase b) ∷ [])

-- 13.2.5.32 Before attribute name state
abbrev pub before_name_byte : Content → ℕ → Transition
before_name_byte content b = in_tag state.BeforeName content b (first_name_byte content b)

-- 13.2.5.33 Attribute name state
abbrev pub attribute_name_byte : Content → List ℕ → ℕ → Transition
attribute_name_byte content name b =
    if b == equals_sign then moves (value_of content name) []
    else in_tag (state.AfterName name) content b (name_byte content name b)

-- 13.2.5.34 After attribute name state
abbrev pub after_name_byte : Content → List ℕ → ℕ → Transition
after_name_byte content name b =
    if b == equals_sign then moves (value_of content name) []
    else in_tag (state.AfterName name) content b (first_name_byte (without_value content name) b)

-- 13.2.5.39 After attribute value (quoted) state
abbrev pub after_value_byte : Content → ℕ → Transition
after_value_byte content b = in_tag state.BeforeName content b refuses

-- at the `/>` of a start tag, if it is read there
abbrev pub closed_itself : Option OpenElement → Content → Transition
closed_itself None content = refuses
closed_itself (Some element) content = goes (content_state content.element) (with_element content element) (SetSelfClosing ∷ EmitTag ∷ [])

-- 13.2.5.40 Self-closing start tag state
abbrev pub self_closing_byte : Content → ℕ → Transition
self_closing_byte content b = if b == greater_than then closed_itself (beside content.element) content else refuses
