-- What a byte does in the code of a style, outside of strings.
-- CSS Syntax Module Level 3, 4.3.6 Consume a url token.
-- Before a browser reads a style, its preload scanner looks through it for `@import`, and fetches what that names. It
-- reads at-rules from the front of the style on, with white space and comments between them, and knows no strings: in
-- `@page { } a { b: ";@import c;" }` it finds an import. At any byte of no at-rule it stops. So a style takes no slot
-- where it begins with an `@`, behind white space and comments. Nor does it where browsers go on each in its own way:
-- Chromium passes over NUL, and over a `/` that begins no comment with the byte behind it; Firefox takes a `*` together
-- with the next one, so that `**/` does not end a comment.
use Rattle.std.specs.Prelude.{ℕ, ◌||◌, [], ◌∷◌, ◌==◌, if◌then◌else◌}
use Rattle.hesc_specs.specs.Text.Ascii.{double_quote, single_quote, slash, backslash}
use Rattle.html_tokenizer.specs.declared.slot_place.SlotPlace.TheVariants.{StyleSingle, StyleDouble}
use Rattle.html_tokenizer.specs.declared.states.Code.{Code}
use Rattle.html_tokenizer.specs.declared.states.Code.TheVariants as code
use Rattle.html_tokenizer.specs.declared.elements.Content.{Content}
use Rattle.html_tokenizer.specs.Tokenizer.Actions.{StringStart}
use Rattle.html_tokenizer.specs.Tokenizer.States as state
use Rattle.html_tokenizer.specs.Tokenizer.States.{Forbidden, at_value}
use Rattle.html_tokenizer.specs.Tokenizer.Tags.{is_space}
use Rattle.html_tokenizer.specs.Tokenizer.Transitions.{Transition, goes, moves}
use Rattle.html_tokenizer.specs.Tokenizer.Code.Characters.{asterisk, at_sign, opening_parenthesis, closing_parenthesis}
use Rattle.html_tokenizer.specs.Tokenizer.Code.Comments.{stays, gives_up, block_byte, block_star_byte}

-- a byte of a style's code
abbrev pub style_byte : Content → ℕ → Transition
style_byte content b =
    if b == single_quote then goes (state.In StyleSingle) content (StringStart ∷ [])
    else (if b == double_quote then goes (state.In StyleDouble) content (StringStart ∷ [])
    else (if b == backslash then gives_up content b
    else (if b == slash then stays code.Slash content b
    else (if b == at_sign then stays code.At content b
    else (if b == 85 || b == 117 then stays code.LetterU content b
    else stays code.Plain content b)))))

-- a byte of a URL without quotes
abbrev pub url_byte : Content → ℕ → Transition
url_byte content b =
    if b == closing_parenthesis then stays code.Plain content b
    else (if b == double_quote || b == single_quote || b == opening_parenthesis || b == backslash then gives_up content b
    else (if b == slash then stays code.UrlSlash content b
    else stays code.Url content b))

-- a byte after `url(` and white space: what stands in quotes there is a URL
abbrev pub url_open_byte : Content → ℕ → Transition
url_open_byte content b =
    if b == single_quote then moves (at_value (state.In StyleSingle) content Forbidden) (StringStart ∷ [])
    else (if b == double_quote then moves (at_value (state.In StyleDouble) content Forbidden) (StringStart ∷ [])
    else (if is_space b then stays code.UrlOpen content b
    else url_byte content b))

-- a byte at the front of a style
abbrev pub front_byte : Content → ℕ → Transition
front_byte content b =
    if is_space b then stays code.Front content b
    else (if b == slash then stays code.FrontSlash content b
    else (if b == at_sign || b == 0 then gives_up content b
    else style_byte content b))

-- a byte of a comment there
abbrev pub front_comment_byte : Content → ℕ → Transition
front_comment_byte content b =
    if b == asterisk then stays code.FrontStar content b
    else (if b == 0 then gives_up content b
    else stays code.FrontComment content b)

-- a byte after a `*` of such a comment
abbrev pub front_star_byte : Content → ℕ → Transition
front_star_byte content b =
    if b == slash then stays code.Front content b
    else (if b == asterisk then gives_up content b
    else front_comment_byte content b)

abbrev pub style_code_byte : Code → Content → ℕ → Transition
style_code_byte code.Front content b = front_byte content b
style_code_byte code.FrontSlash content b = if b == asterisk then stays code.FrontComment content b else gives_up content b
style_code_byte code.FrontComment content b = front_comment_byte content b
style_code_byte code.FrontStar content b = front_star_byte content b
style_code_byte code.Plain content b = style_byte content b
style_code_byte code.Slash content b = if b == asterisk then stays code.BlockComment content b else style_byte content b
style_code_byte code.BlockComment content b = block_byte content b
style_code_byte code.BlockStar content b = block_star_byte content b
style_code_byte code.At content b = if b == 73 || b == 105 then gives_up content b else style_byte content b
style_code_byte code.LetterU content b = if b == 82 || b == 114 then stays code.LettersUr content b else style_byte content b
style_code_byte code.LettersUr content b = if b == 76 || b == 108 then stays code.LettersUrl content b else style_byte content b
style_code_byte code.LettersUrl content b = if b == opening_parenthesis then stays code.UrlOpen content b else style_byte content b
style_code_byte code.UrlOpen content b = url_open_byte content b
style_code_byte code.Url content b = url_byte content b
style_code_byte code.UrlSlash content b = if b == asterisk then gives_up content b else url_byte content b
style_code_byte other content b = gives_up content b
