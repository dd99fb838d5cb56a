-- The bytes up to which a stretch goes at which the tokenizer stays where it is.
use Rattle.std.specs.Prelude.{⊤, ℕ, Bool, true, false, ◌||◌, ◌==◌, Option, Some, None, if◌then◌else◌, not}
use Rattle.std.specs.Char.{is_ascii_alphabetic, is_ascii_digit, to_ascii_lowercase}
use Rattle.std.specs.Option.{option_or}
use Rattle.hesc_specs.specs.Text.Ascii.{number_sign, double_quote, ampersand, single_quote, slash, less_than, greater_than, backslash, backtick}
use Rattle.hesc_grammars.specs.Html.{is_unquoted_error}
use Rattle.hesc_grammars.specs.StyleStrings.{is_newline_or_nul}
use Rattle.html_tokenizer.specs.Declarations.{is_style_byte, is_word_byte}
use Rattle.html_tokenizer.specs.declared.slot_place.SlotPlace.{SlotPlace}
use Rattle.html_tokenizer.specs.declared.slot_place.SlotPlace.TheVariants.{Text, DoubleQuoted, SingleQuoted, Unquoted, ScriptSingle, ScriptDouble, StyleSingle, StyleDouble}
use Rattle.html_tokenizer.specs.declared.states.Code.{Code}
use Rattle.html_tokenizer.specs.declared.states.Code.TheVariants.{FrontComment, JsonRest, Plain, Name, LetterI, LettersIm, LettersImp, LettersImpo, LettersImpor, LetterF, LettersFr, LettersFro, LineComment, BlockComment, Url, Opaque, Escaped, DoubleEscaped}
use Rattle.html_tokenizer.specs.declared.states.Kind.{Kind}
use Rattle.html_tokenizer.specs.declared.states.Kind.TheVariants as kind
use Rattle.html_tokenizer.specs.declared.states.Phase.{Phase}
use Rattle.html_tokenizer.specs.declared.states.Phase.TheVariants as phase
use Rattle.html_tokenizer.specs.declared.elements.OpenElement.{OpenElement}
use Rattle.html_tokenizer.specs.declared.elements.OpenElement.TheVariants.{Script, Style, Frame}
use Rattle.html_tokenizer.specs.Tokenizer.Code.Characters.{asterisk, at_sign, closing_parenthesis, lower_f, lower_i, opening_parenthesis}
use Rattle.html_tokenizer.specs.Tokenizer.Code.Comments.{ends_line}
use Rattle.html_tokenizer.specs.Tokenizer.Code.Words.{is_name_byte, longer}
use Rattle.html_tokenizer.specs.Tokenizer.Comments.{dash}
use Rattle.html_tokenizer.specs.Tokenizer.Tags.{is_space}

-- in a string with this mark
abbrev pub ends_string : (ℕ → Bool) → ℕ → ℕ → Bool
ends_string breaks mark b = b == mark || b == backslash || b == less_than || breaks b

-- in a value
abbrev pub leaves_value : SlotPlace → ℕ → Bool
leaves_value Text b = b == less_than || b == ampersand
leaves_value DoubleQuoted b = b == double_quote || b == ampersand
leaves_value SingleQuoted b = b == single_quote || b == ampersand
leaves_value Unquoted b = is_space b || b == greater_than || b == ampersand || is_unquoted_error b
leaves_value ScriptSingle b = ends_string ends_line single_quote b
leaves_value ScriptDouble b = ends_string ends_line double_quote b
leaves_value StyleSingle b = ends_string is_newline_or_nul single_quote b
leaves_value StyleDouble b = ends_string is_newline_or_nul double_quote b

-- in code
abbrev pub leaves_code : OpenElement → Code → ℕ → Bool
leaves_code Script LineComment b = ends_line b || b == 0xE2 || b == less_than
leaves_code Style Plain b =
    b == double_quote || b == single_quote || b == backslash || b == slash || b == at_sign || b == 85 || b == 117 || b == less_than
leaves_code Style Url b =
    b == double_quote || b == single_quote || b == opening_parenthesis || b == closing_parenthesis || b == backslash || b == slash || b == less_than
leaves_code Script BlockComment b = b == asterisk || b == less_than
leaves_code Style BlockComment b = b == asterisk || b == less_than
leaves_code Style FrontComment b = b == asterisk || b == less_than || b == 0
leaves_code Script Escaped b = b == dash || b == less_than
leaves_code Script DoubleEscaped b = b == dash || b == less_than
leaves_code Script Opaque b = b == less_than
leaves_code Script JsonRest b = b == less_than
leaves_code Style Opaque b = b == less_than
leaves_code Frame Opaque b = b == less_than
leaves_code other code b = true

-- the bytes that end a stretch in a state
abbrev pub leaves : OpenElement → Phase → ℕ → Bool
leaves element (phase.In p) b = leaves_value p b
leaves element (phase.InCode code) b = leaves_code element code b
leaves element other b = true

-- code that is scanned byte by byte, and values through which a search goes
abbrev pub is_scanned_code : OpenElement → Code → Bool
is_scanned_code Script LineComment = true
is_scanned_code Style FrontComment = true
is_scanned_code Style Plain = true
is_scanned_code Style Url = true
is_scanned_code other code = false

abbrev pub is_searched : SlotPlace → Bool
is_searched Text = true
is_searched DoubleQuoted = true
is_searched SingleQuoted = true
is_searched other = false

-- states that are scanned byte by byte
abbrev pub is_scanned : OpenElement → Phase → Bool
is_scanned element (phase.In p) = not (is_searched p)
is_scanned element (phase.InCode code) = is_scanned_code element code
is_scanned element other = false

-- a value whose bytes do not tell what it means
abbrev pub IsSettled : Kind → Type 0
IsSettled kind.Ordinary = ⊤
IsSettled kind.Forbidden = ⊤
IsSettled kind.Link = ⊤
IsSettled kind.Url = ⊤
IsSettled kind.FixedUrl = ⊤
IsSettled other = ⊥

-- the value of a `style` stays in its part of a declaration, or where the rest takes no slot
abbrev pub keeps_part : Kind → ℕ → Bool
keeps_part kind.DeclarationName b = is_word_byte b
keeps_part kind.DeclarationValue b = is_style_byte b
keeps_part kind.OpaqueStyle b = not (b == double_quote || b == single_quote || b == ampersand)
keeps_part other b = false

-- a byte as a name of a tag or an attribute holds it, if it is a letter, a digit or `-`
abbrev pub is_name_letter : ℕ → Bool
is_name_letter b = is_ascii_alphabetic b || is_ascii_digit b || b == dash

abbrev pub name_letter : ℕ → Option ℕ
name_letter b = if is_name_letter b then Some (to_ascii_lowercase b) else None

-- a letter with which `import` or `from` begins
abbrev pub begins_word : ℕ → Bool
begins_word b = b == lower_i || b == lower_f

-- a byte that begins or ends more than a word of a script, or has no reading
abbrev pub is_mark : ℕ → Bool
is_mark b =
    b == double_quote || b == single_quote || b == backslash || b == backtick || b == number_sign || b == slash ||
    b == dash || b == less_than

-- whether a byte, after this one, is no mark and begins neither `import` nor `from`
abbrev pub stays_settled : ℕ → ℕ → Bool
stays_settled last b = if is_name_byte last then not (is_mark b) else not (is_mark b || begins_word b)

-- the word state after such a byte
abbrev pub settled : ℕ → Code
settled b = if is_name_byte b then Name else Plain

abbrev pub after_name : ℕ → Option Code
after_name b = if is_mark b then None else Some (settled b)

abbrev pub after_letters : Code → ℕ → Option Code
after_letters code b = option_or (longer code b) (if is_name_byte b then Some Name else None)

-- where a byte of a script's code leads from a word to another one, or stays in one
abbrev pub word_after : Code → ℕ → Option Code
word_after Plain b = if b == lower_i then Some LetterI else (if b == lower_f then Some LetterF else after_name b)
word_after Name b = after_name b
word_after LetterI b = after_letters LetterI b
word_after LettersIm b = after_letters LettersIm b
word_after LettersImp b = after_letters LettersImp b
word_after LettersImpo b = after_letters LettersImpo b
word_after LettersImpor b = after_letters LettersImpor b
word_after LetterF b = after_letters LetterF b
word_after LettersFr b = after_letters LettersFr b
word_after LettersFro b = after_letters LettersFro b
word_after other b = None
