-- What a byte does in the code of a script, outside of strings.
use Rattle.std.specs.Prelude.{ℕ, Bool, ◌||◌, [], ◌∷◌, ◌==◌, Option, Some, None, if◌then◌else◌}
use Rattle.hesc_specs.specs.Text.Ascii.{tab, line_feed, carriage_return, space, number_sign, double_quote, single_quote, slash, greater_than, backslash, backtick}
use Rattle.html_tokenizer.specs.declared.slot_place.SlotPlace.TheVariants.{ScriptSingle, ScriptDouble}
use Rattle.html_tokenizer.specs.declared.states.Code.{Code}
use Rattle.html_tokenizer.specs.declared.states.Code.TheVariants as code
use Rattle.html_tokenizer.specs.declared.elements.Content.{Content}
use Rattle.html_tokenizer.specs.Tokenizer.Actions.{EmitByte, StringStart}
use Rattle.html_tokenizer.specs.Tokenizer.Comments.{dash}
use Rattle.html_tokenizer.specs.Tokenizer.States as state
use Rattle.html_tokenizer.specs.Tokenizer.States.{Forbidden, at_value}
use Rattle.html_tokenizer.specs.Tokenizer.Transitions.{Transition, goes, moves}
use Rattle.html_tokenizer.specs.Tokenizer.Code.Characters.{asterisk, opening_parenthesis, full_stop, lower_f, lower_i}
use Rattle.html_tokenizer.specs.Tokenizer.Code.Comments.{stays, gives_up, block_byte, block_star_byte, line_byte}
use Rattle.html_tokenizer.specs.Tokenizer.Code.Words.{is_name_byte, longer, is_blank}
use Rattle.html_tokenizer.specs.Tokenizer.Code.Escapes.{escape_start_byte, escaped_byte, escaped_end_byte}

-- a byte of a script's code, where no word is begun
abbrev pub script_byte : Content → ℕ → Transition
script_byte content b =
    if b == single_quote then goes (state.In ScriptSingle) content (StringStart ∷ [])
    else (if b == double_quote then goes (state.In ScriptDouble) content (StringStart ∷ [])
    else (if b == backslash || b == backtick || b == number_sign then gives_up content b
    else (if b == slash then stays code.Slash content b
    else (if b == dash then stays code.Dash content b
    else (if b == lower_i then stays code.LetterI content b
    else (if b == lower_f then stays code.LetterF content b
    else (if is_name_byte b then stays code.Name content b
    else stays code.Plain content b)))))))

-- a byte of a word that is neither of the two
abbrev pub name_byte : Content → ℕ → Transition
name_byte content b = if is_name_byte b then stays code.Name content b else script_byte content b

-- a byte after such letters: one more, or the word is another one
abbrev pub letters_byte : Option Code → Content → ℕ → Transition
letters_byte (Some kind) content b = stays kind content b
letters_byte None content b = name_byte content b

-- a byte after one of the two words: a string names a module, whose code would run; blanks may come before it, and
-- what may begin a comment is not read there
abbrev pub module_byte : Code → Content → ℕ → Transition
module_byte after content b =
    if b == single_quote then moves (at_value (state.In ScriptSingle) content Forbidden) (StringStart ∷ [])
    else (if b == double_quote then moves (at_value (state.In ScriptDouble) content Forbidden) (StringStart ∷ [])
    else (if b == slash then gives_up content b
    else (if is_blank b then stays after content b
    else script_byte content b)))

-- a byte after `import`, which may also be called: 13.3.10 Import Calls
abbrev pub import_byte : Content → ℕ → Transition
import_byte content b =
    if b == opening_parenthesis || b == full_stop then gives_up content b
    else module_byte code.AfterImport content b

-- RFC 8259, 2 JSON Grammar: white space
abbrev pub is_json_space : ℕ → Bool
is_json_space b = b == space || b == tab || b == line_feed || b == carriage_return

-- a byte of a data block of JSON: 13.2.5.4 Script data state
abbrev pub json_byte : Code → Content → ℕ → Transition
json_byte kind content b = goes (state.InCode kind) content (EmitByte b ∷ [])

abbrev pub script_code_byte : Code → Content → ℕ → Transition
script_code_byte code.Plain content b = script_byte content b
script_code_byte code.Json content b = json_byte (if is_json_space b then code.Json else code.JsonRest) content b
script_code_byte code.JsonRest content b = json_byte code.JsonRest content b
script_code_byte code.Name content b = name_byte content b
script_code_byte code.LetterI content b = letters_byte (longer code.LetterI b) content b
script_code_byte code.LettersIm content b = letters_byte (longer code.LettersIm b) content b
script_code_byte code.LettersImp content b = letters_byte (longer code.LettersImp b) content b
script_code_byte code.LettersImpo content b = letters_byte (longer code.LettersImpo b) content b
script_code_byte code.LettersImpor content b = letters_byte (longer code.LettersImpor b) content b
script_code_byte code.LetterF content b = letters_byte (longer code.LetterF b) content b
script_code_byte code.LettersFr content b = letters_byte (longer code.LettersFr b) content b
script_code_byte code.LettersFro content b = letters_byte (longer code.LettersFro b) content b
script_code_byte code.Import content b = if is_name_byte b then stays code.Name content b else import_byte content b
script_code_byte code.From content b = if is_name_byte b then stays code.Name content b else module_byte code.AfterFrom content b
script_code_byte code.AfterImport content b = import_byte content b
script_code_byte code.AfterFrom content b = module_byte code.AfterFrom content b
script_code_byte code.Dash content b = if b == greater_than then gives_up content b else script_byte content b
script_code_byte code.Slash content b =
    if b == slash then stays code.LineComment content b
    else (if b == asterisk then stays code.BlockComment content b
    else gives_up content b)
script_code_byte code.LineComment content b = line_byte content b
script_code_byte code.LineLead content b = if b == 0x80 then stays code.LineSecond content b else line_byte content b
script_code_byte code.LineSecond content b = if b == 0xA8 || b == 0xA9 then stays code.Plain content b else line_byte content b
script_code_byte code.BlockComment content b = block_byte content b
script_code_byte code.BlockStar content b = block_star_byte content b
script_code_byte code.EscapeStart content b = escape_start_byte code.EscapeStartDash content b
script_code_byte code.EscapeStartDash content b = escape_start_byte code.EscapedDashDash content b
script_code_byte code.Escaped content b = escaped_byte code.EscapedDash code.Escaped content b
script_code_byte code.EscapedDash content b = escaped_byte code.EscapedDashDash code.Escaped content b
script_code_byte code.EscapedDashDash content b = escaped_end_byte code.EscapedDashDash code.Escaped content b
script_code_byte code.DoubleEscaped content b = escaped_byte code.DoubleEscapedDash code.DoubleEscaped content b
script_code_byte code.DoubleEscapedDash content b = escaped_byte code.DoubleEscapedDashDash code.DoubleEscaped content b
script_code_byte code.DoubleEscapedDashDash content b = escaped_end_byte code.DoubleEscapedDashDash code.DoubleEscaped content b
script_code_byte other content b = gives_up content b
