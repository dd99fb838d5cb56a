-- The words of a script's code, of which two stand before a string that names a module.
use Rattle.std.specs.Prelude.{ℕ, Bool, ◌||◌, ◌==◌, Option, Some, None, if◌then◌else◌, nat_lt}
use Rattle.std.specs.Char.{is_ascii_alphanumeric}
use Rattle.html_tokenizer.specs.declared.states.Code.{Code}
use Rattle.html_tokenizer.specs.declared.states.Code.TheVariants as code
use Rattle.html_tokenizer.specs.Tokenizer.Tags.{is_space}
use Rattle.html_tokenizer.specs.Tokenizer.Code.Characters.{vertical_tab, dollar_sign, low_line, lower_m, lower_o, lower_p, lower_r, lower_t}

-- ECMAScript, 12.7 Names and Keywords: a byte in ASCII of a name
abbrev pub is_name_byte : ℕ → Bool
is_name_byte b = is_ascii_alphanumeric b || b == dollar_sign || b == low_line

-- after one letter more of `import` or `from`
abbrev pub longer : Code → ℕ → Option Code
longer code.LetterI b = if b == lower_m then Some code.LettersIm else None
longer code.LettersIm b = if b == lower_p then Some code.LettersImp else None
longer code.LettersImp b = if b == lower_o then Some code.LettersImpo else None
longer code.LettersImpo b = if b == lower_r then Some code.LettersImpor else None
longer code.LettersImpor b = if b == lower_t then Some code.Import else None
longer code.LetterF b = if b == lower_r then Some code.LettersFr else None
longer code.LettersFr b = if b == lower_o then Some code.LettersFro else None
longer code.LettersFro b = if b == lower_m then Some code.From else None
longer other b = None

-- 12.2 White Space, 12.3 Line Terminators; a byte that is not in ASCII may be part of one
abbrev pub is_blank : ℕ → Bool
is_blank b = is_space b || b == vertical_tab || nat_lt 127 b
