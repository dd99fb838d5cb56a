-- What begins at a position of a JavaScript string literal.
-- ECMAScript, 12.9.4 String Literals, in this profile: the escapes are those of a single escape
-- character, of two hex digits after `\x` and of four after `\u`. The other escapes, line
-- continuations, surrogates, and U+2028 and U+2029 as they stand, have no reading.
use Rattle.std.specs.Prelude.{ℕ, ◌+◌, Bool, ◌&&◌, ◌||◌, List, [], ◌∷◌, ◌==◌, if◌then◌else◌, length, take, Option, Some, None}
use Rattle.std.specs.Char.{is_digit}
use Rattle.std.specs.Int.{is_in_range}
use Rattle.std.specs.List.{list_all}
use Rattle.std.specs.Str.Parse.{digits_value}
use Rattle.hesc_specs.specs.Text.Ascii.{tab, line_feed, form_feed, carriage_return, double_quote, single_quote, backslash, lower_x}
use Rattle.hesc_specs.specs.Text.Words.{begins}
use Rattle.hesc_grammars.specs.declared.step.Mode.{Mode}
use Rattle.hesc_grammars.specs.declared.step.Mode.TheVariants.{Plain}
use Rattle.hesc_grammars.specs.declared.step.Step.{Step}
use Rattle.hesc_grammars.specs.declared.step.Step.TheVariants.{Close, Byte, Character, Nothing}

-- U+0008 and U+000B
abbrev pub backspace : ℕ
backspace = 8

abbrev pub line_tabulation : ℕ
line_tabulation = 11

-- the letters `b`, `f`, `n`, `r`, `t`, `u` and `v`
abbrev pub lower_b : ℕ
lower_b = 98

abbrev pub lower_f : ℕ
lower_f = 102

abbrev pub lower_n : ℕ
lower_n = 110

abbrev pub lower_r : ℕ
lower_r = 114

abbrev pub lower_t : ℕ
lower_t = 116

abbrev pub lower_u : ℕ
lower_u = 117

abbrev pub lower_v : ℕ
lower_v = 118

-- the character that a single escape character stands for
abbrev pub single_escape : ℕ → Option ℕ
single_escape b =
    if b == single_quote || b == double_quote || b == backslash then Some b
    else (if b == lower_b then Some backspace
    else (if b == lower_f then Some form_feed
    else (if b == lower_n then Some line_feed
    else (if b == lower_r then Some carriage_return
    else (if b == lower_t then Some tab
    else (if b == lower_v then Some line_tabulation
    else None))))))

-- an item of one byte and so many more that is read as the character of the number, which is no surrogate
abbrev pub unless_surrogate : ℕ → ℕ → Step
unless_surrogate more n = if is_in_range 0xD800 0xDFFF n then Nothing else Character more n Plain

-- so many hex digits of either case, after `\` and a letter
abbrev pub hex_escape : ℕ → List ℕ → Step
hex_escape count digits =
    if length digits == count && list_all (λ d. is_digit d 16) digits then unless_surrogate (count + 1) (digits_value 16 digits)
    else Nothing

-- a single escape, and else `x` and two hex digits or `u` and four
abbrev pub single_or_hex : Option ℕ → ℕ → List ℕ → Step
single_or_hex (Some c) b bytes = Character 1 c Plain
single_or_hex None b bytes =
    if b == lower_x then hex_escape 2 (take 2 bytes)
    else (if b == lower_u then hex_escape 4 (take 4 bytes)
    else Nothing)

-- what a `\` before the bytes begins
abbrev pub script_escape : List ℕ → Step
script_escape [] = Nothing
script_escape (b ∷ bytes) = single_or_hex (single_escape b) b bytes

-- a line feed, a carriage return, U+2028 or U+2029 comes first
abbrev pub begins_line_end : List ℕ → Bool
begins_line_end bytes =
    begins (line_feed ∷ []) bytes || begins (carriage_return ∷ []) bytes ||
    begins (0xE2 ∷ 0x80 ∷ 0xA8 ∷ []) bytes || begins (0xE2 ∷ 0x80 ∷ 0xA9 ∷ []) bytes

-- a string literal: the first byte that is the mark and in no escape is the end
unfoldable pub script_string_step : ℕ → Mode → List ℕ → Step
script_string_step mark mode [] = Nothing
script_string_step mark mode (b ∷ bytes) =
    if b == mark then Close
    else (if b == backslash then script_escape bytes
    else (if begins_line_end (b ∷ bytes) then Nothing
    else Byte 0 b Plain))
