-- What begins at a position of a CSS string.
-- CSS Syntax Module Level 3, 4.3.5 Consume a string token and 4.3.7 Consume an escaped code point, in
-- this profile: bytes are not preprocessed (3.3), so that newlines and NUL have no reading, as they
-- stand or after a `\`.
use Rattle.std.specs.Prelude.{ℕ, ◌+◌, Bool, false, ◌||◌, List, [], ◌∷◌, nat_lt, ◌==◌, if◌then◌else◌, length, take, drop}
use Rattle.std.specs.Char.{is_digit}
use Rattle.std.specs.Int.{is_in_range}
use Rattle.std.specs.List.{take_while}
use Rattle.std.specs.Str.Parse.{digits_value}
use Rattle.hesc_specs.specs.Text.Ascii.{tab, line_feed, form_feed, carriage_return, space, backslash}
use Rattle.hesc_specs.specs.Text.Nul.{replacement_character}
use Rattle.hesc_grammars.specs.declared.step.Mode.{Mode}
use Rattle.hesc_grammars.specs.declared.step.Mode.TheVariants.{Plain}
use Rattle.hesc_grammars.specs.declared.step.Step.{Step}
use Rattle.hesc_grammars.specs.declared.step.Step.TheVariants.{Close, Byte, Character, Nothing}

-- a newline before preprocessing, or NUL
abbrev pub is_newline_or_nul : ℕ → Bool
is_newline_or_nul b = b == line_feed || b == carriage_return || b == form_feed || b == 0

-- the one byte of white space that may follow an escape's digits comes first
abbrev pub begins_white_space : List ℕ → Bool
begins_white_space [] = false
begins_white_space (b ∷ bytes) = b == space || b == tab || b == line_feed

-- the character of an escape's number, which is U+FFFD for 0, surrogates and numbers past the last character
abbrev pub escaped_character : ℕ → ℕ
escaped_character n =
    if n == 0 || is_in_range 0xD800 0xDFFF n || nat_lt 0x10FFFF n then replacement_character else n

-- how many more bytes than its digits an escape has, where the bytes follow the digits
abbrev pub white_space_length : List ℕ → ℕ
white_space_length bytes = if begins_white_space bytes then 1 else 0

-- what a `\` before the bytes begins, which begin with these digits
abbrev pub digits_escape : List ℕ → List ℕ → Step
digits_escape digits bytes =
    Character (length digits + white_space_length (drop (length digits) bytes)) (escaped_character (digits_value 16 digits)) Plain

-- what a `\` before the bytes begins: one to six hex digits of either case, as many as there are, or one byte
abbrev pub style_escape : List ℕ → Step
style_escape [] = Nothing
style_escape (b ∷ bytes) =
    if is_digit b 16 then digits_escape (take_while (λ d. is_digit d 16) (take 6 (b ∷ bytes))) (b ∷ bytes)
    else (if is_newline_or_nul b then Nothing
    else Byte 1 b Plain)

-- a string: the first byte that is the mark and in no escape is the end
unfoldable pub style_string_step : ℕ → Mode → List ℕ → Step
style_string_step mark mode [] = Nothing
style_string_step mark mode (b ∷ bytes) =
    if b == mark then Close
    else (if b == backslash then style_escape bytes
    else (if is_newline_or_nul b then Nothing
    else Byte 0 b Plain))
