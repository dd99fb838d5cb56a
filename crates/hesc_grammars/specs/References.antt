-- Character references.
-- HTML Standard, 13.2.5.72 Character reference state to 13.2.5.80 Numeric character reference end
-- state, in this profile: a reference has its `;`, and one of six names or a number. The numbers
-- 80 to 9F hex, surrogates and numbers above 10FFFF hex, which the standard reads as other
-- characters, have no reading.
use Rattle.std.specs.Prelude.{ℕ, ◌+◌, Bool, ◌&&◌, ◌||◌, not, List, ◌==◌, codes, if◌then◌else◌, length, take, drop, bytes_eq, Option, Some, None}
use Rattle.std.specs.Char.{is_digit}
use Rattle.std.specs.Int.{is_in_range}
use Rattle.std.specs.List.{list_all, position_from}
use Rattle.std.specs.Str.Parse.{digits_value}
use Rattle.hesc_specs.specs.Text.Ascii.{ampersand, semicolon, less_than, greater_than, double_quote, single_quote}
use Rattle.hesc_specs.specs.Text.Nul.{replacement_character}
use Rattle.hesc_specs.specs.Text.Words.{begins}
use Rattle.hesc_grammars.specs.declared.step.Mode.TheVariants.{Plain}
use Rattle.hesc_grammars.specs.declared.step.Step.{Step}
use Rattle.hesc_grammars.specs.declared.step.Step.TheVariants.{Character, Nothing}

-- U+00A0
abbrev pub no_break_space : ℕ
no_break_space = 0xA0

-- the character of a name
abbrev pub named_character : List ℕ → Option ℕ
named_character name =
    if bytes_eq name (codes "amp") then Some ampersand
    else (if bytes_eq name (codes "apos") then Some single_quote
    else (if bytes_eq name (codes "gt") then Some greater_than
    else (if bytes_eq name (codes "lt") then Some less_than
    else (if bytes_eq name (codes "nbsp") then Some no_break_space
    else (if bytes_eq name (codes "quot") then Some double_quote
    else None)))))

-- the character of a number, which is U+FFFD for 0
abbrev pub numbered_character : ℕ → Option ℕ
numbered_character n =
    if n == 0 then Some replacement_character
    else (if is_in_range 0x1 0x7F n || is_in_range 0xA0 0xD7FF n || is_in_range 0xE000 0x10FFFF n then Some n
    else None)

-- one or more digits of a base
abbrev pub are_digits : ℕ → List ℕ → Bool
are_digits base digits = not (length digits == 0) && list_all (λ d. is_digit d base) digits

-- the character of the number that digits write
abbrev pub digits_character : ℕ → List ℕ → Option ℕ
digits_character base digits =
    if are_digits base digits then numbered_character (digits_value base digits) else None

-- the character of a body: `#x` or `#X` and hex digits, `#` and decimal digits, or a name
abbrev pub body_character : List ℕ → Option ℕ
body_character body =
    if begins (codes "#x") body || begins (codes "#X") body then digits_character 16 (drop 2 body)
    else (if begins (codes "#") body then digits_character 10 (drop 1 body)
    else named_character body)

-- an item of one byte and so many more that is read as the character, if there is one
abbrev pub character_or_nothing : ℕ → Option ℕ → Step
character_or_nothing more None = Nothing
character_or_nothing more (Some c) = Character more c Plain

-- what a `&` before the bytes begins, where a body of so many bytes and a `;` follow it
abbrev pub reference_of_length : Option ℕ → List ℕ → Step
reference_of_length None bytes = Nothing
reference_of_length (Some count) bytes = character_or_nothing (count + 1) (body_character (take count bytes))

-- what a `&` before the bytes begins: its body goes up to the first `;`
abbrev pub reference : List ℕ → Step
reference bytes = reference_of_length (position_from (λ b. b == semicolon) 0 bytes) bytes
