-- The declarations of a `style` attribute.
-- CSS Syntax Module Level 3, 5.4.5 Consume a list of declarations, 5.4.6 Consume a declaration, where their tokens are words, white space,
-- numbers, hashes, commas, colons and `!` (4.3.1 Consume a token): of these there is no string, comment, escape, function and no block, in
-- which a `;` would end nothing.
use Rattle.std.specs.Prelude.{ℕ, Bool, true, false, ◌||◌, ◌&&◌, List, [], ◌∷◌, ◌++◌, ◌==◌, Option, Some, None, if◌then◌else◌, reverse}
use Rattle.std.specs.Char.{is_ascii_alphabetic, is_ascii_alphanumeric}
use Rattle.std.specs.List.{list_all}
use Rattle.std.specs.Option.{option_map}
use Rattle.hesc_specs.specs.Text.Ascii.{carriage_return, number_sign, semicolon}
use Rattle.hesc_grammars.specs.Words.{is_white_space}

abbrev pub hyphen : ℕ
hyphen = 45

abbrev pub low_line : ℕ
low_line = 95

abbrev pub percent_sign : ℕ
percent_sign = 37

abbrev pub plus_sign : ℕ
plus_sign = 43

abbrev pub comma : ℕ
comma = 44

abbrev pub full_stop : ℕ
full_stop = 46

abbrev pub colon : ℕ
colon = 58

abbrev pub bang : ℕ
bang = 33

-- 3.3 Preprocessing the input stream: a carriage return is a line feed
abbrev pub is_blank : ℕ → Bool
is_blank b = is_white_space b || b == carriage_return

-- of a word: 4.2 Definitions, an ident code point of ASCII
abbrev pub is_word_byte : ℕ → Bool
is_word_byte b = is_ascii_alphanumeric b || b == hyphen || b == low_line

-- of words, white space, numbers, hashes and commas
abbrev pub is_style_byte : ℕ → Bool
is_style_byte b =
    is_word_byte b || is_blank b || b == number_sign || b == percent_sign || b == plus_sign || b == comma || b == full_stop

-- of these, `!` and `:`
abbrev pub is_plain : ℕ → Bool
is_plain b = is_style_byte b || b == bang || b == colon

-- the bytes behind white space, and between white space
abbrev pub behind_blanks : List ℕ → List ℕ
behind_blanks [] = []
behind_blanks (b ∷ bytes) = if is_blank b then behind_blanks bytes else b ∷ bytes

abbrev pub between_blanks : List ℕ → List ℕ
between_blanks bytes = reverse (behind_blanks (reverse (behind_blanks bytes)))

-- 4.3.9 Check if three code points would start an ident sequence
abbrev pub begins_name : List ℕ → Bool
begins_name [] = false
begins_name (b ∷ []) = is_ascii_alphabetic b || b == low_line
begins_name (b ∷ next ∷ bytes) =
    is_ascii_alphabetic b || b == low_line || (b == hyphen && (is_ascii_alphabetic next || next == low_line || next == hyphen))

abbrev pub is_name : List ℕ → Bool
is_name bytes = begins_name bytes && list_all is_word_byte bytes

-- the bytes before the first `:`, if there is one
abbrev pub before_colon : List ℕ → Option (List ℕ)
before_colon [] = None
before_colon (b ∷ bytes) = if b == colon then Some [] else option_map (λ more. b ∷ more) (before_colon bytes)

-- 5.4.6 Consume a declaration: a name stands before the `:`, and else there is none
abbrev pub name_before : Option (List ℕ) → List (List ℕ)
name_before None = []
name_before (Some bytes) = if is_name (between_blanks bytes) then between_blanks bytes ∷ [] else []

abbrev pub names_of : List ℕ → List (List ℕ)
names_of declaration = name_before (before_colon declaration)

-- the names of the declarations of a value, in their order, and what is left of it from the first one on that has other bytes
pub record Declared : Type 0 where
  pub names : List (List ℕ)
  pub left : List ℕ

abbrev pub with_names : List (List ℕ) → Declared → Declared
with_names names found = record { names = names ++ found.names; left = found.left }

-- where these bytes of a declaration stand before
abbrev pub declarations_from : List ℕ → List ℕ → Declared
declarations_from front [] = record { names = names_of front; left = [] }
declarations_from front (b ∷ value) =
    if b == semicolon then with_names (names_of front) (declarations_from [] value)
    else (if is_plain b then declarations_from (front ++ b ∷ []) value
    else record { names = []; left = front ++ b ∷ value })

abbrev pub declarations : List ℕ → Declared
declarations value = declarations_from [] value

-- up to the `;` that ends its declaration the value goes on with bytes of its value and `!`
abbrev pub stays_in_value : List ℕ → Bool
stays_in_value [] = true
stays_in_value (b ∷ bytes) = b == semicolon || ((is_style_byte b || b == bang) && stays_in_value bytes)
