-- The string maps: what each string encoder writes for a character, and so for a text.
use Rattle.std.specs.Prelude.{◌≢◌, ℕ, ◌≤◌, ◌/◌, ◌%◌, Bool, true, false, ◌&&◌, ◌||◌, List, [], ◌∷◌, All, nat_lt, ◌==◌, if◌then◌else◌, codes, chars, encode_utf8}
use Rattle.std.specs.List.{flat_map}
use Rattle.hesc_specs.specs.Text.Ascii.{space, double_quote, single_quote, less_than, backslash, lower_x}
use Rattle.hesc_specs.specs.Text.HexDigits.{hex_digit}
use Rattle.hesc_specs.specs.Text.Nul.{nul, replacement_character}
use Rattle.hesc_specs.specs.declared.elements.Element.{Element}
use Rattle.hesc_specs.specs.declared.elements.Element.TheVariants.{Script, Style}
use Rattle.hesc_specs.specs.declared.quotes.Quotes.{Quotes}
use Rattle.hesc_specs.specs.declared.quotes.Quotes.TheVariants.{Single, Double, Both}

-- `'` is among the quote marks
abbrev pub has_single : Quotes → Bool
has_single Single = true
has_single Double = false
has_single Both = true

-- `"` is among the quote marks
abbrev pub has_double : Quotes → Bool
has_double Single = false
has_double Double = true
has_double Both = true

-- the character is one of the quote marks
abbrev pub is_quote : Quotes → ℕ → Bool
is_quote quotes c = (c == single_quote && has_single quotes) || (c == double_quote && has_double quotes)

-- U+2028, the line separator, and U+2029, the paragraph separator, which end a line of a script
abbrev pub line_separator : ℕ
line_separator = 0x2028

abbrev pub paragraph_separator : ℕ
paragraph_separator = 0x2029

abbrev pub is_separator : Element → ℕ → Bool
is_separator Script c = c == line_separator || c == paragraph_separator
is_separator Style c = false

-- the encoder replaces the character
abbrev pub is_escaped : Element → Quotes → ℕ → Bool
is_escaped element quotes c = c == backslash || is_quote quotes c || nat_lt c 32 || c == less_than || is_separator element c

-- `\` and the quote marks are escaped by a `\` before them
abbrev pub is_mark : ℕ → Bool
is_mark c = c == backslash || c == single_quote || c == double_quote

-- what stands for a character that the encoder replaces
abbrev pub string_escape : Element → ℕ → List ℕ
string_escape Script c =
    if is_mark c then backslash ∷ c ∷ []
    else (if c == line_separator then backslash ∷ codes "u2028"
    else (if c == paragraph_separator then backslash ∷ codes "u2029"
    else backslash ∷ lower_x ∷ hex_digit (c / 16) ∷ hex_digit (c % 16) ∷ []))
string_escape Style c =
    if c == 0 then encode_utf8 replacement_character
    else (if is_mark c then backslash ∷ c ∷ []
    else backslash ∷ hex_digit (c / 16) ∷ hex_digit (c % 16) ∷ space ∷ [])

-- what the encoder writes for a character: its escape, or the character itself
abbrev pub string_image : Element → Quotes → ℕ → List ℕ
string_image element quotes c = if is_escaped element quotes c then string_escape element c else encode_utf8 c

-- the encoding of a text joins the images of its characters
abbrev pub string_encoding : Element → Quotes → List ℕ → List ℕ
string_encoding element quotes text = flat_map (string_image element quotes) (chars text)

-- what is read where a string encoder has written a text: the text, in a style with each NUL replaced by U+FFFD
abbrev pub string_value : Element → List ℕ → List ℕ
string_value Script text = text
string_value Style text = nul text

-- no byte is `<` or a C0 control
abbrev pub IsPlain : List ℕ → Type 0
IsPlain bytes = All (λ b. (32 ≤ b) × (b ≢ less_than)) bytes
