-- The tokens of an encoded string, and what a string decoder reads from them. A token is an escape at its place in the source, or one byte.
use Rattle.std.specs.Prelude.{ℕ, zero, suc, ◌+◌, ◌-◌, ◌*◌, Bool, true, false, ◌&&◌, ◌||◌, List, [], ◌∷◌, ◌++◌, Option, Some, None, nat_lt, nat_le, ◌==◌, if◌then◌else◌, codes, encode_utf8}
use Rattle.std.specs.Option.{option_or}
use Rattle.hesc_specs.specs.Text.Ascii.{space, slash, less_than, backslash, lower_x}
use Rattle.hesc_specs.specs.Text.Elements.{element_name}
use Rattle.hesc_specs.specs.Bodies.Openings.{ends_name}
use Rattle.hesc_specs.specs.Strings.Encoding.{is_quote, line_separator, paragraph_separator}
use Rattle.hesc_specs.specs.Text.Words.{begins, begins_in_any_case}
use Rattle.hesc_specs.specs.declared.elements.Element.{Element}
use Rattle.hesc_specs.specs.declared.elements.Element.TheVariants.{Script, Style}
use Rattle.hesc_specs.specs.declared.quotes.Quotes.{Quotes}
use Rattle.hesc_specs.specs.declared.quotes.Quotes.TheVariants.{Single, Double, Both}

-- An escape: how many bytes it has after its `\`, and the character that it stands for.
abbrev pub Escape : Type 0
Escape = Option (ℕ × ℕ)

abbrev pub when : Bool → ℕ → ℕ → Escape
when holds more character = if holds then Some (more, character) else None

-- `\\`, and `\` before a quote mark that the decoder knows
abbrev pub mark_escape : Quotes → List ℕ → Escape
mark_escape quotes [] = None
mark_escape quotes (c ∷ bytes) = when (c == backslash || is_quote quotes c) 1 c

-- a hex digit, whose letters are upper-case, and its value
abbrev pub is_upper_hex : ℕ → Bool
is_upper_hex b = (nat_le 48 b && nat_le b 57) || (nat_le 65 b && nat_le b 70)

abbrev pub upper_hex_value : ℕ → ℕ
upper_hex_value b = if nat_lt b 65 then b - 48 else b - 55

-- the number that two hex digits write
abbrev pub pair_value : ℕ → ℕ → ℕ
pair_value high low = upper_hex_value high * 16 + upper_hex_value low

-- two hex digits that write the number of `<`, or of a C0 control from the least on
abbrev pub is_pair : ℕ → ℕ → ℕ → Bool
is_pair least high low =
    (is_upper_hex high && is_upper_hex low) &&
    ((nat_le least (pair_value high low) && nat_lt (pair_value high low) 32) || pair_value high low == less_than)

-- in a script `\x` and two hex digits, in a style `\`, two hex digits that do not write 0, and a space
abbrev pub number_escape : Element → List ℕ → Escape
number_escape element [] = None
number_escape element (a ∷ []) = None
number_escape element (a ∷ b ∷ []) = None
number_escape Script (a ∷ b ∷ c ∷ bytes) = when (a == lower_x && is_pair 0 b c) 3 (pair_value b c)
number_escape Style (a ∷ b ∷ c ∷ bytes) = when (c == space && is_pair 1 a b) 3 (pair_value a b)

-- in a script `\u2028` and `\u2029`
abbrev pub separator_escape : Element → List ℕ → Escape
separator_escape Script bytes = option_or (when (begins (codes "u2028") bytes) 5 line_separator) (when (begins (codes "u2029") bytes) 5 paragraph_separator)
separator_escape Style bytes = None

-- a name ends before the first byte; the end of the text does not count
abbrev pub ends_name_within : List ℕ → Bool
ends_name_within [] = false
ends_name_within (b ∷ bytes) = ends_name (b ∷ bytes)

-- after a `<` also `\!` before `--`, and `\/` before the element's name in any ASCII case, which ends there
abbrev pub opening_escape : Element → List ℕ → Escape
opening_escape element bytes =
    option_or (when (begins (codes "!--") bytes) 1 33)
    (when (begins_in_any_case (slash ∷ element_name element) ends_name_within bytes) 1 slash)

-- the escape that a `\` before these bytes begins, if any; after_less: the byte of the source right before the `\` is `<`
abbrev pub escape : Element → Quotes → Bool → List ℕ → Escape
escape element quotes after_less bytes =
    option_or (mark_escape quotes bytes) (option_or (number_escape element bytes) (option_or (separator_escape element bytes)
    (if after_less then opening_escape element bytes else None)))

-- the escape that begins with this byte, if any
abbrev pub escape_at : Element → Quotes → Bool → ℕ → List ℕ → Escape
escape_at element quotes after_less b bytes = if b == backslash then escape element quotes after_less bytes else None

-- the value of the token whose first byte this is, and then what go_on reads where so many of its bytes are still to come
abbrev pub valued : ℕ → Escape → (ℕ → List ℕ) → List ℕ
valued b None go_on = b ∷ go_on 0
valued b (Some e) go_on = encode_utf8 e.1 ++ go_on e.0

-- the values of the tokens, where so many bytes of the token before are still to come
abbrev pub string_decoding_after : Element → Quotes → ℕ → Bool → List ℕ → List ℕ
string_decoding_after element quotes more after_less [] = []
string_decoding_after element quotes (suc more) after_less (b ∷ bytes) = string_decoding_after element quotes more (b == less_than) bytes
string_decoding_after element quotes zero after_less (b ∷ bytes) =
    valued b (escape_at element quotes after_less b bytes) (λ more. string_decoding_after element quotes more (b == less_than) bytes)

-- the decoding of a text joins the values of its tokens
abbrev pub string_decoding : Element → Quotes → List ℕ → List ℕ
string_decoding element quotes text = string_decoding_after element quotes 0 false text

-- the decoder of these quote marks knows those that the encoder escapes: they are the same, or both
abbrev pub knows : Quotes → Quotes → Bool
knows Single Single = true
knows Single Double = false
knows Single Both = false
knows Double Single = false
knows Double Double = true
knows Double Both = false
knows Both quotes = true
