-- Which bytes are in a class: those at which the encoder of its name may change something.
use Rattle.std.specs.Prelude.{◌≡◌, ℕ, Bool, true, false, ◌||◌, ◌&&◌, not, ◌==◌, nat_lt, Option, Some, None}
use Rattle.std.specs.Char.{is_ascii_alphanumeric}
use Rattle.hesc_specs.specs.Text.Ascii.{ampersand, less_than, greater_than, double_quote, single_quote, slash, backslash}
use Rattle.hesc_specs.specs.Strings.Encoding.{is_quote}
use Rattle.hesc_specs.specs.declared.classes.Class.{Class}
use Rattle.hesc_specs.specs.declared.classes.Class.TheVariants.{TextMinimal, Text, DoubleQuotedAttribute, SingleQuotedAttribute, QuotedAttribute, Safe, UnquotedAttribute, ScriptSingleQuoted, ScriptDoubleQuoted, ScriptQuoted, StyleSingleQuoted, StyleDoubleQuoted, StyleQuoted}
use Rattle.hesc_specs.specs.declared.elements.Element.{Element}
use Rattle.hesc_specs.specs.declared.elements.Element.TheVariants.{Script, Style}
use Rattle.hesc_specs.specs.declared.quotes.Quotes.{Quotes}
use Rattle.hesc_specs.specs.declared.quotes.Quotes.TheVariants.{Single, Double, Both}

-- the element and the quote marks of a string encoder's class, and nothing for an HTML encoder's class
abbrev pub string_class : Class → Option (Element × Quotes)
string_class TextMinimal = None
string_class Text = None
string_class DoubleQuotedAttribute = None
string_class SingleQuotedAttribute = None
string_class QuotedAttribute = None
string_class Safe = None
string_class UnquotedAttribute = None
string_class ScriptSingleQuoted = Some (Script, Single)
string_class ScriptDoubleQuoted = Some (Script, Double)
string_class ScriptQuoted = Some (Script, Both)
string_class StyleSingleQuoted = Some (Style, Single)
string_class StyleDoubleQuoted = Some (Style, Double)
string_class StyleQuoted = Some (Style, Both)

-- the class is an HTML encoder's
abbrev pub IsHtml : Class → Type 0
IsHtml class = string_class class ≡ None

-- the element of a string encoder's class
abbrev pub element_in : Option (Element × Quotes) → Option Element
element_in None = None
element_in (Some string) = Some string.0

abbrev pub element_of : Class → Option Element
element_of class = element_in (string_class class)

-- the class is of the strings of a style, whose encoders write U+FFFD for NUL
abbrev pub is_style : Option Element → Bool
is_style None = false
is_style (Some Script) = false
is_style (Some Style) = true

abbrev pub is_of_style : Class → Bool
is_of_style class = is_style (element_of class)

-- the first byte of U+2028 and U+2029, which end a line of a script
abbrev pub separator_lead : ℕ
separator_lead = 0xE2

abbrev pub begins_separator : Element → ℕ → Bool
begins_separator Script b = b == separator_lead
begins_separator Style b = false

-- the bytes of a string encoder's class: the first bytes of the characters that it replaces
abbrev pub in_string_class : Element → Quotes → ℕ → Bool
in_string_class element quotes b = b == backslash || is_quote quotes b || nat_lt b 32 || b == less_than || begins_separator element b

abbrev pub in_class : Class → ℕ → Bool
in_class TextMinimal b = b == ampersand || b == less_than
in_class Text b = b == ampersand || b == less_than || b == greater_than
in_class DoubleQuotedAttribute b = b == ampersand || b == less_than || b == greater_than || b == double_quote
in_class SingleQuotedAttribute b = b == ampersand || b == less_than || b == greater_than || b == single_quote
in_class QuotedAttribute b = b == ampersand || b == less_than || b == greater_than || b == double_quote || b == single_quote
in_class Safe b = b == ampersand || b == less_than || b == greater_than || b == double_quote || b == single_quote || b == slash
in_class UnquotedAttribute b = nat_lt b 128 && not (is_ascii_alphanumeric b)
in_class ScriptSingleQuoted b = in_string_class Script Single b
in_class ScriptDoubleQuoted b = in_string_class Script Double b
in_class ScriptQuoted b = in_string_class Script Both b
in_class StyleSingleQuoted b = in_string_class Style Single b
in_class StyleDoubleQuoted b = in_string_class Style Double b
in_class StyleQuoted b = in_string_class Style Both b
