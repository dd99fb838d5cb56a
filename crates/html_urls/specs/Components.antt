-- A text as one component of a URL (RFC 3986, 2.3 Unreserved Characters; URL Standard, 1.3 Percent-encoded bytes), and in an opaque path as an address
-- or a number (RFC 6068, 2 Syntax of a 'mailto' URI; RFC 3966, 3 URI Syntax).
pub mod Lanes
use Rattle.std.specs.Prelude.{◌≡◌, ◌⊎◌, ℕ, Bool, false, ◌||◌, ◌==◌, List, All, length, if◌then◌else◌}
use Rattle.std.specs.Char.{is_ascii_alphanumeric}
use Rattle.std.specs.List.{sum_by}
use Rattle.percent_encoding.specs.AsciiSet.{should_percent_encode}
use Rattle.percent_encoding.specs.Percent.{IsKept, percent_encode}
use Rattle.html_urls.specs.declared.component.TheConstants.{ADDRESS, COMPONENT}
use Rattle.html_urls.specs.declared.place.UrlPlace.{UrlPlace}
use Rattle.html_urls.specs.declared.place.UrlPlace.TheVariants.{Path, OpaquePath, Query, Fragment}

-- each byte percent-encoded but letters, digits, `-`, `.`, `_` and `~`
abbrev pub component : List ℕ → List ℕ
component text = percent_encode COMPONENT text

-- in an opaque path `@` and `+` stand as they are too
abbrev pub address : List ℕ → List ℕ
address text = percent_encode ADDRESS text

-- the text as it is written in this part of a URL
abbrev pub component_at : UrlPlace → List ℕ → List ℕ
component_at Path text = component text
component_at OpaquePath text = address text
component_at Query text = component text
component_at Fragment text = component text

-- the text is its own component: no byte of it is percent-encoded
abbrev pub IsUnreservedText : List ℕ → Type 0
IsUnreservedText text = All (IsKept COMPONENT) text

-- a letter, a digit, or `-`, `.`, `_` or `~`
abbrev pub is_unreserved_byte : ℕ → Bool
is_unreserved_byte b = is_ascii_alphanumeric b || b == 45 || b == 46 || b == 95 || b == 126

-- what a component is made of: such a byte, or `%`
abbrev pub is_component_byte : ℕ → Bool
is_component_byte b = is_unreserved_byte b || b == 37

-- `@` or `+`, and how many of the bytes are
abbrev pub is_sign : ℕ → Bool
is_sign b = b == 64 || b == 43

abbrev pub sign_count : List ℕ → ℕ
sign_count bytes = sum_by (λ b. if is_sign b then 1 else 0) bytes

-- one byte alone, or bytes with no such one
abbrev pub IsPiece : List ℕ → Type 0
IsPiece bytes = (length bytes ≡ 1) ⊎ All (λ b. is_sign b ≡ false) bytes

-- what a text is made of in a URL: a byte of a component, or such a one
abbrev pub is_written_byte : ℕ → Bool
is_written_byte b = is_component_byte b || is_sign b

-- the byte is percent-encoded, and how many of the bytes are
abbrev pub is_encoded : ℕ → Bool
is_encoded b = should_percent_encode COMPONENT b

abbrev pub encoded_count : List ℕ → ℕ
encoded_count bytes = sum_by (λ b. if is_encoded b then 1 else 0) bytes
