-- Character references, by a table of names, and a text without them.
-- HTML Standard, 13.2.5.72 Character reference state to 13.2.5.80 Numeric character reference end
-- state, in the profile of html-escape: a reference has its `;`, and a number stands for its own
-- character, but for no C0 control other than the four of white space.
use Rattle.std.specs.Prelude.{ℕ, List, [], ◌∷◌, ◌++◌, Bool, true, false, ◌||◌, ◌&&◌, not, nat_le, nat_lt, ◌==◌, if◌then◌else◌, length, Option, Some, None, encode_utf8}
use Rattle.std.specs.Char.{is_digit}
use Rattle.std.specs.List.{list_all}
use Rattle.std.specs.Option.{option_and_then}
use Rattle.std.specs.Str.Parse.{digits_value}
use Rattle.hesc_specs.specs.Text.Ascii.{tab, line_feed, form_feed, carriage_return, space, number_sign, ampersand, semicolon, upper_x, lower_x}
use Rattle.hesc_specs.specs.References.Rows.{Row, value_of}

abbrev pub with_byte : ℕ → Option (List ℕ) → Option (List ℕ)
with_byte b None = None
with_byte b (Some body) = Some (b ∷ body)

-- the body of the reference that a `&` before the bytes begins: what stands before the first `;`, if no `&` comes before it
abbrev pub body_of : List ℕ → Option (List ℕ)
body_of [] = None
body_of (b ∷ bytes) =
    if b == semicolon then Some []
    else (if b == ampersand then None
    else with_byte b (body_of bytes))

-- the number that one or more digits of a base write
abbrev pub numeral : ℕ → List ℕ → Option ℕ
numeral base digits =
    if not (length digits == 0) && list_all (λ d. is_digit d base) digits then Some (digits_value base digits) else None

-- the number after a `#`: hex digits after an `x` of either case, or decimal digits
abbrev pub number_after_sign : List ℕ → Option ℕ
number_after_sign [] = None
number_after_sign (b ∷ bytes) = if b == lower_x || b == upper_x then numeral 16 bytes else numeral 10 (b ∷ bytes)

-- the number of a body, if it is one
abbrev pub number_of : List ℕ → Option ℕ
number_of [] = None
number_of (b ∷ bytes) = if b == number_sign then number_after_sign bytes else None

-- the code points that are characters (Unicode Standard, D76)
abbrev pub is_scalar_value : ℕ → Bool
is_scalar_value n = nat_lt n 0xD800 || nat_le 0xE000 n && nat_lt n 0x110000

-- a C0 control that no reference stands for
abbrev pub is_kept_control : ℕ → Bool
is_kept_control n = nat_lt n space && not (n == tab || n == line_feed || n == form_feed || n == carriage_return)

-- the character of a number, if a reference may stand for it
abbrev pub numbered_value : ℕ → Option (List ℕ)
numbered_value n = if is_scalar_value n && not (is_kept_control n) then Some (encode_utf8 n) else None

-- the value of a number, or of a name where there is no number
abbrev pub number_or_name : Option ℕ → Option (List ℕ) → Option (List ℕ)
number_or_name None name_value = name_value
number_or_name (Some n) name_value = numbered_value n

-- the value of a body, if it has one
abbrev pub body_value : List Row → List ℕ → Option (List ℕ)
body_value rows body = number_or_name (number_of body) (value_of rows body)

-- the value of the reference that a `&` before the bytes begins, if it has one
abbrev pub reference_value : List Row → List ℕ → Option (List ℕ)
reference_value rows bytes = option_and_then (body_value rows) (body_of bytes)

-- a value and what follows its reference, or where there is no value what follows the `&`, which is kept
abbrev pub replaced_or_kept : Option (List ℕ) → List ℕ → List ℕ → List ℕ
replaced_or_kept None after_ampersand after_reference = ampersand ∷ after_ampersand
replaced_or_kept (Some value) after_ampersand after_reference = value ++ after_reference

-- the bytes with each reference replaced that has a value; is_inside: they begin in such a reference, before its `;`
abbrev pub decoded_from : List Row → Bool → List ℕ → List ℕ
decoded_from rows is_inside [] = []
decoded_from rows true (b ∷ bytes) = decoded_from rows (not (b == semicolon)) bytes
decoded_from rows false (b ∷ bytes) =
    if b == ampersand then replaced_or_kept (reference_value rows bytes) (decoded_from rows false bytes) (decoded_from rows true bytes)
    else b ∷ decoded_from rows false bytes

-- a text with each reference replaced that has a value
abbrev pub decoded : List Row → List ℕ → List ℕ
decoded rows text = decoded_from rows false text
