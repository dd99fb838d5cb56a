-- What begins at a position of text, and of an attribute's value.
-- HTML Standard, 13.2.5.1 Data state, and 13.2.5.36 to 13.2.5.38 Attribute value (double-quoted),
-- (single-quoted) and (unquoted) state, in this profile: a `&` begins a reference of References.antt,
-- an unquoted value ends at the one byte that its place names, and the bytes that the standard calls
-- errors in it have no reading.
use Rattle.std.specs.Prelude.{ℕ, Bool, true, false, ◌&&◌, ◌||◌, List, [], ◌∷◌, ◌==◌, if◌then◌else◌}
use Rattle.hesc_specs.specs.Text.Ascii.{double_quote, ampersand, single_quote, less_than, equals_sign, greater_than, backtick}
use Rattle.hesc_grammars.specs.declared.step.Mode.{Mode}
use Rattle.hesc_grammars.specs.declared.step.Mode.TheVariants.{Empty, Plain}
use Rattle.hesc_grammars.specs.declared.step.Step.{Step}
use Rattle.hesc_grammars.specs.declared.step.Step.TheVariants.{Close, Byte, Nothing}
use Rattle.hesc_grammars.specs.Words.{is_white_space}
use Rattle.hesc_grammars.specs.References.{reference}

-- text and quoted values: the first byte that is the mark is the end
unfoldable pub marked_step : ℕ → Mode → List ℕ → Step
marked_step mark mode [] = Nothing
marked_step mark mode (b ∷ bytes) =
    if b == mark then Close
    else (if b == ampersand then reference bytes
    else Byte 0 b Plain)

-- white space or `>`
abbrev pub ends_unquoted : ℕ → Bool
ends_unquoted b = is_white_space b || b == greater_than

-- a byte that the standard calls an error in an unquoted value
abbrev pub is_unquoted_error : ℕ → Bool
is_unquoted_error b =
    b == double_quote || b == single_quote || b == less_than || b == equals_sign || b == backtick

-- an item has been read
abbrev pub has_item : Mode → Bool
has_item Empty = false
has_item other = true

-- unquoted values: the byte end is the end, where an item stands before it
unfoldable pub unquoted_step : ℕ → Mode → List ℕ → Step
unquoted_step end mode [] = Nothing
unquoted_step end mode (b ∷ bytes) =
    if ends_unquoted b then (if b == end && has_item mode then Close else Nothing)
    else (if b == ampersand then reference bytes
    else (if is_unquoted_error b then Nothing
    else Byte 0 b Plain))
