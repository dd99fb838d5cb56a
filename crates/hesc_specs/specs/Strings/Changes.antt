-- The changes of the string encoders and decoders.
use Rattle.std.specs.Prelude.{ℕ, zero, suc, ◌+◌, Bool, ◌&&◌, List, [], ◌∷◌, Some, None, drop, length, slice_index, is_some, ◌==◌, chars, encode_utf8, if◌then◌else◌}
use Rattle.hesc_specs.specs.Text.Ascii.{backslash, less_than}
use Rattle.hesc_specs.specs.Bodies.Changes.{byte_before}
use Rattle.hesc_specs.specs.Text.Changes.{Change}
use Rattle.hesc_specs.specs.Strings.Encoding.{is_escaped, string_escape}
use Rattle.hesc_specs.specs.Strings.Tokens.{Escape, escape, escape_at}
use Rattle.hesc_specs.specs.declared.elements.Element.{Element}
use Rattle.hesc_specs.specs.declared.quotes.Quotes.{Quotes}

-- the place after a character
abbrev pub character_end : ℕ → ℕ → ℕ
character_end place c = place + length (encode_utf8 c)

-- a string encoder's changes of the characters that stand at a place and after it: each that it replaces
abbrev pub string_encoding_changes_of : Element → Quotes → ℕ → List ℕ → List Change
string_encoding_changes_of element quotes at [] = []
string_encoding_changes_of element quotes at (c ∷ characters) =
    if is_escaped element quotes c then
    record { start = at; end = character_end at c; bytes = string_escape element c } ∷ string_encoding_changes_of element quotes (character_end at c) characters
    else string_encoding_changes_of element quotes (character_end at c) characters

-- a string encoder's changes of a source from a place on
abbrev pub string_encoding_changes : Element → Quotes → List ℕ → ℕ → List Change
string_encoding_changes element quotes source from = string_encoding_changes_of element quotes from (chars (drop from source))

-- the change of the token at a place, if it is an escape, and then what go_on notes where so many of its bytes are still to come
abbrev pub noted : ℕ → Escape → (ℕ → List Change) → List Change
noted place None go_on = go_on 0
noted place (Some e) go_on = record { start = place; end = place + 1 + e.0; bytes = encode_utf8 e.1 } ∷ go_on e.0

-- a string decoder's changes of the bytes that stand at a place and after it, where so many bytes of the token before are still to come: each escape
abbrev pub string_decoding_changes_of : Element → Quotes → ℕ → ℕ → Bool → List ℕ → List Change
string_decoding_changes_of element quotes at more after_less [] = []
string_decoding_changes_of element quotes at (suc more) after_less (b ∷ bytes) = string_decoding_changes_of element quotes (at + 1) more (b == less_than) bytes
string_decoding_changes_of element quotes at zero after_less (b ∷ bytes) =
    noted at (escape_at element quotes after_less b bytes) (λ more. string_decoding_changes_of element quotes (at + 1) more (b == less_than) bytes)

-- the byte right before a place is `<`
abbrev pub is_after_less : List ℕ → ℕ → Bool
is_after_less source place = byte_before source place == less_than

-- a string decoder's changes of a source from a place on: the escapes of the cut that begins there
abbrev pub string_decoding_changes : Element → Quotes → List ℕ → ℕ → List Change
string_decoding_changes element quotes source from = string_decoding_changes_of element quotes from 0 (is_after_less source from) (drop from source)

-- an escape begins at a place
abbrev pub string_escapes_at : Element → Quotes → List ℕ → ℕ → Bool
string_escapes_at element quotes source place =
    slice_index source place == backslash && is_some (escape element quotes (is_after_less source place) (drop (place + 1) source))
