-- The attributes of a tag.
-- HTML Standard, 13.2.5.32 Before attribute name state to 13.2.5.39 After attribute value (quoted)
-- state, in this profile: white space before each name, names in lower-case letters, a value for
-- each, no white space around its `=`, and no name twice.
use Rattle.std.specs.Prelude.{ℕ, zero, suc, Bool, true, ◌&&◌, not, List, [], ◌∷◌, ◌+◌, ◌==◌, Option, Some, None, codes, bytes_eq, drop, if◌then◌else◌}
use Rattle.std.specs.Char.{is_ascii_lowercase}
use Rattle.std.specs.List.{list_any}
use Rattle.std.specs.Option.{option_or}
use Rattle.hesc_specs.specs.Text.Ascii.{tab, line_feed, form_feed, space, double_quote, single_quote, greater_than}
use Rattle.hesc_grammars.specs.declared.place.End.{End}
use Rattle.hesc_grammars.specs.declared.place.End.TheVariants.{Tab, LineFeed, FormFeed, Space, Greater}
use Rattle.hesc_grammars.specs.declared.place.Place.{Place}
use Rattle.hesc_grammars.specs.declared.place.Place.TheVariants.{DoubleAttribute, SingleAttribute, UnquotedAttribute}
use Rattle.hesc_places.specs.declared.markup.types.Quoting.{Quoting}
use Rattle.hesc_places.specs.declared.markup.types.Quoting.TheVariants.{Unquoted, Single, Double}
use Rattle.hesc_places.specs.Pages.Parsers.{◌>>=◌, past, some_while}
use Rattle.hesc_grammars.specs.Places.{reading}
use Rattle.hesc_grammars.specs.Words.{is_white_space}

-- an attribute: its name, how its value is quoted, and its value
pub record Entry : Type 0 where
  pub name : List ℕ
  pub quoting : Quoting
  pub value : List ℕ

abbrev pub entry : List ℕ → Quoting → List ℕ → Entry
entry name quoting value = record { name = name; quoting = quoting; value = value }

-- the ending that a byte is, if it is one
abbrev pub ending : ℕ → Option End
ending b =
    if b == tab then Some Tab
    else (if b == line_feed then Some LineFeed
    else (if b == form_feed then Some FormFeed
    else (if b == space then Some Space
    else (if b == greater_than then Some Greater
    else None))))

-- the first byte that is an ending
abbrev pub first_ending : List ℕ → Option End
first_ending [] = None
first_ending (b ∷ bytes) = option_or (ending b) (first_ending bytes)

-- a value after its opening quote mark; its closing mark is taken
unfoldable pub quoted_at : Quoting → Place → List ℕ → Option (Quoting × List ℕ × List ℕ)
quoted_at quoting place bytes = do
  found ← reading place bytes
  Some (quoting, found.0, drop (found.1 + 1) bytes)

-- a value without quote marks; the first byte that is an ending ends it, and is not taken
unfoldable pub unquoted_at : List ℕ → Option (Quoting × List ℕ × List ℕ)
unquoted_at bytes = do
  end ← first_ending bytes
  found ← reading (UnquotedAttribute end) bytes
  Some (Unquoted, found.0, drop found.1 bytes)

-- a value, and the bytes after it
unfoldable pub value_at : List ℕ → Option (Quoting × List ℕ × List ℕ)
value_at [] = None
value_at (b ∷ bytes) =
    if b == double_quote then quoted_at Double DoubleAttribute bytes
    else (if b == single_quote then quoted_at Single SingleAttribute bytes
    else unquoted_at (b ∷ bytes))

-- white space, a name, `=` and a value, and the bytes after them
unfoldable pub attribute_at : List ℕ → Option (Entry × List ℕ)
attribute_at bytes = do
  gap ← some_while is_white_space bytes
  name ← some_while is_ascii_lowercase gap.1
  after ← past (codes "=") name.1
  value ← value_at after
  Some (entry name.0 value.0 value.1, value.2)

-- an attribute, if there is one, and those that follow it
abbrev pub and_others : List ℕ → Option (Entry × List ℕ) → (List ℕ → List Entry × List ℕ) → List Entry × List ℕ
and_others bytes None go_on = ([], bytes)
and_others bytes (Some first) go_on = (first.0 ∷ (go_on first.1).0, (go_on first.1).1)

-- the attributes that follow one another, so many at most, and the bytes after them
unfoldable pub attributes_at : ℕ → List ℕ → List Entry × List ℕ
attributes_at zero bytes = ([], bytes)
attributes_at (suc most) bytes = and_others bytes (attribute_at bytes) (attributes_at most)

-- no name stands twice
abbrev pub differ : List (List ℕ) → Bool
differ [] = true
differ (name ∷ names) = not (list_any (bytes_eq name) names) && differ names
