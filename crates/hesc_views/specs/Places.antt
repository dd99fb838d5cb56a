-- Lines and columns of a text, counted from 1.
use Rattle.std.specs.Prelude.{ℕ, ◌+◌, ◌==◌, ◌||◌, Bool, List, [], ◌∷◌, count_by, map, nat_le, nat_lt, not, reverse, slice_get, take, take_while, unwrap_or}
use Rattle.hesc_specs.specs.Text.Ascii.{line_feed}
use Rattle.html_view.specs.declared.faults.Position.{Position}
use Rattle.hesc_views.specs.declared.place.Spot.{Spot}
use Rattle.hesc_views.specs.declared.place.Texts.{Texts}

-- the bytes that go on with a character in UTF-8 are those from 128 to 191
abbrev pub begins_character : ℕ → Bool
begins_character b = nat_lt b 128 || nat_le 192 b

abbrev pub is_in_line : ℕ → Bool
is_in_line b = not (b == line_feed)

-- the line in which these bytes end
abbrev pub line_behind : List ℕ → ℕ
line_behind before = count_by (λ b. b == line_feed) before + 1

-- the column there: the characters behind the last line feed, which are counted from behind
abbrev pub column_behind : List ℕ → ℕ
column_behind before = count_by begins_character (take_while is_in_line (reverse before)) + 1

-- the text of the view, and then those of its partials
abbrev pub texts_in : Texts → List (List ℕ)
texts_in texts = texts.view.now ∷ map (λ text. text.now) texts.partials.now

-- the text of this number, from 0, and no bytes where there is none
abbrev pub text_at : List (List ℕ) → ℕ → List ℕ
text_at texts number = unwrap_or (slice_get texts number) []

abbrev pub bytes_before : List (List ℕ) → Position → List ℕ
bytes_before texts position = take position.byte (text_at texts position.text)

abbrev pub spot_at : List (List ℕ) → Position → Spot
spot_at texts position = record {
  file = position.text;
  line = line_behind (bytes_before texts position);
  column = column_behind (bytes_before texts position);
}
