-- The lines in which what is read from a page or a form is written.
use Rattle.std.specs.Prelude.{ℕ, List, [], ◌∷◌, ◌++◌, decimal, length}
use Rattle.std.specs.List.{flat_map}
use Rattle.hesc_specs.specs.Text.Ascii.{line_feed, space}
use Rattle.hesc_places.specs.Pages.AttributeReadings.{Entry}
use Rattle.hesc_places.specs.Pages.FormReadings.{FormRead}
use Rattle.hesc_places.specs.Pages.PageReadings.{PageRead}
use Rattle.hesc_commands.specs.Names.{quoting_name}

-- the length in decimal, a space, the value, and a line feed
abbrev pub value_line : List ℕ → List ℕ
value_line value = decimal (length value) ++ (space ∷ (value ++ line_feed ∷ []))

-- the lines of the three values, in order
abbrev pub page_lines : PageRead → List ℕ
page_lines page = value_line page.first ++ (value_line page.second ++ value_line page.third)

-- the name, a space, the letter of the quoting, a space, and the value as above
abbrev pub attribute_line : Entry → List ℕ
attribute_line a = a.name ++ (space ∷ (quoting_name a.quoting ++ (space ∷ value_line a.value)))

-- the lines of the attributes, in order, and of the script string
abbrev pub form_lines : FormRead → List ℕ
form_lines form = flat_map attribute_line form.attributes ++ value_line form.script
