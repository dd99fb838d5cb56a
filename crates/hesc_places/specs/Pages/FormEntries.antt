-- The attributes of a form that was read, as contracts see them.
use Rattle.std.specs.Prelude.{List, map}
use Rattle.hesc_places.specs.declared.markup.form_reader.Form.{Form}
use Rattle.hesc_places.specs.Pages.AttributeReadings.{Entry, entry}

abbrev pub entries_of : {A : Type 0} → Form A → List Entry
entries_of form = map (λ a. entry a.0.items a.1 a.2.items) form.attributes.items
