-- The data that a value stands for.
use Rattle.std.specs.Prelude.{ℕ, List, [], ◌∷◌, map}
use Rattle.std.specs.Borrow.{Bor}
use Rattle.html_view.specs.Data.{Datum, Fields, Flag, Fragment, ItemList, Items, Nothing, Number, Record, Stack, Text, bare, field, item, no_items}
use Rattle.html_template.specs.Fragments.{markup_of}
use Rattle.json.specs.Value.{items_view, members_view}
use Rattle.html_view.specs.JsonData.{fields_of_json, items_of_json}
use Rattle.html_view.specs.declared.data.Around as around
use Rattle.html_view.specs.declared.data.Around.{Around, Inside'}
use Rattle.html_view.specs.declared.data.Fields as named
use Rattle.html_view.specs.declared.data.Fields.TheVariants as form
use Rattle.html_view.specs.declared.data.Items as listed
use Rattle.html_view.specs.declared.data.Items.TheVariants as kind
use Rattle.html_view.specs.declared.data.Value.{Value, fold-Value}
use Rattle.html_view.specs.declared.data.Value.TheOpen.{Value-F}

abbrev pub item_list : List Datum → ItemList
item_list [] = no_items
item_list (value ∷ values) = item value (item_list values)

abbrev pub field_list : List (Bor (List ℕ) × Datum) → Fields
field_list [] = bare
field_list (named ∷ others) = field named.0.now named.1 (field_list others)

-- one level, with each value inside already seen as its data
abbrev pub datum_step : Value-F Datum → Datum
datum_step Value-F.Null = Nothing
datum_step (Value-F.Text text) = Text text.now
datum_step (Value-F.Number text) = Number text.now
datum_step (Value-F.Flag flag) = Flag flag
datum_step (Value-F.Fragment fragment) = Fragment (markup_of fragment) fragment.whole
datum_step (Value-F.List values) = Items (item_list values.now)
datum_step (Value-F.Record fields) = Record (field_list fields.now)
datum_step (Value-F.Array items) = Items (items_of_json (items_view items.now))
datum_step (Value-F.Object members) = Record (fields_of_json (members_view members.now))

abbrev pub datum_of : Value → Datum
datum_of = fold-Value Datum datum_step

abbrev pub items_of : List Value → ItemList
items_of values = item_list (map datum_of values)

abbrev pub fields_of : List (Bor (List ℕ) × Value) → Fields
fields_of fields = field_list (map (λ named. (named.0, datum_of named.1)) fields)

abbrev pub items_in : listed.Items → ItemList
items_in (kind.List values) = items_of values.now
items_in (kind.Array items) = items_of_json (items_view items.now)

abbrev pub fields_in : named.Fields → Fields
fields_in (form.Record fields) = fields_of fields.now
fields_in (form.Object members) = fields_of_json (members_view members.now)

-- what is around, the innermost first
abbrev pub stack_of : Around → Stack
stack_of around.Nothing = []
stack_of (Inside' value p outer) = datum_of value ∷ stack_of outer
