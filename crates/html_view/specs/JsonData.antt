-- The data that JSON has.
use Rattle.json.specs.Json as json
use Rattle.json.specs.Json.{Json}
use Rattle.html_view.specs.Data.{Datum, Fields, Flag, ItemList, Items, Nothing, Number, Record, Text, bare, field, item, no_items}

abbrev mutual
  pub datum_of_json : Json → Datum
  datum_of_json json.null = Nothing
  datum_of_json (json.boolean flag) = Flag flag
  datum_of_json (json.number text) = Number text
  datum_of_json (json.string text) = Text text
  datum_of_json (json.array items) = Items (items_of_json items)
  datum_of_json (json.object members) = Record (fields_of_json members)

  pub items_of_json : json.Items → ItemList
  items_of_json json.no_items = no_items
  items_of_json (json.item value items) = item (datum_of_json value) (items_of_json items)

  pub fields_of_json : json.Members → Fields
  fields_of_json json.no_members = bare
  fields_of_json (json.member name value members) = field name (datum_of_json value) (fields_of_json members)
