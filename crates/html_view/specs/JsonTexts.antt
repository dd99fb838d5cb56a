-- The JSON of data, which is what a slot for JSON takes.
use Rattle.std.specs.Prelude.{ℕ, List, [], ◌∷◌, ◌++◌, Bool, true, false, Option, Some, None, option_map, if◌then◌else◌, codes}
use Rattle.json.specs.Json as json
use Rattle.json.specs.Json.{Json}
use Rattle.json.specs.Print.{print, print_from, quoted}
use Rattle.json.specs.Tree.{items_tokens, json_tokens, members_tokens}
use Rattle.json.specs.Word.{after_number}
use Rattle.html_view.specs.Data.{Datum, Fields, Flag, Fragment, ItemList, Items, Nothing, Number, Record, Text, bare, field, item, no_items}

-- nothing is left behind a number
abbrev pub is_end : Option (List ℕ) → Bool
is_end None = false
is_end (Some []) = true
is_end (Some (b ∷ rest)) = false

-- RFC 8259, 6 Numbers
abbrev pub is_number : List ℕ → Bool
is_number text = is_end (after_number text)

-- a number that is none of JSON is a string
abbrev pub number_json : List ℕ → Json
number_json text = if is_number text then json.number text else json.string text

-- where there are both
abbrev pub both : {A B C : Type 0} → (A → B → C) → Option A → Option B → Option C
both f (Some first) (Some second) = Some (f first second)
both f (Some first) None = None
both f None second = None

-- a list is an array, and named values are an object with as many members, in their order; a fragment has no JSON, and so has nothing
-- around it
abbrev mutual
  pub json_of : Datum → Option Json
  json_of Nothing = Some json.null
  json_of (Text text) = Some (json.string text)
  json_of (Number text) = Some (number_json text)
  json_of (Flag flag) = Some (json.boolean flag)
  json_of (Fragment markup whole) = None
  json_of (Items items) = option_map json.array (items_json items)
  json_of (Record fields) = option_map json.object (members_json fields)

  pub items_json : ItemList → Option json.Items
  items_json no_items = Some json.no_items
  items_json (item value items) = both json.item (json_of value) (items_json items)

  pub members_json : Fields → Option json.Members
  members_json bare = Some json.no_members
  members_json (field name value fields) = both (json.member name) (json_of value) (members_json fields)

-- as the crate `json` writes it
abbrev pub json_text : Datum → Option (List ℕ)
json_text value = option_map (λ j. print (json_tokens j)) (json_of value)

-- before another item or member
abbrev pub comma : Bool → List ℕ
comma after = if after then codes "," else []

-- a name, with what is around it
abbrev pub key_text : Bool → List ℕ → List ℕ
key_text after name = comma after ++ (quoted name ++ codes ":")

-- what follows the first bracket, or another item or member
abbrev pub items_text : Bool → ItemList → Option (List ℕ)
items_text after items = option_map (λ js. print_from after (items_tokens js)) (items_json items)

abbrev pub members_text : Bool → Fields → Option (List ℕ)
members_text after fields = option_map (λ ms. print_from after (members_tokens ms)) (members_json fields)
