-- The attributes that a record may give to an element, and the nodes that write them.
use Rattle.std.specs.Prelude.{ℕ, Bool, true, false, ◌&&◌, ◌||◌, List, [], ◌∷◌, ◌++◌, Option, Some, None, bytes_eq, codes, if◌then◌else◌}
use Rattle.std.specs.List.{list_any}
use Rattle.html_view.specs.Data.{Datum, Fields, Flag, Fragment, Items, Nothing, Number, Record, Text, bare, field}
use Rattle.html_view.specs.Names.{words_of}
use Rattle.html_view.specs.Nodes as node
use Rattle.html_view.specs.Nodes.{Asked, Nodes, Opening, Words}
use Rattle.html_view.specs.declared.attributes.Attribute.{Attribute}
use Rattle.html_view.specs.declared.faults.Position.{Position}
use Rattle.html_view.specs.declared.faults.ValueFault.{ValueFault}
use Rattle.html_view.specs.declared.faults.ValueFault.TheVariants.{Missing, NotAttributes}
use Rattle.html_view.specs.declared.node.Times.{Times}
use Rattle.html_view.specs.declared.node.Times.TheVariants.{Attributes, Given, Whether}

-- ---- their names: to the tokenizer each is ordinary on every element, so that any text may fill it

-- HTML Standard, 3.2.6 Global attributes, 4.8.17 Dimension attributes, 4.9.11 Attributes common to td and th elements, 4.10.5.3 Common
-- input element attributes, 4.10.18 Attributes common to form controls; WAI-ARIA 1.2, 6.6 Definitions of States and Properties, 8.1 Role
-- Attribute
unfoldable pub text_names : List (List ℕ)
text_names =
    codes "id" ∷ codes "class" ∷ codes "title" ∷ codes "lang" ∷ codes "dir" ∷ codes "tabindex" ∷ codes "draggable" ∷
    codes "spellcheck" ∷ codes "inputmode" ∷ codes "name" ∷ codes "value" ∷ codes "placeholder" ∷ codes "autocomplete" ∷
    codes "min" ∷ codes "max" ∷ codes "step" ∷ codes "minlength" ∷ codes "maxlength" ∷ codes "pattern" ∷ codes "size" ∷
    codes "rows" ∷ codes "cols" ∷ codes "label" ∷ codes "alt" ∷ codes "width" ∷ codes "height" ∷ codes "colspan" ∷
    codes "rowspan" ∷ codes "scope" ∷ codes "start" ∷ codes "datetime" ∷ codes "role" ∷ codes "aria-checked" ∷
    codes "aria-controls" ∷ codes "aria-current" ∷ codes "aria-describedby" ∷ codes "aria-disabled" ∷ codes "aria-expanded" ∷
    codes "aria-haspopup" ∷ codes "aria-hidden" ∷ codes "aria-invalid" ∷ codes "aria-label" ∷ codes "aria-labelledby" ∷
    codes "aria-live" ∷ codes "aria-modal" ∷ codes "aria-pressed" ∷ codes "aria-required" ∷ codes "aria-selected" ∷
    codes "aria-sort" ∷ codes "aria-valuemax" ∷ codes "aria-valuemin" ∷ codes "aria-valuenow" ∷ []

-- HTML Standard, 2.3.2 Boolean attributes
unfoldable pub flag_names : List (List ℕ)
flag_names =
    codes "autofocus" ∷ codes "checked" ∷ codes "disabled" ∷ codes "hidden" ∷ codes "inert" ∷ codes "multiple" ∷ codes "open" ∷
    codes "readonly" ∷ codes "required" ∷ codes "reversed" ∷ codes "selected" ∷ []

-- ---- the record

abbrev pub is_one : List (List ℕ) → List ℕ → Bool
is_one names name = list_any (λ one. bytes_eq one name) names

-- a text or a number for an attribute that has one, a flag for any, and nothing, which leaves it out
abbrev pub is_attribute : List ℕ → Datum → Bool
is_attribute name Nothing = is_one text_names name || is_one flag_names name
is_attribute name (Flag flag) = is_one text_names name || is_one flag_names name
is_attribute name (Text text) = is_one text_names name
is_attribute name (Number text) = is_one text_names name
is_attribute name (Fragment markup whole) = false
is_attribute name (Items items) = false
is_attribute name (Record fields) = false

abbrev pub are_attributes : Fields → Bool
are_attributes bare = true
are_attributes (field name value fields) = is_attribute name value && are_attributes fields

abbrev pub attributes_fault : Option Datum → Option ValueFault
attributes_fault None = Some Missing
attributes_fault (Some Nothing) = Some Missing
attributes_fault (Some (Text text)) = Some NotAttributes
attributes_fault (Some (Number text)) = Some NotAttributes
attributes_fault (Some (Flag flag)) = Some NotAttributes
attributes_fault (Some (Fragment markup whole)) = Some NotAttributes
attributes_fault (Some (Items items)) = Some NotAttributes
attributes_fault (Some (Record fields)) = if are_attributes fields then None else Some NotAttributes

-- why a value is refused, whether the section would stand for it or not
abbrev pub refused_for : Times → Option Datum → Option ValueFault
refused_for Attributes value = attributes_fault value
refused_for other value = None

-- ---- the nodes

abbrev pub opened_at : Words → Position → Times → Opening
opened_at name position times = record { name = name; position = position; times = times }

-- a member of the innermost value
abbrev pub member : List ℕ → Words
member name = [] ∷ name ∷ []

-- the text of an attribute that has one
abbrev pub value_of : Times → Position → Nodes Asked → Nodes Asked
value_of Given position after = node.Slot (record { name = []; position = position }) after
value_of other position after = after

-- where the record has it ` name="`, its text and `"`
abbrev pub attribute : Times → Position → List ℕ → Nodes Asked → Nodes Asked
attribute times position name rest =
    node.Section (opened_at (member name) position times)
    (node.Markup (codes " " ++ (name ++ codes "=\"")) (value_of times position (node.Markup (codes "\"") node.End))) node.End rest

abbrev pub all_of : Times → Position → List (List ℕ) → Nodes Asked → Nodes Asked
all_of times position [] rest = rest
all_of times position (name ∷ names) rest = attribute times position name (all_of times position names rest)

-- a slot between attributes: each attribute that its record may have
abbrev pub attributes : Asked → Nodes Asked → Nodes Asked
attributes slot rest =
    node.Section (opened_at slot.name slot.position Attributes)
    (all_of Given slot.position text_names (all_of Whether slot.position flag_names node.End)) node.End rest

-- ---- as the code has them

abbrev pub of_row : Times → Position → Attribute → Nodes Asked → Nodes Asked
of_row times position row rest =
    node.Section (opened_at (words_of row.member.now) position times)
    (node.Markup row.markup.now (value_of times position (node.Markup (codes "\"") node.End))) node.End rest

abbrev pub of_rows : Times → Position → List Attribute → Nodes Asked → Nodes Asked
of_rows times position [] rest = rest
of_rows times position (row ∷ rows) rest = of_row times position row (of_rows times position rows rest)
