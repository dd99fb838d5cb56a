-- The form of data: the same names, flags and fragments, lists that are as long, and texts and numbers that are empty where the others are.
use Rattle.std.specs.Prelude.{◌≡◌, ⊤}
use Rattle.html_view.specs.Data.{Datum, Fields, Flag, Fragment, ItemList, Items, Nothing, Number, Record, Text, field, is_filled, item, bare, no_items}

abbrev mutual
  pub SameForm : Datum → Datum → Type 0
  SameForm Nothing Nothing = ⊤
  SameForm (Text text) (Text other) = is_filled text ≡ is_filled other
  SameForm (Text text) (Number other) = is_filled text ≡ is_filled other
  SameForm (Number text) (Text other) = is_filled text ≡ is_filled other
  SameForm (Number text) (Number other) = is_filled text ≡ is_filled other
  SameForm (Flag flag) (Flag other) = flag ≡ other
  SameForm (Fragment markup whole) (Fragment other is) = markup ≡ other
  SameForm (Items items) (Items others) = SameItems items others
  SameForm (Record fields) (Record others) = SameFields fields others
  SameForm value another = ⊥

  pub SameItems : ItemList → ItemList → Type 0
  SameItems no_items no_items = ⊤
  SameItems (item value items) (item other others) = SameForm value other × SameItems items others
  SameItems items others = ⊥

  pub SameFields : Fields → Fields → Type 0
  SameFields bare bare = ⊤
  SameFields (field name value fields) (field same other others) = (name ≡ same) × SameForm value other × SameFields fields others
  SameFields fields others = ⊥
