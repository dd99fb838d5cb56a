-- What is written of the slots and sections of a view.
use Rattle.std.specs.Prelude.{ℕ, List, [], ◌∷◌, ◌++◌, ◌==◌, Bool, true, false, Option, Some, None, codes, length}
use Rattle.std.specs.List.{concat, flat_map}
use Rattle.html_template.specs.declared.parts.SlotKind.{SlotKind}
use Rattle.html_template.specs.declared.parts.SlotKind.TheVariants.{Text, UrlPart, Link, OwnPath, Base, OwnBase, Literal, Json, StyleValue}
use Rattle.html_tokenizer.specs.declared.slot_place.SlotPlace.{SlotPlace}
use Rattle.html_tokenizer.specs.declared.slot_place.SlotPlace.TheVariants as at
use Rattle.html_urls.specs.declared.place.UrlPlace.{UrlPlace}
use Rattle.html_urls.specs.declared.place.UrlPlace.TheVariants.{Path, OpaquePath, Query, Fragment}
use Rattle.html_view.specs.Kept.{slot_of}
use Rattle.html_view.specs.declared.node.Times.{Times}
use Rattle.html_view.specs.declared.node.Times.TheVariants.{Attributes, Each, Given, If, Once, Whether}
use Rattle.html_view.specs.declared.placed.Named.{Named}
use Rattle.html_view.specs.declared.placed.Opened.{Opened}
use Rattle.html_view.specs.declared.placed.Placed.{Placed}
use Rattle.html_view.specs.declared.placed.PlacedNode.{PlacedNode, fold-PlacedNode}
use Rattle.html_view.specs.declared.placed.PlacedNode.TheOpen.{PlacedNode-F}
use Rattle.hesc_specs.specs.Text.Ascii.{line_feed}

-- ---- slots

-- the word for a place, behind a blank
abbrev pub place_word : SlotPlace → List ℕ
place_word at.Text = codes " text"
place_word at.DoubleQuoted = codes " double-quoted"
place_word at.SingleQuoted = codes " single-quoted"
place_word at.Unquoted = codes " unquoted"
place_word at.ScriptSingle = codes " script-single"
place_word at.ScriptDouble = codes " script-double"
place_word at.StyleSingle = codes " style-single"
place_word at.StyleDouble = codes " style-double"

abbrev pub url_word : UrlPlace → List ℕ
url_word Path = codes " path"
url_word OpaquePath = codes " opaque-path"
url_word Query = codes " query"
url_word Fragment = codes " fragment"

-- the word for a part of a URL, a whole one or its beginning, for a string literal, for JSON and in a declaration, behind a blank
abbrev pub kind_word : SlotKind → List ℕ
kind_word Text = []
kind_word Link = codes " link"
kind_word OwnPath = codes " own-path"
kind_word (Base behind) = codes " base"
kind_word (OwnBase behind) = codes " own-base"
kind_word Literal = codes " literal"
kind_word Json = codes " json"
kind_word StyleValue = codes " style-value"
kind_word (UrlPart slot) = url_word slot.place

abbrev pub slot_line : {A : Type 0} → Placed A → List ℕ
slot_line slot = slot.asked.name.now ++ (place_word (slot_of slot).place ++ (kind_word (slot_of slot).kind ++ line_feed ∷ []))

abbrev pub fragment_line : {A : Type 0} → Named A → List ℕ
fragment_line slot = slot.name.now ++ (codes " fragment" ++ line_feed ∷ [])

-- ---- sections

-- the line of a tag that has this sign, if it has one
abbrev pub tag_line : {A : Type 0} → Option (List ℕ) → Named A → List ℕ
tag_line None tag = []
tag_line (Some sign) tag = sign ++ (tag.name.now ++ line_feed ∷ [])

-- by whether there is no body, and nothing that stands where it does not: `{{^x}}` alone has no tag for a body, and a section that
-- stands around others of its name has none of its own
abbrev pub body_sign : Times → Bool → Bool → Option (List ℕ)
body_sign Each bodiless always = Some (codes "#")
body_sign Once bodiless always = Some (codes "#")
body_sign If true false = None
body_sign If bodiless always = Some (codes "?")
body_sign Whether bodiless always = None
body_sign Given bodiless always = Some (codes "?")
body_sign Attributes bodiless always = None

abbrev pub otherwise_sign : Bool → Option (List ℕ)
otherwise_sign true = None
otherwise_sign false = Some (codes "^")

abbrev pub has_none : {X : Type 0} → List X → Bool
has_none xs = length xs == 0

-- a slot between attributes has no sign, and nothing is told of its body, which has each attribute
abbrev pub attributes_line : {A : Type 0} → Named A → List ℕ
attributes_line tag = tag.name.now ++ (codes " attributes" ++ line_feed ∷ [])

-- by the sign of the tag and the lines of the body
abbrev pub body_lines : {A : Type 0} → Times → Named A → Option (List ℕ) → List ℕ → List ℕ
body_lines Attributes tag sign body = attributes_line tag
body_lines other tag sign body = tag_line sign tag ++ body

-- by the lines of its nodes
abbrev pub section_lines : {A : Type 0} → Opened A → List (List ℕ) → List (List ℕ) → List ℕ
section_lines opened body otherwise =
    body_lines opened.times opened.tag (body_sign opened.times (has_none body) (has_none otherwise)) (concat body)
    ++ (tag_line (otherwise_sign (has_none otherwise)) opened.tag ++ concat otherwise)

-- ---- nodes

abbrev pub line_step : {A : Type 0} → PlacedNode-F A (List ℕ) → List ℕ
line_step (PlacedNode-F.Markup markup) = []
line_step (PlacedNode-F.Slot slot) = slot_line slot
line_step (PlacedNode-F.Fragment slot) = fragment_line slot
line_step (PlacedNode-F.Section opened body otherwise) = section_lines opened body.items otherwise.items

abbrev pub node_lines : {A : Type 0} → PlacedNode A → List ℕ
node_lines {A} = fold-PlacedNode A (List ℕ) line_step

-- a line for each slot and each tag of a section, in the order of the page
abbrev pub lines_of : {A : Type 0} → List (PlacedNode A) → List ℕ
lines_of nodes = flat_map node_lines nodes
