-- A slot: how a text is written in it and what the tokenizer reads there, and which texts may fill it.
use Rattle.std.specs.Prelude.{◌≡◌, ◌≢◌, ⊤, ℕ, Bool, true, false, ◌&&◌, if◌then◌else◌, List, [], ◌∷◌, ◌++◌, codes, length}
use Rattle.std.specs.List.{list_all}
use Rattle.hesc_specs.specs.Text.Ascii.{double_quote}
use Rattle.html_escape.specs.Encoders.{encoded}
use Rattle.hesc_places.specs.Places.ReadBack.{read_back}
use Rattle.html_tokenizer.specs.declared.reader.Standing.{Standing}
use Rattle.html_tokenizer.specs.declared.reader.Standing.TheVariants.{Stands, InUrl, InLink, InListedUrl, InDeclaration, InScript, InJson}
use Rattle.html_tokenizer.specs.declared.slot_place.SlotPlace.{SlotPlace}
use Rattle.html_tokenizer.specs.declared.slot_place.SlotPlace.TheVariants as place
use Rattle.html_tokenizer.specs.declared.slot_place.SlotPlace.TheVariants.{DoubleQuoted, SingleQuoted, Unquoted, ScriptDouble}
use Rattle.html_tokenizer.specs.Declarations.{is_style_byte}
use Rattle.html_tokenizer.specs.Standing.{is_same, past_json, standing}
use Rattle.html_tokenizer.specs.Tokenizer.Actions.{Action, StringEnd, StringStart}
use Rattle.html_tokenizer.specs.Tokenizer.Code.Scripts.{is_json_space}
use Rattle.html_tokenizer.specs.Tokenizer.States.{In, Tokenizer, at_value, refused}
use Rattle.html_json.specs.Encoding.{json_encoding}
use Rattle.html_urls.specs.Bases.{is_base, is_own_base}
use Rattle.html_urls.specs.Components.{component_at}
use Rattle.html_urls.specs.Links.{is_link}
use Rattle.html_urls.specs.OwnPaths.{is_own_path}
use Rattle.html_urls.specs.Slots as urls
use Rattle.html_urls.specs.declared.base.BehindBase.{BehindBase}
use Rattle.html_template.specs.Encoders.{encoder_for}
use Rattle.html_template.specs.declared.parts.SlotKind.{SlotKind}
use Rattle.html_template.specs.declared.parts.SlotKind.TheVariants.{Text, UrlPart, Link, OwnPath, Base, OwnBase, Literal, Json, StyleValue}

-- between two `"`
abbrev pub in_quotes : List ℕ → List ℕ
in_quotes bytes = double_quote ∷ (bytes ++ double_quote ∷ [])

-- the JSON that stands for a text: white space alone is none
abbrev pub json_of : List ℕ → List ℕ
json_of text = if list_all is_json_space text then codes "null" else text

-- a part of a URL is written as its place has it, which needs no encoding in any value; else the encoder of its place writes the text, of a string
-- literal between its quote marks, and JSON by its own encoder
abbrev pub written : SlotPlace → SlotKind → List ℕ → List ℕ
written p (UrlPart slot) text = component_at slot.place text
written p Literal text = in_quotes (encoded (encoder_for p) text)
written p Json text = json_encoding (json_of text)
written p other text = encoded (encoder_for p) text

-- what the tokenizer is handed of the text
abbrev pub handed : SlotPlace → SlotKind → List ℕ → List ℕ
handed p (UrlPart slot) text = component_at slot.place text
handed p Json text = json_encoding (json_of text)
handed p other text = read_back (encoder_for p) text

-- a value without quotes is not empty
abbrev pub FitsPlace : SlotPlace → List ℕ → Type 0
FitsPlace Unquoted text = length text ≢ 0
FitsPlace other text = ⊤

-- a whole URL is a link, and an own path where the page runs what it leads to, or goes on there
abbrev pub whole_kind : Bool → SlotKind
whole_kind is_followed = if is_followed then Link else OwnPath

-- and with markup behind it that goes on with it so, a base, and there one of the page's own host
abbrev pub base_kind : BehindBase → SlotKind → SlotKind
base_kind behind Link = Base behind
base_kind behind OwnPath = OwnBase behind
base_kind behind other = other

-- a URL may begin with this text
abbrev pub MayBegin : SlotKind → List ℕ → Type 0
MayBegin Link text = is_link text ≡ true
MayBegin OwnPath text = is_own_path text ≡ true
MayBegin (Base behind) text = is_base behind text ≡ true
MayBegin (OwnBase behind) text = is_own_base behind text ≡ true
MayBegin other text = ⊥

-- a text that begins a segment of a path is not empty, and neither `.` nor `..`; one in a declaration is of bytes of a style's value
abbrev pub MayFill : SlotPlace → SlotKind → List ℕ → Type 0
MayFill p Text text = FitsPlace p text
MayFill p (UrlPart slot) text = urls.may_fill slot text ≡ true
MayFill p Literal text = ⊤
MayFill p Json text = ⊤
MayFill p StyleValue text = list_all is_style_byte text ≡ true
MayFill p begins text = MayBegin begins text

-- the value of an attribute in quotes
abbrev pub is_quoted : SlotPlace → Bool
is_quoted DoubleQuoted = true
is_quoted SingleQuoted = true
is_quoted other = false

-- a slot of this kind may stand so
abbrev pub suits : SlotKind → SlotPlace → Standing → Bool
suits Text p (Stands q) = is_same p q
suits (UrlPart slot) p (InUrl q) = is_same p q
suits (UrlPart slot) p (InLink q) = is_same p q
suits (UrlPart slot) p (InListedUrl q) = is_same p q
suits Link p (InLink q) = is_quoted p && is_same p q
suits OwnPath p (InUrl q) = is_quoted p && is_same p q
suits (Base behind) p (InLink q) = is_quoted p && is_same p q
suits (OwnBase behind) p (InUrl q) = is_quoted p && is_same p q
suits Literal p InScript = is_same p ScriptDouble
suits Json p InJson = is_same p place.Text
suits StyleValue p (InDeclaration q) = is_same p q
suits kind p other = false

-- behind a slot the tokenizer is in its place, behind a string literal where it was, and behind JSON where no slot follows
abbrev pub past_slot : SlotPlace → SlotKind → Tokenizer → Tokenizer
past_slot p Literal t = t
past_slot p Json t = past_json t
past_slot p other t = at_value (In p) t.content t.attribute

-- the tokenizer after a slot, by the template alone
abbrev pub after_slot : SlotPlace → SlotKind → Tokenizer → Tokenizer
after_slot p kind t = if suits kind p (standing t) then past_slot p kind t else refused

-- what is done at a slot whose text is read so: a string literal begins before it and ends behind it
abbrev pub slot_actions : SlotKind → List Action → List Action
slot_actions Literal read = StringStart ∷ (read ++ StringEnd ∷ [])
slot_actions other read = read
