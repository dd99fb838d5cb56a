-- The URLs of a template, and those of its pages: these, filled by the texts of its slots in URLs.
use Rattle.std.specs.Prelude.{◌≡◌, ⊤, ℕ, suc, List, [], ◌∷◌, ◌++◌, drop, map, take}
use Rattle.std.specs.List.{AllByRecursion}
use Rattle.std.specs.Str.{IsUtf8}
use Rattle.html_template.specs.declared.parts.SlotKind.{SlotKind}
use Rattle.html_template.specs.declared.parts.SlotKind.TheVariants as kind
use Rattle.html_template.specs.PageUrls.{FirstText, first_texts, urls_of}
use Rattle.html_template.specs.Slots.{MayBegin}
use Rattle.html_template.specs.TemplateFaults.{placed}
use Rattle.html_template.specs.Templates as template
use Rattle.html_template.specs.Templates.{Chunk, Fill, Markup, Slot, after_slot, page}
use Rattle.html_tokenizer.specs.Tokenizer.States.{Tokenizer, data_state}
use Rattle.html_tokenizer.specs.Tokenizer.Tokenization.{state_after}
use Rattle.html_tokenizer.specs.UrlValues.{open_url, urls_from}
use Rattle.html_urls.specs.Bases.{FillBehind}
use Rattle.html_urls.specs.Slots.{FillUrl, Given, url_of}
use Rattle.html_urls.specs.Slots as part

-- a URL of a template: without a slot, with slots between markup as the tokenizer reads it, one slot that is all of it, or the slot of a base
-- and these parts behind it
pub data TemplateUrl : Type 0 where
  Fixed : List ℕ → TemplateUrl
  Parts : List Given → TemplateUrl
  Whole : SlotKind → TemplateUrl
  Based : SlotKind → List Given → TemplateUrl

-- the texts of slots in URLs, in their order
abbrev pub url_text : SlotKind → List ℕ → List (List ℕ)
url_text kind.Text text = []
url_text kind.Literal text = []
url_text kind.Json text = []
url_text kind.StyleValue text = []
url_text other text = text ∷ []

abbrev pub url_texts : List Chunk → List (List ℕ) → List (List ℕ)
url_texts [] texts = []
url_texts (Markup bytes ∷ chunks) texts = url_texts chunks texts
url_texts (Slot p kind ∷ chunks) [] = url_texts chunks []
url_texts (Slot p kind ∷ chunks) (text ∷ texts) = url_text kind text ++ url_texts chunks texts

-- how many slots a URL has
abbrev pub slots_in : List Given → ℕ
slots_in [] = 0
slots_in (part.Markup bytes ∷ parts) = slots_in parts
slots_in (part.Slot at ∷ parts) = suc (slots_in parts)

-- the URLs, where each takes as many of the texts as it has slots
abbrev pub filled_urls : List TemplateUrl → List (List ℕ) → List (List ℕ)
filled_urls [] texts = []
filled_urls (Fixed url ∷ urls) texts = url ∷ filled_urls urls texts
filled_urls (Parts parts ∷ urls) texts = url_of parts (take (slots_in parts) texts) ∷ filled_urls urls (drop (slots_in parts) texts)
filled_urls (Whole kind ∷ urls) [] = filled_urls urls []
filled_urls (Whole kind ∷ urls) (text ∷ texts) = text ∷ filled_urls urls texts
filled_urls (Based kind parts ∷ urls) [] = url_of parts [] ∷ filled_urls urls []
filled_urls (Based kind parts ∷ urls) (text ∷ texts) =
    (text ++ url_of parts (take (slots_in parts) texts)) ∷ filled_urls urls (drop (slots_in parts) texts)

-- the texts fill the parts behind a base
abbrev pub FillBase : SlotKind → List Given → List (List ℕ) → Type 0
FillBase (kind.Base behind) parts texts = FillBehind behind parts texts
FillBase (kind.OwnBase behind) parts texts = FillBehind behind parts texts
FillBase other parts texts = ⊥

-- there is a text for each slot and no more: those of parts may fill them, and one with which a URL begins is one that its slot takes
abbrev pub FillUrls : List TemplateUrl → List (List ℕ) → Type 0
FillUrls [] [] = ⊤
FillUrls [] (text ∷ texts) = ⊥
FillUrls (Fixed url ∷ urls) texts = FillUrls urls texts
FillUrls (Parts parts ∷ urls) texts = FillUrl parts (take (slots_in parts) texts) × FillUrls urls (drop (slots_in parts) texts)
FillUrls (Whole kind ∷ urls) [] = ⊥
FillUrls (Whole kind ∷ urls) (text ∷ texts) = MayBegin kind text × FillUrls urls texts
FillUrls (Based kind parts ∷ urls) [] = ⊥
FillUrls (Based kind parts ∷ urls) (text ∷ texts) =
    MayBegin kind text × FillBase kind parts (take (slots_in parts) texts) × FillUrls urls (drop (slots_in parts) texts)

-- of the texts those with which URLs begin
abbrev pub begun_texts : List TemplateUrl → List (List ℕ) → List FirstText
begun_texts [] texts = []
begun_texts (Fixed url ∷ urls) texts = begun_texts urls texts
begun_texts (Parts parts ∷ urls) texts = begun_texts urls (drop (slots_in parts) texts)
begun_texts (Whole kind ∷ urls) [] = begun_texts urls []
begun_texts (Whole kind ∷ urls) (text ∷ texts) = (kind, text) ∷ begun_texts urls texts
begun_texts (Based kind parts ∷ urls) [] = begun_texts urls []
begun_texts (Based kind parts ∷ urls) (text ∷ texts) = (kind, text) ∷ begun_texts urls (drop (slots_in parts) texts)

-- the URLs of the page of these texts are these, filled by the texts of its slots in URLs; those with which URLs begin are those of such slots
pub record AreFilled (urls : List TemplateUrl) (chunks : List Chunk) (texts : List (List ℕ)) : Type 0 where
  pub same : urls_of (page chunks texts) ≡ filled_urls urls (url_texts chunks texts)
  pub full : FillUrls urls (url_texts chunks texts)
  pub first : first_texts chunks texts ≡ begun_texts urls (url_texts chunks texts)

-- ---- the URLs of a template, as the tokenizer reads them

-- what is open of a URL: its value so far; the parts so far of one with slots, and which URL all of them make; or a slot that is all of it
pub data OpenValue : Type 0 where
  Value : List ℕ → OpenValue
  Slotted : (List Given → TemplateUrl) → List Given → OpenValue
  OneSlot : SlotKind → OpenValue

-- the value so far where markup begins
abbrev pub value_before : OpenValue → List ℕ
value_before (Value value) = value
value_before other = []

-- the URLs that end in markup, of which the first is what was open
abbrev pub ended_urls : OpenValue → List (List ℕ) → List TemplateUrl
ended_urls (Value value) urls = map Fixed urls
ended_urls (Slotted url_by parts) [] = []
ended_urls (Slotted url_by parts) (url ∷ urls) = url_by (parts ++ part.Markup url ∷ []) ∷ map Fixed urls
ended_urls (OneSlot kind) [] = []
ended_urls (OneSlot kind) (url ∷ urls) = Whole kind ∷ map Fixed urls

-- what is open behind markup in which these URLs end, and this value is left
abbrev pub open_behind : OpenValue → List (List ℕ) → List ℕ → OpenValue
open_behind (Slotted url_by parts) [] value = Slotted url_by (parts ++ part.Markup value ∷ [])
open_behind (OneSlot kind) [] value = OneSlot kind
open_behind other urls value = Value value

-- and behind a slot
abbrev pub open_at_slot : OpenValue → SlotKind → OpenValue
open_at_slot held kind.Text = Value []
open_at_slot held kind.Literal = Value []
open_at_slot held kind.Json = Value []
open_at_slot held kind.StyleValue = Value []
open_at_slot (Value value) (kind.UrlPart slot) = Slotted Parts (part.Markup value ∷ part.Slot slot.place ∷ [])
open_at_slot (Slotted url_by parts) (kind.UrlPart slot) = Slotted url_by (parts ++ part.Slot slot.place ∷ [])
open_at_slot held (kind.Base behind) = Slotted (Based (kind.Base behind)) []
open_at_slot held (kind.OwnBase behind) = Slotted (Based (kind.OwnBase behind)) []
open_at_slot held whole = OneSlot whole

-- the URLs that end in these pieces
abbrev pub urls_behind : Tokenizer → OpenValue → List Chunk → List TemplateUrl
urls_behind t held [] = []
urls_behind t held (Markup bytes ∷ chunks) =
    ended_urls held (urls_from t (value_before held) bytes)
    ++ urls_behind (state_after t bytes) (open_behind held (urls_from t (value_before held) bytes) (open_url t (value_before held) bytes)) chunks
urls_behind t held (Slot p kind ∷ chunks) = urls_behind (after_slot p kind t) (open_at_slot held kind) chunks

abbrev pub piece_urls : List Chunk → List TemplateUrl
piece_urls chunks = urls_behind data_state (Value []) chunks

-- those of the template of these parts
abbrev pub template_urls : List template.Given → List TemplateUrl
template_urls parts = piece_urls (placed parts)

-- whatever texts fill the pieces, the URLs of the page are these, filled by them
abbrev pub HasUrls : List Chunk → Type 0
HasUrls chunks =
    (texts : List (List ℕ)) → Fill chunks texts → AllByRecursion IsUtf8 texts → AreFilled (piece_urls chunks) chunks texts

-- it is so of the page of these texts, and of any other page
pub record HasUrlsOf (chunks : List Chunk) (texts : List (List ℕ)) : Type 0 where
  pub here : AreFilled (piece_urls chunks) chunks texts
  pub any : HasUrls chunks
