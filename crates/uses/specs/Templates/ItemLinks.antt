-- A link to an item, below the address under which a program stands.
use Rattle.std.specs.Prelude.{ℕ, true, List, [], ◌∷◌, ◌++◌, codes}
use Rattle.html_escape.specs.Words.{encoded}
use Rattle.html_escape.specs.declared.encoder.Encoder.TheVariants as encoder
use Rattle.html_template.specs.FilledUrls.{Based, TemplateUrl}
use Rattle.html_template.specs.Words.{Chunk, Markup, Slot}
use Rattle.html_template.specs.declared.parts.SlotKind.TheVariants.{Base, Text, UrlPart}
use Rattle.html_tokenizer.specs.declared.slot_place.SlotPlace.TheVariants as place
use Rattle.html_urls.specs.Words.{component}
use Rattle.html_urls.specs.Slots as url
use Rattle.html_urls.specs.declared.base.BehindBase.TheVariants.{Slash}
use Rattle.html_urls.specs.declared.place.UrlPlace.TheVariants.{Path}
use Rattle.uses.specs.declared.templates.item_links.Item.{Item}

-- its pieces: a base that goes on with a `/`, a segment of the path, and text
abbrev pub item_pieces : List Chunk
item_pieces =
    Markup (codes "<a href=\"") ∷ Slot place.DoubleQuoted (Base Slash) ∷ Markup (codes "/items/") ∷
    Slot place.DoubleQuoted (UrlPart (record { place = Path; begins_segment = true })) ∷ Markup (codes "\">") ∷ Slot place.Text Text ∷
    Markup (codes "</a>") ∷ []

-- its URLs: one, of the base and these parts behind it
abbrev pub item_urls : List TemplateUrl
item_urls = Based (Base Slash) (url.Markup (codes "/items/") ∷ url.Slot Path ∷ url.Markup [] ∷ []) ∷ []

abbrev pub item_url : Item → List ℕ
item_url item = item.base.now ++ (codes "/items/" ++ component item.id.now)

-- a link, byte by byte
abbrev pub item_text : Item → List ℕ
item_text item =
    codes "<a href=\"" ++ (encoded encoder.DoubleQuotedAttribute item.base.now ++ (codes "/items/" ++ (component item.id.now
    ++ (codes "\">" ++ (encoded encoder.Text item.name.now ++ codes "</a>")))))
