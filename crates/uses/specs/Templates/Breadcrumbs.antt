-- The way to a page, as links.
use Rattle.std.specs.Prelude.{ℕ, true, List, [], ◌∷◌, ◌++◌, codes}
use Rattle.html_escape.specs.Words.{encoded}
use Rattle.html_escape.specs.declared.encoder.Encoder.TheVariants as encoder
use Rattle.html_template.specs.FilledUrls.{Parts, TemplateUrl}
use Rattle.html_template.specs.Words.{Chunk, Markup, Slot}
use Rattle.html_template.specs.declared.parts.SlotKind.TheVariants.{Text, UrlPart}
use Rattle.html_tokenizer.specs.declared.slot_place.SlotPlace.TheVariants as place
use Rattle.html_urls.specs.Words.{component}
use Rattle.html_urls.specs.Slots as url
use Rattle.html_urls.specs.declared.place.UrlPlace.TheVariants.{Path}
use Rattle.uses.specs.declared.templates.breadcrumbs.Crumb.{Crumb}

-- the pieces of a crumb: a segment of a path, and text
abbrev pub crumb_pieces : List Chunk
crumb_pieces =
    Markup (codes "<a href=\"/") ∷ Slot place.DoubleQuoted (UrlPart (record { place = Path; begins_segment = true })) ∷
    Markup (codes "\">") ∷ Slot place.Text Text ∷ Markup (codes "</a> / ") ∷ []

-- its URLs: one, of markup and the segment
abbrev pub crumb_urls : List TemplateUrl
crumb_urls = Parts (url.Markup (codes "/") ∷ url.Slot Path ∷ url.Markup [] ∷ []) ∷ []

-- a crumb, byte by byte
abbrev pub crumb_text : Crumb → List ℕ
crumb_text crumb =
    codes "<a href=\"/" ++ (component crumb.path.now ++ (codes "\">" ++ (encoded encoder.Text crumb.name.now ++ codes "</a> / ")))
