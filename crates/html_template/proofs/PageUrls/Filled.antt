-- What is proved of a template from one place on: the URLs there, which the texts fill, and how the URL that is open goes on.
use Rattle.std.proofs.Common.{ℕ, ◌≡◌, true, List, [], ◌∷◌, ◌++◌, IsUtf8, Ok, ap, ◌∙◌, append_assoc, drop, map, take}
use Rattle.std.specs.List.{AllByRecursion}
use Rattle.html_template.specs.declared.parts.SlotKind.{SlotKind}
use Rattle.html_template.specs.FilledUrls.{FillUrls, Fixed, OneSlot, Slotted, TemplateUrl, Value, Whole, filled_urls, slots_in, url_texts, urls_behind, begun_texts}
use Rattle.html_template.specs.PageUrls.{FirstText, first_texts}
use Rattle.html_template.specs.Templates.{Chunk, Fill, page}
use Rattle.html_tokenizer.specs.Tokenizer.States.{Tokenizer}
use Rattle.html_tokenizer.specs.UrlValues.{urls_from}
use Rattle.html_urls.specs.Bases.{goes_on_so, open_behind}
use Rattle.html_urls.specs.Shapes.{front_of}
use Rattle.html_urls.specs.Slots as part
use Rattle.html_urls.specs.Slots.{FillSlots, Given, later_slots, placed, url_of}
use Rattle.html_urls.specs.declared.base.BehindBase.{BehindBase}
use Rattle.html_urls.specs.declared.open_part.OpenPart.{OpenPart}
use Rattle.html_urls.specs.declared.parts.UrlSlot.{UrlSlot}

-- the URLs that are found are these, filled by the texts, of which those that are whole URLs are the template's
pub record IsFilled (found : List (List ℕ)) (whole : List FirstText) (urls : List TemplateUrl) (texts : List (List ℕ)) : Type 0 where
  pub same : found ≡ filled_urls urls texts
  pub full : FillUrls urls texts
  pub whole_same : whole ≡ begun_texts urls texts

-- URLs without slots before them
pub fixed_before : (fixed found : List (List ℕ)) (whole : List FirstText) (urls : List TemplateUrl) (texts : List (List ℕ)) → IsFilled found whole urls texts →
    IsFilled (fixed ++ found) whole (map Fixed fixed ++ urls) texts
fixed_before [] found whole urls texts is = is
fixed_before (url ∷ fixed) found whole urls texts is =
    let more = fixed_before fixed found whole urls texts is in
    record { same = ap (λ others. url ∷ others) more.same; full = more.full; whole_same = more.whole_same }

-- this URL ends first
pub record EndsFirst (found : List (List ℕ)) (whole : List FirstText) (value : List ℕ) (later : List TemplateUrl) (texts : List (List ℕ)) : Type 0 where
  pub others : List (List ℕ)
  pub same : found ≡ value ∷ others
  pub filled : IsFilled others whole later texts

pub ends_more : (value text more : List ℕ) {found next : List (List ℕ)} {whole : List FirstText} {later : List TemplateUrl} {texts : List (List ℕ)} → found ≡ next →
    EndsFirst next whole ((value ++ text) ++ more) later texts → EndsFirst found whole (value ++ (text ++ more)) later texts
ends_more value text more same ends = record {
  others = ends.others;
  same = same ∙ ends.same ∙ ap (λ url. url ∷ ends.others) (append_assoc value text more);
  filled = ends.filled;
}

-- ---- whatever texts fill the pieces

-- where no URL with a slot is open
pub record HasLater (t : Tokenizer) (value : List ℕ) (chunks : List Chunk) : Type 0 where
  pub urls : List TemplateUrl
  pub told : urls_behind t (Value value) chunks ≡ urls
  pub filled : (texts : List (List ℕ)) → Fill chunks texts → AllByRecursion IsUtf8 texts →
      IsFilled (urls_from t value (page chunks texts)) (first_texts chunks texts) urls (url_texts chunks texts)

-- where the URL that is open goes on with this text and ends
pub record EndsBehind (t : Tokenizer) (text : List ℕ) (chunks : List Chunk) : Type 0 where
  pub later : List TemplateUrl
  pub told : (kind : SlotKind) → urls_behind t (OneSlot kind) chunks ≡ Whole kind ∷ later
  pub ends : (value : List ℕ) (texts : List (List ℕ)) → Fill chunks texts → AllByRecursion IsUtf8 texts →
      EndsFirst (urls_from t value (page chunks texts)) (first_texts chunks texts) (value ++ text) later (url_texts chunks texts)

-- the same behind these parts of it
pub record EndsParts (t : Tokenizer) (text : List ℕ) (chunks : List Chunk) : Type 0 where
  pub end : EndsBehind t text chunks
  pub told : (url_by : List Given → TemplateUrl) (before : List Given) → urls_behind t (Slotted url_by before) chunks ≡ url_by (before ++ part.Markup text ∷ []) ∷ end.later

-- where it goes on with these parts, behind a slot in it
pub record GoesOn (part : OpenPart) (t : Tokenizer) (chunks : List Chunk) : Type 0 where
  pub parts : List Given
  pub slots : List UrlSlot
  pub stand : placed slots parts ≡ parts
  pub fixed : (number : ℕ) → later_slots number part parts ≡ Ok slots
  pub later : List TemplateUrl
  pub told : (url_by : List Given → TemplateUrl) (before : List Given) → urls_behind t (Slotted url_by before) chunks ≡ url_by (before ++ parts) ∷ later
  pub fits : (texts : List (List ℕ)) → Fill chunks texts → FillSlots slots (take (slots_in parts) (url_texts chunks texts))
  pub ends : (value : List ℕ) (texts : List (List ℕ)) → Fill chunks texts → AllByRecursion IsUtf8 texts →
      EndsFirst (urls_from t value (page chunks texts)) (first_texts chunks texts) (value ++ url_of parts (take (slots_in parts) (url_texts chunks texts)))
      later (drop (slots_in parts) (url_texts chunks texts))

-- the same behind a base, with which the URL goes on so
pub record GoesBehind (behind : BehindBase) (t : Tokenizer) (chunks : List Chunk) : Type 0 where
  pub on : GoesOn (open_behind behind) t chunks
  pub goes : goes_on_so behind (front_of on.parts) ≡ true
