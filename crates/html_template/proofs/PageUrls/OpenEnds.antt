-- Where a URL with a slot is open no template ends, no text that is none of a URL stands, and no slot stands behind a whole one.
use Rattle.std.proofs.Common.{◌≡◌, Bool, refl, sym, ◌∙◌}
use Rattle.std.proofs.lemmas.Bool.{true≢false}
use Rattle.html_tokenizer.specs.declared.reader.Standing.TheVariants.{Stands, InDeclaration, InScript, InJson}
use Rattle.html_tokenizer.specs.declared.slot_place.SlotPlace.{SlotPlace}
use Rattle.html_tokenizer.specs.declared.slot_place.SlotPlace.TheVariants as place
use Rattle.html_tokenizer.specs.Standing.{standing}
use Rattle.html_tokenizer.specs.Tokenizer.States.{Tokenizer}
use Rattle.html_tokenizer.proofs.UrlValues.Attributes.{open_url_is, url_of_urls}
use Rattle.html_template.proofs.PageUrls.Opening.{StandsAt}
use Rattle.html_template.proofs.PageUrls.TextSlots.{json_stands_apart, literal_stands_apart, style_stands_apart, text_stands_apart}
use Rattle.html_template.proofs.Walks.{same_itself}

-- no text
pub no_text_stands : (listed : Bool) (p q : SlotPlace) (t : Tokenizer) → standing t ≡ Stands q → StandsAt listed p t → ⊥
no_text_stands listed p q t is stands = true≢false (sym (url_of_urls t.attribute (open_url_is listed t.attribute stands.attribute_is)) ∙ (text_stands_apart q t (rw is (same_itself q))).no_url)

pub no_literal_stands : (listed : Bool) (p : SlotPlace) (t : Tokenizer) → standing t ≡ InScript → StandsAt listed p t → ⊥
no_literal_stands listed p t is stands = true≢false (sym (url_of_urls t.attribute (open_url_is listed t.attribute stands.attribute_is)) ∙ (literal_stands_apart place.ScriptDouble t (rw is refl)).no_url)

pub no_json_stands : (listed : Bool) (p : SlotPlace) (t : Tokenizer) → standing t ≡ InJson → StandsAt listed p t → ⊥
no_json_stands listed p t is stands = true≢false (sym (url_of_urls t.attribute (open_url_is listed t.attribute stands.attribute_is)) ∙ (json_stands_apart place.Text t (rw is refl)).no_url)

pub no_style_stands : (listed : Bool) (p q : SlotPlace) (t : Tokenizer) → standing t ≡ InDeclaration q → StandsAt listed p t → ⊥
no_style_stands listed p q t is stands = true≢false (sym (url_of_urls t.attribute (open_url_is listed t.attribute stands.attribute_is)) ∙ (style_stands_apart q t (rw is (same_itself q))).no_url)
