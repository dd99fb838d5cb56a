-- A way: what may have been read where a node stands.
use Rattle.std.specs.Prelude.{◌≡◌, ℕ, true, false, List, [], ◌++◌, ◌==◌, Option, Some, Result, Ok, Err, if◌then◌else◌, length}
use Rattle.html_template.specs.OpenUrls.{url_markup}
use Rattle.html_template.specs.TemplateFaults.{slot_at}
use Rattle.html_template.specs.Templates.{after_slot}
use Rattle.html_template.specs.declared.faults.PartFault.{PartFault}
use Rattle.html_template.specs.declared.faults.PartFault.TheVariants.{Malformed}
use Rattle.html_template.specs.declared.open_url.OpenUrl.{OpenUrl}
use Rattle.html_template.specs.declared.open_url.OpenUrl.TheVariants.{Outside, Whole, Front}
use Rattle.html_template.specs.declared.open_url.PlacedSlot.{PlacedSlot}
use Rattle.html_tokenizer.specs.Standing.{is_refused, may_end, standing}
use Rattle.html_tokenizer.specs.Tokenizer.States.{Tokenizer, data_state}
use Rattle.html_tokenizer.specs.Tokenizer.Tokenization.{state_after}
use Rattle.html_tokenizer.specs.UrlValues.{is_of_urls}
use Rattle.html_urls.specs.Bases.{behind_base}
use Rattle.html_urls.specs.declared.base.BehindBase.{BehindBase}

-- the tokenizer, the markup since the last slot, and what was open of a URL or a declaration with slots at that slot.
-- Outside of URLs, and of lists of them, the markup so far is let go
pub record Way : Type 0 where
  pub tokenizer : Tokenizer
  pub markup : List ℕ
  pub url : OpenUrl

abbrev pub first_way : Way
first_way = record { tokenizer = data_state; markup = []; url = Outside }

-- goes on, unless there is a fault
abbrev pub on_ok : {A B F : Type 0} → Result A F → (A → Result B F) → Result B F
on_ok (Ok found) go_on = go_on found
on_ok (Err fault) go_on = Err fault

-- ---- markup

abbrev pub behind : Way → List ℕ → Way
behind way bytes = record { tokenizer = state_after way.tokenizer bytes; markup = way.markup ++ bytes; url = way.url }

-- no URL with slots is open behind the markup: it is let go
abbrev pub let_go : Way → OpenUrl → Way
let_go way Outside = record { tokenizer = way.tokenizer; markup = []; url = Outside }
let_go way other = way

abbrev pub settled : Way → Result Way PartFault
settled way = if is_of_urls way.tokenizer.attribute then Ok way else on_ok (url_markup way.url way.markup) (λ url. Ok (let_go way url))

abbrev pub way_behind : Way → List ℕ → Result Way PartFault
way_behind way bytes =
    if is_refused (state_after way.tokenizer bytes).state then Err Malformed else settled (behind way bytes)

-- ---- slots

abbrev pub slot_in : Way → OpenUrl → Result PlacedSlot PartFault
slot_in way url = slot_at way.markup url (standing way.tokenizer)

-- where a slot stands, on this way
abbrev pub way_slot : Way → Result PlacedSlot PartFault
way_slot way =
    if is_refused way.tokenizer.state then Err Malformed else on_ok (url_markup way.url way.markup) (slot_in way)

-- before markup, where it was open whether the slot before is a base: its first byte tells
abbrev pub url_as : OpenUrl → Option BehindBase → OpenUrl
url_as (Whole p) (Some behind) = Front p behind
url_as url following = url

abbrev pub turned : Way → List ℕ → Way
turned way bytes =
    if length way.markup == 0 then record { tokenizer = way.tokenizer; markup = way.markup; url = url_as way.url (behind_base bytes) } else way

abbrev pub past_slot : Way → PlacedSlot → Way
past_slot way slot = record { tokenizer = after_slot slot.place slot.kind way.tokenizer; markup = []; url = slot.url }

-- ---- the end

-- a page may end on this way
pub record MayEnd (way : Way) : Type 0 where
  pub may : may_end way.tokenizer ≡ true
  pub read : is_refused way.tokenizer.state ≡ false
  pub url : OpenUrl
  pub told : url_markup way.url way.markup ≡ Ok url

-- it would end within a tag, a reference or an element
pub record EndsWithin (way : Way) : Type 0 where
  pub may_not : may_end way.tokenizer ≡ false
  pub read : is_refused way.tokenizer.state ≡ false
  pub url : OpenUrl
  pub told : url_markup way.url way.markup ≡ Ok url
