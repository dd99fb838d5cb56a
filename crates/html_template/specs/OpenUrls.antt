-- URLs that hold slots: what the markup before a slot, between slots and behind them may be.
-- A value in quotes holds its own quote mark nowhere, and one without quotes neither `=` nor white space: so the value so far is
-- what stands after the last of these bytes, and it ends before the next byte that ends it. A URL of a list in quotes holds white space and commas
-- nowhere, either.
pub mod PlainTexts
pub mod UrlTexts
use Rattle.std.specs.Prelude.{ℕ, Bool, true, false, not, ◌&&◌, ◌||◌, ◌==◌, List, [], ◌∷◌, Option, Some, None, Result, Ok, Err, bytes_eq, codes, drop, if◌then◌else◌, length, nat_lt, take}
use Rattle.std.specs.List.{position_or_len}
use Rattle.std.specs.Option.{option_and_then}
use Rattle.hesc_specs.specs.Text.Ascii.{semicolon}
use Rattle.html_tokenizer.specs.declared.slot_place.SlotPlace.{SlotPlace}
use Rattle.html_tokenizer.specs.Declarations.{bang, comma, is_style_byte}
use Rattle.html_tokenizer.specs.UrlValues.{after_last, begins_url, closes_url, ends_value, url_text}
use Rattle.html_urls.specs.Bases.{behind_base, goes_as, open_behind}
use Rattle.html_urls.specs.Images.{is_image_front}
use Rattle.html_urls.specs.OpenParts.{after_markup, after_text, is_unfixed, may_be_dots, open_of, slot_at}
use Rattle.html_urls.specs.Slots.{is_plain}
use Rattle.html_urls.specs.declared.base.BehindBase.{BehindBase}
use Rattle.html_urls.specs.declared.base.BehindBase.TheVariants.{Slash, Tail, Segment}
use Rattle.html_urls.specs.declared.open_part.OpenPart.{OpenPart}
use Rattle.html_urls.specs.declared.open_part.OpenPart.TheVariants.{NewSegment}
use Rattle.html_urls.specs.declared.parts.UrlSlot.{UrlSlot}
use Rattle.html_template.specs.declared.faults.PartFault.{PartFault}
use Rattle.html_template.specs.declared.faults.PartFault.TheVariants.{NotPlain, NotFixed, DotSegment, AfterLink, AfterStyleValue}
use Rattle.html_template.specs.declared.open_url.OpenUrl.{OpenUrl}
use Rattle.html_template.specs.declared.open_url.OpenUrl.TheVariants.{Outside, Within, Listed, Whole, Front, Declaration}
use Rattle.html_template.specs.declared.open_url.PlacedSlot.{PlacedSlot}
use Rattle.html_template.specs.declared.parts.SlotKind.TheVariants as kind
use Rattle.html_template.specs.Slots.{base_kind, is_quoted, whole_kind}

-- what markup adds to a URL, which ends behind it or goes on, if it has no white space, no control, no `\` and no reference but `&amp;`, and leaves
-- no escape open where the URL goes on
abbrev pub if_plain : Bool → List ℕ → Option (List ℕ)
if_plain is_ended text = if is_plain text is_ended then Some text else None

abbrev pub plain_text : Bool → List ℕ → Option (List ℕ)
plain_text is_ended markup = option_and_then (if_plain is_ended) (url_text is_ended markup)

-- this part of a URL is open, by whether it is one of a list
abbrev pub within : Bool → SlotPlace → OpenPart → OpenUrl
within false p part = Within p part
within true p part = Listed p part

-- a slot where this part of a URL is open
abbrev pub at_open : Bool → SlotPlace → OpenPart → Option UrlSlot → Result PlacedSlot PartFault
at_open is_listed p part None = Err DotSegment
at_open is_listed p part (Some slot) = Ok (record { place = p; kind = kind.UrlPart slot; url = within is_listed p (after_text part) })

abbrev pub in_part : Bool → SlotPlace → Option OpenPart → Result PlacedSlot PartFault
in_part is_listed p None = Err NotFixed
in_part is_listed p (Some part) = at_open is_listed p part (slot_at part)

-- a slot that is a whole URL, if it stands in quotes and is none of a list: of what its element only shows or follows, or of what the page runs
abbrev pub whole_slot : Bool → SlotPlace → Bool → Result PlacedSlot PartFault
whole_slot true p is_followed = Err NotFixed
whole_slot false p is_followed =
    if is_quoted p then Ok (record { place = p; kind = whole_kind is_followed; url = Whole p }) else Err NotFixed

-- and where the markup that follows it goes on with a URL, it is a base: its kind alone looks ahead, and no fault does
abbrev pub begun : PlacedSlot → OpenUrl → Option BehindBase → PlacedSlot
begun slot (Whole p) (Some behind) = record { place = slot.place; kind = base_kind behind slot.kind; url = Front p behind }
begun slot other following = slot

abbrev pub before : List ℕ → PlacedSlot → PlacedSlot
before next slot = begun slot slot.url (behind_base next)

-- what is open behind this text: the image of a `data:` URL only where its element only shows or follows the URL
abbrev pub open_at : Bool → List ℕ → Option OpenPart
open_at is_followed text = if is_followed || not (is_image_front text) then open_of text else None

-- behind the text that the markup before adds to the URL
abbrev pub behind_text : Bool → SlotPlace → Bool → Option (List ℕ) → Result PlacedSlot PartFault
behind_text is_listed p is_followed None = Err NotPlain
behind_text is_listed p is_followed (Some text) = in_part is_listed p (open_at is_followed text)

-- the first slot of a URL, behind this markup
abbrev pub first_slot : Bool → SlotPlace → Bool → Option (List ℕ) → Result PlacedSlot PartFault
first_slot is_listed p is_followed None = Err NotFixed
first_slot is_listed p is_followed (Some []) = whole_slot is_listed p is_followed
first_slot is_listed p is_followed (Some (b ∷ markup)) = behind_text is_listed p is_followed (plain_text false (b ∷ markup))

-- a slot behind a base that ends in `/`, as one does with the `/` behind it, and behind one directly
abbrev pub behind_front : SlotPlace → BehindBase → Result PlacedSlot PartFault
behind_front p Segment = in_part false p (Some NewSegment)
behind_front p Slash = Err AfterLink
behind_front p Tail = Err AfterLink

-- a slot in a URL, where this is the part before it
abbrev pub url_slot : Bool → SlotPlace → Bool → List ℕ → OpenUrl → Result PlacedSlot PartFault
url_slot is_listed p is_followed markup Outside = first_slot is_listed p is_followed (after_last (begins_url is_listed p) markup)
url_slot is_listed p is_followed markup (Within q part) = in_part is_listed p (Some part)
url_slot is_listed p is_followed markup (Listed q part) = in_part is_listed p (Some part)
url_slot is_listed p is_followed markup (Whole q) = Err AfterLink
url_slot is_listed p is_followed markup (Front q behind) = behind_front p behind
url_slot is_listed p is_followed markup (Declaration q) = Err AfterStyleValue

-- ---- markup behind a slot

-- how many bytes of it are of the URL
abbrev pub url_length : Bool → SlotPlace → List ℕ → ℕ
url_length is_listed p markup = position_or_len (closes_url is_listed p) markup

-- at the end of the URL, or of the markup before
abbrev pub url_end : Bool → SlotPlace → Bool → OpenPart → Result OpenUrl PartFault
url_end is_listed p is_ended part =
    if is_ended then (if may_be_dots part then Err DotSegment else Ok Outside) else Ok (within is_listed p part)

abbrev pub behind_part : Bool → SlotPlace → Bool → Option OpenPart → Result OpenUrl PartFault
behind_part is_listed p is_ended None = Err DotSegment
behind_part is_listed p is_ended (Some part) = url_end is_listed p is_ended part

abbrev pub behind_slot : Bool → SlotPlace → OpenPart → Bool → Option (List ℕ) → Result OpenUrl PartFault
behind_slot is_listed p part is_ended None = Err NotPlain
behind_slot is_listed p part is_ended (Some text) =
    if is_unfixed part text then Err NotFixed else behind_part is_listed p is_ended (after_markup part text)

abbrev pub part_markup : Bool → SlotPlace → OpenPart → List ℕ → Result OpenUrl PartFault
part_markup is_listed p part markup =
    behind_slot is_listed p part (nat_lt (url_length is_listed p markup) (length markup))
    (plain_text (nat_lt (url_length is_listed p markup) (length markup)) (take (url_length is_listed p markup) markup))

-- behind the URL of a list: where commas end it, white space or the end of the value comes behind them. A comma before another byte is one of the URL
abbrev pub behind_comma : SlotPlace → List ℕ → Bool
behind_comma p [] = false
behind_comma p (b ∷ markup) = if b == comma then behind_comma p markup else closes_url true p b

abbrev pub ends_listed : SlotPlace → List ℕ → Bool
ends_listed p [] = true
ends_listed p (b ∷ markup) = if b == comma then behind_comma p markup else true

-- a slot that is a whole URL is all of the value
abbrev pub behind_link : SlotPlace → List ℕ → Result OpenUrl PartFault
behind_link p [] = Ok (Whole p)
behind_link p (b ∷ markup) = if ends_value p b then Ok Outside else Err AfterLink

-- behind a base, the URL goes on as it was taken for. With a `/` that stands alone the base is one that ends in `/`: no second one may follow
abbrev pub is_slash : List ℕ → Bool
is_slash text = bytes_eq text (codes "/")

abbrev pub behind_base_text : SlotPlace → BehindBase → Bool → List ℕ → Result OpenUrl PartFault
behind_base_text p behind is_ended text =
    if not is_ended && is_slash text then Ok (Front p Segment) else behind_part false p is_ended (after_markup (open_behind behind) text)

abbrev pub after_base : SlotPlace → BehindBase → Bool → Option (List ℕ) → Result OpenUrl PartFault
after_base p behind is_ended None = Err NotPlain
after_base p behind is_ended (Some text) = if goes_as behind text then behind_base_text p behind is_ended text else Err AfterLink

-- behind a slot in the value of a declaration: up to the `;` or the quote mark that ends it stand bytes of a style's value and `!`
abbrev pub behind_value : SlotPlace → List ℕ → Result OpenUrl PartFault
behind_value p [] = Ok (Declaration p)
behind_value p (b ∷ markup) =
    if b == semicolon || ends_value p b then Ok Outside
    else (if is_style_byte b || b == bang then behind_value p markup
    else Err AfterStyleValue)

-- after markup
abbrev pub url_markup : OpenUrl → List ℕ → Result OpenUrl PartFault
url_markup Outside markup = Ok Outside
url_markup (Within p part) markup = part_markup false p part markup
url_markup (Listed p part) markup =
    if ends_listed p (drop (url_length true p markup) markup) then part_markup true p part markup else Err NotPlain
url_markup (Whole p) markup = behind_link p markup
url_markup (Front p behind) markup =
    after_base p behind (nat_lt (url_length false p markup) (length markup))
    (plain_text (nat_lt (url_length false p markup) (length markup)) (take (url_length false p markup) markup))
url_markup (Declaration p) markup = behind_value p markup
