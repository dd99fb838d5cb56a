-- What keeps texts from filling a template.
use Rattle.std.specs.Prelude.{◌≡◌, ℕ, ◌+◌, ◌==◌, Bool, true, false, if◌then◌else◌, List, [], ◌∷◌, Option, Some, None, Result, Ok, Err, length}
use Rattle.std.specs.List.{list_all}
use Rattle.std.specs.Option.{option_or}
use Rattle.html_template.specs.FirstFault.{first_from}
use Rattle.html_template.specs.declared.faults.FillFault.{FillFault}
use Rattle.html_template.specs.declared.faults.FillFault.TheVariants as fill
use Rattle.html_template.specs.declared.faults.FillFault.TheVariants.{WrongCount, Memory}
use Rattle.html_template.specs.declared.faults.TextFault.{TextFault}
use Rattle.html_template.specs.declared.faults.TextFault.TheVariants.{EmptyUnquoted, EmptySegment, DotSegment, NotALink, NotAnOwnPath, NotABase, NotAnOwnBase, NotAStyleValue}
use Rattle.html_template.specs.declared.parts.SlotKind.{SlotKind}
use Rattle.html_template.specs.declared.parts.SlotKind.TheVariants.{Text, UrlPart, Link, OwnPath, Base, OwnBase, Literal, Json, StyleValue}
use Rattle.html_tokenizer.specs.declared.slot_place.SlotPlace.{SlotPlace}
use Rattle.html_tokenizer.specs.declared.slot_place.SlotPlace.TheVariants.{Unquoted}
use Rattle.html_tokenizer.specs.Declarations.{is_style_byte}
use Rattle.html_template.specs.Templates.{Chunk, Markup, Slot}
use Rattle.html_urls.specs.Bases.{is_base, is_own_base}
use Rattle.html_urls.specs.Links.{is_link}
use Rattle.html_urls.specs.OwnPaths.{is_own_path}
use Rattle.html_urls.specs.Slots as urls
use Rattle.html_urls.specs.declared.parts.UrlSlot.{UrlSlot}

-- ---- a text in its slot

-- an empty text where a value without quotes would be empty
abbrev pub empty_fault : SlotPlace → List ℕ → Option TextFault
empty_fault Unquoted [] = Some EmptyUnquoted
empty_fault other text = None

-- a text that no segment of a path may begin with
abbrev pub segment_fault : UrlSlot → List ℕ → Option TextFault
segment_fault slot text =
    if urls.may_fill slot text then None
    else (if length text == 0 then Some EmptySegment
    else Some DotSegment)

-- the fault of a text in a slot
abbrev pub text_fault : SlotPlace → SlotKind → List ℕ → Option TextFault
text_fault p Text text = empty_fault p text
text_fault p (UrlPart slot) text = segment_fault slot text
text_fault p Link text = if is_link text then None else Some NotALink
text_fault p OwnPath text = if is_own_path text then None else Some NotAnOwnPath
text_fault p (Base behind) text = if is_base behind text then None else Some NotABase
text_fault p (OwnBase behind) text = if is_own_base behind text then None else Some NotAnOwnBase
text_fault p Literal text = None
text_fault p Json text = None
text_fault p StyleValue text = if list_all is_style_byte text then None else Some NotAStyleValue

-- ---- all of them

-- the fault of each text in its slot, as far as there are both
abbrev pub text_faults : List Chunk → List (List ℕ) → List (Option TextFault)
text_faults [] texts = []
text_faults (Markup bytes ∷ chunks) texts = text_faults chunks texts
text_faults (Slot p kind ∷ chunks) [] = []
text_faults (Slot p kind ∷ chunks) (text ∷ texts) = text_fault p kind text ∷ text_faults chunks texts

-- a slot is left without a text, or a text without a slot
abbrev pub count_fault : List Chunk → List (List ℕ) → Option FillFault
count_fault [] [] = None
count_fault [] (text ∷ texts) = Some WrongCount
count_fault (Markup bytes ∷ chunks) texts = count_fault chunks texts
count_fault (Slot p kind ∷ chunks) [] = Some WrongCount
count_fault (Slot p kind ∷ chunks) (text ∷ texts) = count_fault chunks texts

-- the first fault of the texts, of which the first has this number, and then that of their count
abbrev pub fill_from : ℕ → List Chunk → List (List ℕ) → Option FillFault
fill_from number chunks texts = option_or (first_from fill.Text number (text_faults chunks texts)) (count_fault chunks texts)

abbrev pub fill_fault : List Chunk → List (List ℕ) → Option FillFault
fill_fault chunks texts = fill_from 0 chunks texts

-- ---- before there are texts

-- how many slots there are
abbrev pub slot_count : List Chunk → ℕ
slot_count [] = 0
slot_count (Markup bytes ∷ chunks) = slot_count chunks
slot_count (Slot p kind ∷ chunks) = slot_count chunks + 1

abbrev pub is_unquoted : SlotPlace → Bool
is_unquoted Unquoted = true
is_unquoted other = false

-- some text may not fill a slot of this kind
abbrev pub is_checked : SlotPlace → SlotKind → Bool
is_checked p Text = is_unquoted p
is_checked p (UrlPart slot) = slot.begins_segment
is_checked p Literal = false
is_checked p Json = false
is_checked p begins = true

-- and one of the slots is such a one
abbrev pub has_checked : List Chunk → Bool
has_checked [] = false
has_checked (Markup bytes ∷ chunks) = has_checked chunks
has_checked (Slot p kind ∷ chunks) = if is_checked p kind then true else has_checked chunks

-- ---- the answer

-- the first fault is answered, and where there is none no other one but Memory
abbrev pub AnswersFill : {T : Type 0} → Option FillFault → Result T FillFault → Type 0
AnswersFill fault (Ok done) = fault ≡ None
AnswersFill fault (Err Memory) = fault ≡ None
AnswersFill fault (Err other) = fault ≡ Some other
