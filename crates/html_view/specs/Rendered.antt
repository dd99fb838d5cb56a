-- What data makes of nodes: an unrolling, and the texts of its slots; or the first fault.
use Rattle.std.specs.Prelude.{ℕ, List, [], ◌∷◌, ◌++◌, Bool, true, false, Option, Some, None, Result, Ok, Err, codes, if◌then◌else◌}
use Rattle.html_template.specs.FillFaults.{text_fault}
use Rattle.html_template.specs.Templates.{Chunk, Markup, page}
use Rattle.html_template.specs.declared.faults.TextFault.{TextFault}
use Rattle.html_template.specs.declared.parts.SlotKind.{SlotKind}
use Rattle.html_template.specs.declared.parts.SlotKind.TheVariants.{Json}
use Rattle.html_view.specs.Attributes.{refused_for}
use Rattle.html_view.specs.Data.{Datum, Stack, look_up, stacks}
use Rattle.html_view.specs.Data as data_of
use Rattle.html_view.specs.JsonTexts.{json_text}
use Rattle.html_view.specs.Nodes as node
use Rattle.html_view.specs.Nodes.{Asked, Nodes, Opening, Placed}
use Rattle.html_view.specs.Unrolled.{chunk_of}
use Rattle.html_view.specs.Ways.{on_ok}
use Rattle.html_view.specs.declared.faults.Position.{Position}
use Rattle.html_view.specs.declared.faults.ValueFault.{ValueFault}
use Rattle.html_view.specs.declared.faults.ValueFault.TheVariants.{Missing, NotAFragment, NotAText, NotJson, Repeated, Unfit}
use Rattle.html_view.specs.declared.node.Times.{Times}
use Rattle.html_view.specs.declared.node.Times.TheVariants.{Each}

pub record Unrolling : Type 0 where
  pub pieces : List Chunk
  pub texts : List (List ℕ)

abbrev pub no_unrolling : Unrolling
no_unrolling = record { pieces = []; texts = [] }

-- where a value is refused, and why
abbrev pub Fault : Type 0
Fault = Position × ValueFault

abbrev pub Unrolled : Type 0
Unrolled = Result Unrolling Fault

-- ---- slots

-- a flag, as JSON writes it
abbrev pub flag_text : Bool → List ℕ
flag_text true = codes "true"
flag_text false = codes "false"

abbrev pub fitting : Placed → List ℕ → Option TextFault → Result (List ℕ) Fault
fitting slot text None = Ok text
fitting slot text (Some fault) = Err (slot.asked.position, Unfit fault)

abbrev pub fitted : Placed → List ℕ → Result (List ℕ) Fault
fitted slot text = fitting slot text (text_fault slot.place slot.kind text)

-- the text of a slot that is none for JSON
abbrev pub plain_text_for : Placed → Option Datum → Result (List ℕ) Fault
plain_text_for slot None = Err (slot.asked.position, Missing)
plain_text_for slot (Some data_of.Nothing) = Err (slot.asked.position, Missing)
plain_text_for slot (Some (data_of.Text text)) = fitted slot text
plain_text_for slot (Some (data_of.Number text)) = fitted slot text
plain_text_for slot (Some (data_of.Flag flag)) = fitted slot (flag_text flag)
plain_text_for slot (Some (data_of.Fragment markup whole)) = Err (slot.asked.position, NotAText)
plain_text_for slot (Some (data_of.Items items)) = Err (slot.asked.position, NotAText)
plain_text_for slot (Some (data_of.Record fields)) = Err (slot.asked.position, NotAText)

-- that of a slot for JSON is the JSON of the data
abbrev pub json_or_fault : Placed → Option (List ℕ) → Result (List ℕ) Fault
json_or_fault slot (Some json) = Ok json
json_or_fault slot None = Err (slot.asked.position, NotJson)

abbrev pub json_for : Placed → Option Datum → Result (List ℕ) Fault
json_for slot None = Err (slot.asked.position, Missing)
json_for slot (Some value) = json_or_fault slot (json_text value)

abbrev pub is_json : SlotKind → Bool
is_json Json = true
is_json other = false

-- the text of a slot
abbrev pub text_for : Placed → Option Datum → Result (List ℕ) Fault
text_for slot value = if is_json slot.kind then json_for slot value else plain_text_for slot value

-- the markup of a slot for a fragment
abbrev pub fragment_for : Asked → Option Datum → Result (List ℕ) Fault
fragment_for slot None = Err (slot.position, Missing)
fragment_for slot (Some data_of.Nothing) = Err (slot.position, Missing)
fragment_for slot (Some (data_of.Fragment markup whole)) = Ok markup
fragment_for slot (Some other) = Err (slot.position, NotAFragment)

-- ---- nodes

abbrev pub put_markup : List ℕ → Unrolling → Unrolled
put_markup bytes rest = Ok (record { pieces = Markup bytes ∷ rest.pieces; texts = rest.texts })

abbrev pub put_text : Placed → List ℕ → Unrolling → Unrolled
put_text slot text rest = Ok (record { pieces = chunk_of slot ∷ rest.pieces; texts = text ∷ rest.texts })

abbrev pub put_front : Unrolling → Unrolling → Unrolled
put_front front rest = Ok (record { pieces = front.pieces ++ rest.pieces; texts = front.texts ++ rest.texts })

-- a body, once with each of these around
abbrev pub unrolled_each : (Stack → Unrolled) → List Stack → Unrolled
unrolled_each body [] = Ok no_unrolling
unrolled_each body (stack ∷ stacks) = on_ok (body stack) (λ front. on_ok (unrolled_each body stacks) (put_front front))

-- more often than once only where it may be repeated
abbrev pub unrolled_times : Opening → Times → (Stack → Unrolled) → Stack → List Stack → Unrolled
unrolled_times opening Each body stack stacks = unrolled_each body (stack ∷ stacks)
unrolled_times opening other body stack [] = body stack
unrolled_times opening other body stack (another ∷ stacks) = Err (opening.position, Repeated)

-- or else what stands where it does not; but first why its value is refused
abbrev pub unrolled_section : Opening → Option ValueFault → (Stack → Unrolled) → Unrolled → List Stack → Unrolled
unrolled_section opening (Some why) body otherwise stacks = Err (opening.position, why)
unrolled_section opening None body otherwise [] = otherwise
unrolled_section opening None body otherwise (stack ∷ stacks) = unrolled_times opening opening.times body stack stacks

abbrev pub unrolled : Nodes Placed → Stack → Unrolled
unrolled node.End stack = Ok no_unrolling
unrolled (node.Markup bytes rest) stack = on_ok (unrolled rest stack) (put_markup bytes)
unrolled (node.Slot slot rest) stack =
    on_ok (text_for slot (look_up slot.asked.name stack)) (λ text. on_ok (unrolled rest stack) (put_text slot text))
unrolled (node.Fragment slot rest) stack =
    on_ok (fragment_for slot (look_up slot.name stack)) (λ markup. on_ok (unrolled rest stack) (put_markup markup))
unrolled (node.Section opening body otherwise rest) stack =
    on_ok
    (unrolled_section opening (refused_for opening.times (look_up opening.name stack)) (λ inner. unrolled body inner) (unrolled otherwise stack)
    (stacks opening.times (look_up opening.name stack) stack))
    (λ front. on_ok (unrolled rest stack) (put_front front))

-- the page of data
abbrev pub rendered : Unrolling → List ℕ
rendered found = page found.pieces found.texts
