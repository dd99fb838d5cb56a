-- What is put for a slot, by whether it is one for JSON.
use Rattle.std.proofs.Common.{ℕ, ◌≡◌, true, false, List, ◌++◌, Option, Some, None, Result, Ok, Err, refl, sym, ap, ◌∙◌, subst}
use Rattle.hesc_specs.specs.Text.Beginning.{TookBeginning}
use Rattle.html_json.specs.Encoding.{json_encoding}
use Rattle.html_view.specs.Data.{Datum, Stack, look_up}
use Rattle.html_view.specs.JsonTexts.{json_text}
use Rattle.html_view.specs.Nodes as node
use Rattle.html_view.specs.Nodes.{Nodes, Placed}
use Rattle.html_view.specs.Putting.{PutBeginning, PutFront, PutsFront}
use Rattle.html_view.specs.PuttingJson.{PutJson, PutsJson}
use Rattle.html_view.specs.Rendered.{Fault, is_json, json_for, json_or_fault, plain_text_for, put_text, text_for, unrolled}
use Rattle.html_view.specs.Ways.{on_ok}
use Rattle.html_view.specs.declared.faults.ValueFault.TheVariants.{NotJson}
use Rattle.html_view.specs.declared.unroll.Stop.{Stop}
use Rattle.html_view.specs.declared.unroll.Stop.TheVariants.{Failed, Refused}
use Rattle.html_view.proofs.JsonTexts.{value_written}
use Rattle.html_view.proofs.Putting.{text_begun, text_put}
use Rattle.html_view.proofs.Unrolling.{found_in}

plain_told : (slot : Placed) (value : Option Datum) → is_json slot.kind ≡ false → text_for slot value ≡ plain_text_for slot value
plain_told slot value is = rw is refl

json_told : (slot : Placed) (value : Option Datum) → is_json slot.kind ≡ true → text_for slot value ≡ json_for slot value
json_told slot value is = rw is refl

-- what a slot that is none for JSON is told
pub plain_found : (slot : Placed) (stack : Stack) (value : Option Datum) (text : List ℕ) → is_json slot.kind ≡ false → value ≡ look_up slot.asked.name stack →
    plain_text_for slot value ≡ Ok text → text_for slot (look_up slot.asked.name stack) ≡ Ok text
plain_found slot stack value text is means told = ap (text_for slot) (sym means) ∙ plain_told slot value is ∙ told

text_refused : (slot : Placed) (stack : Stack) (fault : Fault) → text_for slot (look_up slot.asked.name stack) ≡ Err fault → (rest : Nodes Placed) →
    unrolled (node.Slot slot rest) stack ≡ Err fault
text_refused slot stack fault told rest = rw told refl

pub plain_refused : (slot : Placed) (stack : Stack) (value : Option Datum) (fault : Fault) → is_json slot.kind ≡ false → value ≡ look_up slot.asked.name stack →
    plain_text_for slot value ≡ Err fault → (rest : Nodes Placed) → unrolled (node.Slot slot rest) stack ≡ Err fault
plain_refused slot stack value fault is means told rest =
    text_refused slot stack fault (ap (text_for slot) (sym means) ∙ plain_told slot value is ∙ told) rest

-- and what one for JSON is told
json_found : (slot : Placed) (stack : Stack) (value : Option Datum) → is_json slot.kind ≡ true → value ≡ look_up slot.asked.name stack →
    text_for slot (look_up slot.asked.name stack) ≡ json_for slot value
json_found slot stack value is means = ap (text_for slot) (sym means) ∙ json_told slot value is

pub json_refused : (slot : Placed) (stack : Stack) (value : Option Datum) (fault : Fault) → is_json slot.kind ≡ true → value ≡ look_up slot.asked.name stack →
    json_for slot value ≡ Err fault → (rest : Nodes Placed) → unrolled (node.Slot slot rest) stack ≡ Err fault
json_refused slot stack value fault is means told rest = text_refused slot stack fault (json_found slot stack value is means ∙ told) rest

no_json : (slot : Placed) (value : Datum) → json_text value ≡ None → json_for slot (Some value) ≡ Err (slot.asked.position, NotJson)
no_json slot value none = ap (json_or_fault slot) none

json_put : (slot : Placed) (stack : Stack) (value : Datum) (old new : List ℕ) → is_json slot.kind ≡ true → Some value ≡ look_up slot.asked.name stack →
    PutJson (json_text value) old new → PutFront (λ rest. unrolled (node.Slot slot rest) stack) stack old new
json_put slot stack value old new is means put =
    text_put slot stack put.text old new (json_found slot stack (Some value) is means ∙ ap (json_or_fault slot) put.same) put.utf8
    (put.taken ∙ ap (λ l. old ++ l) (sym (value_written slot.place slot.kind value put.text is put.same)))

json_in : (slot : Placed) (json : Option (List ℕ)) (text : List ℕ) → json_or_fault slot json ≡ Ok text → json ≡ Some text
json_in slot (Some found) text told = let same : found ≡ text = cc in ap Some same
json_in slot None text told = absurd (cc)

json_begun : (slot : Placed) (stack : Stack) (value : Datum) (old new : List ℕ) → is_json slot.kind ≡ true → Some value ≡ look_up slot.asked.name stack →
    ((text : List ℕ) → json_text value ≡ Some text → TookBeginning old new (json_encoding text)) → (rest : Nodes Placed) →
    PutBeginning (unrolled (node.Slot slot rest) stack) old new
json_begun slot stack value old new is means began rest found told =
    let one = found_in (text_for slot (look_up slot.asked.name stack)) (λ text. on_ok (unrolled rest stack) (put_text slot text)) found told in
    let some = json_in slot (json_text value) one.value (sym (json_found slot stack (Some value) is means) ∙ one.is) in
    text_begun slot stack one.value old new one.is
    (subst (TookBeginning old new) (sym (value_written slot.place slot.kind value one.value is some)) (began one.value some)) rest found told

-- of a value, whether it is put, begun or refused
pub json_puts : {F : Type 0} (slot : Placed) (stack : Stack) (value : Datum) (old new : List ℕ) (result : Result (Unit {0}) (Stop F)) → is_json slot.kind ≡ true →
    Some value ≡ look_up slot.asked.name stack → PutsJson (json_text value) old new result →
    PutsFront (λ rest. unrolled (node.Slot slot rest) stack) stack old new (record { position = slot.asked.position; why = NotJson }) result
json_puts slot stack value old new (Ok done) is means puts = json_put slot stack value old new is means puts
json_puts slot stack value old new (Err Refused) is means puts =
    json_refused slot stack (Some value) (slot.asked.position, NotJson) is means (no_json slot value puts)
json_puts slot stack value old new (Err (Failed fault)) is means puts = json_begun slot stack value old new is means puts
