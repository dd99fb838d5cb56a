-- The pieces that are told of parts, one after the other.
pub mod FirstPieces
use Rattle.std.proofs.Common.{ℕ, ◌≡◌, ◌+◌, ◌<◌, true, false, List, [], ◌∷◌, ◌++◌, map, Ok, Err, Result, length, arith, refl, sym, ap, ◌∙◌, inl, inr}
use Rattle.html_tokenizer.specs.declared.elements.Content.{Content}
use Rattle.std.proofs.lemmas.Bool.Decides.{nat_tests}
use Rattle.std.specs.Prelude.{IfErr, OnOk}
use Rattle.std.proofs.lemmas.Bool.{cases_Bool}
use Rattle.std.proofs.lemmas.List.{map-append}
use Rattle.html_template.specs.declared.faults.TemplateFault.{TemplateFault}
use Rattle.html_template.specs.declared.faults.TemplateFault.TheVariants as fault
use Rattle.html_template.specs.declared.faults.TemplateFault.TheVariants.{Unfinished, Memory}
use Rattle.html_template.specs.declared.faults.PartFault.{PartFault}
use Rattle.html_template.specs.declared.faults.PartFault.TheVariants.{Malformed}
use Rattle.html_template.specs.declared.open_url.OpenUrl.{OpenUrl}
use Rattle.html_template.specs.declared.open_url.PlacedSlot.{PlacedSlot}
use Rattle.html_template.specs.declared.parts.Part.{Part}
use Rattle.html_template.specs.declared.stored.Stored.{Stored}
use Rattle.html_template.specs.declared.stored.StoredSlot.{StoredSlot}
use Rattle.html_template.specs.OpenUrls.{before, url_markup}
use Rattle.html_template.specs.TemplateFaults.{TakesMore, TakesPart, Told, Walk, at_beginning, behind_markup, behind_slot, faulty_part, next_markup, pieces_from, put, put_all, put_slot, slot_at, template_of, told_behind, told_of}
use Rattle.html_template.specs.Templates.{Chunk, Markup, Slot, Given, GivenMarkup, GivenSlot, chunk_of, given, part_of, state_after_all}
use Rattle.html_tokenizer.specs.Standing.{is_refused, may_end, standing, may_end_in}
use Rattle.html_tokenizer.specs.Tokenizer.States.{data_state, Attribute, State, Tokenizer, at_value}
use Rattle.html_tokenizer.specs.Tokenizer.Tokenization.{state_after}

-- a page may end in the data state alone
ends_there : (state : State) (content : Content) (attribute : Attribute) → may_end_in state content attribute ≡ true →
    at_value state content attribute ≡ data_state
ends_there state content attribute is = grind (arith, nat_tests)

pub ends_in_data : (t : Tokenizer) → may_end t ≡ true → t ≡ data_state
ends_in_data t is = ends_there t.state t.content t.attribute is

-- ---- pieces before those that are told

put_all-more : (chunks : List Chunk) (chunk : Chunk) (told : Told) → put_all (chunks ++ chunk ∷ []) told ≡ put_all chunks (put chunk told)
put_all-more [] chunk told = refl
put_all-more (c ∷ chunks) chunk told = ap (put c) (put_all-more chunks chunk told)

put_all-none : (chunks : List Chunk) → put_all chunks (Ok []) ≡ Ok chunks
put_all-none [] = refl
put_all-none (c ∷ chunks) = ap (put c) (put_all-none chunks)

put_all-fault : (chunks : List Chunk) (fault : TemplateFault) → put_all chunks (Err fault) ≡ Err fault
put_all-fault [] fault = refl
put_all-fault (c ∷ chunks) fault = ap (put c) (put_all-fault chunks fault)

-- a piece more
piece_more : (pieces : List Stored) (p : Stored) (chunk : Chunk) (number : ℕ) (old new : Walk) (part : Given) (parts : List Given) → chunk_of p ≡ chunk →
    pieces_from number old (part ∷ parts) ≡ put chunk (pieces_from (number + 1) new parts) →
    told_behind (map chunk_of pieces) number old (part ∷ parts) ≡ told_behind (map chunk_of (pieces ++ p ∷ [])) (number + 1) new parts
piece_more pieces p chunk number old new part parts is takes = grind (arith, nat_tests, map, put_all-more, map-append)

-- a stored slot is the one that was told
pub slot_chunk : (s : StoredSlot) (slot : PlacedSlot) → s.place ≡ slot.place → s.kind ≡ slot.kind →
    Slot s.place s.kind ≡ Slot slot.place slot.kind
slot_chunk s slot place kind = rw (place, kind) refl

-- if it was pushed
pub pushed_more : {T : Type 0} (chunk : T → Chunk) (taken : T) (pieces new_pieces : List Stored) (p : Stored) (number : ℕ) (old new : Walk) (part same : Given)
    (parts : List Given) (result : Result (Unit {0}) TemplateFault) → same ≡ part → chunk_of p ≡ chunk taken → TakesPart {T = T} chunk number old part parts new (Ok taken) →
    OnOk result (new_pieces ≡ pieces ++ p ∷ []) → IfErr result (λ fault. fault ≡ Memory) →
    TakesMore number (map chunk_of pieces) old same parts (map chunk_of new_pieces) new result
pushed_more chunk taken pieces new_pieces p number old new part same parts result given is takes pushed memory = grind (arith, nat_tests, map, piece_more)

fault_told : (chunks : List Chunk) (fault : TemplateFault) (told : Told) → told ≡ Err fault → put_all chunks told ≡ Err fault
fault_told chunks fault told is = ap (put_all chunks) is ∙ put_all-fault chunks fault

fault_behind : (pieces : List Stored) (number : ℕ) (walk : Walk) (parts : List Given) (fault : TemplateFault) → pieces_from number walk parts ≡ Err fault →
    told_behind (map chunk_of pieces) number walk parts ≡ Err fault
fault_behind pieces number walk parts fault is = fault_told (map chunk_of pieces) fault (pieces_from number walk parts) is

fault_here : (pieces : List Stored) (number : ℕ) (walk : Walk) (part same : Given) (parts : List Given) (fault : TemplateFault) → same ≡ part →
    pieces_from number walk (part ∷ parts) ≡ Err fault → told_behind (map chunk_of pieces) number walk (same ∷ parts) ≡ Err fault
fault_here pieces number walk part same parts fault is takes =
    fault_behind pieces number walk (same ∷ parts) fault (ap (λ x. pieces_from number walk (x ∷ parts)) is ∙ takes)

-- or a fault
pub fault_more : {T : Type 0} (chunk : T → Chunk) (pieces : List Stored) (number : ℕ) (old new : Walk) (part same : Given) (parts : List Given)
    (new_chunks : List Chunk) (fault : TemplateFault) → same ≡ part → TakesPart {T = T} chunk number old part parts new (Err fault) →
    TakesMore {T = Unit {0}} number (map chunk_of pieces) old same parts new_chunks new (Err fault)
fault_more chunk pieces number old new part same parts new_chunks fault is takes = grind (arith, nat_tests, fault_here)

-- no part is left, and a template may not end there
pub unfinished : (pieces : List Stored) (number : ℕ) (walk : Walk) → may_end walk.tokenizer ≡ false →
    told_behind (map chunk_of pieces) number walk [] ≡ Err Unfinished
unfinished pieces number walk may_not = fault_behind pieces number walk [] Unfinished (rw may_not refl)

-- or it may
pub all_told : (pieces : List Stored) (number : ℕ) (walk : Walk) → may_end walk.tokenizer ≡ true →
    told_behind (map chunk_of pieces) number walk [] ≡ Ok (map chunk_of pieces)
all_told pieces number walk may = rw may (put_all-none (map chunk_of pieces))

-- ---- what is told of the parts from one on

-- a piece and others are told: the others are
pub record IsPut (chunk : Chunk) (told : Told) (chunks : List Chunk) : Type 0 where
  pub rest : List Chunk
  pub is : told ≡ Ok rest
  pub whole : chunks ≡ chunk ∷ rest

put_parts : (chunk : Chunk) (told : Told) (chunks : List Chunk) → put chunk told ≡ Ok chunks → IsPut chunk told chunks
put_parts chunk told chunks same = grind (arith, nat_tests)

-- something was found, and then pieces were told
pub record IsTold {T : Type 0} (found : Result T PartFault) (go_on : T → Told) (chunks : List Chunk) : Type 0 where
  pub value : T
  pub is : found ≡ Ok value
  pub told : go_on value ≡ Ok chunks

told_parts : {T : Type 0} (part : PartFault → ℕ) (found : Result T PartFault) (go_on : T → Told) (chunks : List Chunk) →
    told_of part found go_on ≡ Ok chunks → IsTold found go_on chunks
told_parts part found go_on chunks same = grind (arith, nat_tests)

-- a template may end where no part is left
pub record IsEnd (walk : Walk) (chunks : List Chunk) : Type 0 where
  pub may : may_end walk.tokenizer ≡ true
  pub none : chunks ≡ []

pub at_end : (number : ℕ) (walk : Walk) (chunks : List Chunk) → pieces_from number walk [] ≡ Ok chunks → IsEnd walk chunks
at_end number walk chunks told = grind (arith, nat_tests)

-- markup, what it leaves open of a URL, and the pieces behind it
pub record AtMarkup (number : ℕ) (walk : Walk) (bytes : List ℕ) (parts : List Given) (chunks : List Chunk) : Type 0 where
  pub read : is_refused (state_after walk.tokenizer bytes).state ≡ false
  pub url : OpenUrl
  pub opened : url_markup walk.url bytes ≡ Ok url
  pub rest : List Chunk
  pub told : pieces_from (number + 1) (behind_markup walk bytes url) parts ≡ Ok rest
  pub whole : chunks ≡ Markup bytes ∷ rest

pub at_markup : (number : ℕ) (walk : Walk) (bytes : List ℕ) (parts : List Given) (chunks : List Chunk) →
    pieces_from number walk (GivenMarkup bytes ∷ parts) ≡ Ok chunks → AtMarkup number walk bytes parts chunks
at_markup number walk bytes parts chunks told =
    elim (cases_Bool (is_refused (state_after walk.tokenizer bytes).state)) [
      | inl refused ↦ let here : Err (fault.Part number Malformed) ≡ Ok chunks = rw refused at told in
          absurd (cc)
      | inr read ↦ let found = told_parts (λ why. number) (url_markup walk.url bytes) (λ url. put (Markup bytes) (pieces_from (number + 1) (behind_markup walk bytes url) parts)) chunks (rw read at told) in
          let others = put_parts (Markup bytes) (pieces_from (number + 1) (behind_markup walk bytes found.value) parts) chunks found.told in
          record { read = read; url = found.value; opened = found.is; rest = others.rest; told = others.is; whole = others.whole }
    ]

-- a slot, and the pieces behind it
pub record AtSlot (number : ℕ) (walk : Walk) (parts : List Given) (chunks : List Chunk) : Type 0 where
  pub found : PlacedSlot
  pub placed : slot_at walk.markup walk.url (standing walk.tokenizer) ≡ Ok found
  pub rest : List Chunk
  pub told : pieces_from (number + 1) (behind_slot walk (before (next_markup parts) found)) parts ≡ Ok rest
  pub whole : chunks ≡ Slot (before (next_markup parts) found).place (before (next_markup parts) found).kind ∷ rest

pub at_slot : (number : ℕ) (walk : Walk) (parts : List Given) (chunks : List Chunk) → pieces_from number walk (GivenSlot ∷ parts) ≡ Ok chunks →
    AtSlot number walk parts chunks
at_slot number walk parts chunks told =
    let at = told_parts (faulty_part number) (slot_at walk.markup walk.url (standing walk.tokenizer))
    (λ slot. put_slot (before (next_markup parts) slot) (pieces_from (number + 1) (behind_slot walk (before (next_markup parts) slot)) parts)) chunks told in
    let slot : PlacedSlot = before (next_markup parts) at.value in
    let others = put_parts (Slot slot.place slot.kind) (pieces_from (number + 1) (behind_slot walk slot) parts) chunks at.told in
    record { found = at.value; placed = at.is; rest = others.rest; told = others.is; whole = others.whole }

-- ---- the pieces are those of a template

-- each is the piece of its part
parts_from : (number : ℕ) (walk : Walk) (parts : List Given) (chunks : List Chunk) → pieces_from number walk parts ≡ Ok chunks →
    map part_of chunks ≡ parts
parts_from number walk [] chunks told = ap (map part_of) (at_end number walk chunks told).none
parts_from number walk (GivenMarkup bytes ∷ parts) chunks told =
    let here = at_markup number walk bytes parts chunks told in
    ap (map part_of) here.whole ∙ ap (λ x. GivenMarkup bytes ∷ x) (parts_from (number + 1) (behind_markup walk bytes here.url) parts here.rest here.told)
parts_from number walk (GivenSlot ∷ parts) chunks told =
    let here = at_slot number walk parts chunks told in
    ap (map part_of) here.whole ∙ ap (λ x. GivenSlot ∷ x) (parts_from (number + 1) (behind_slot walk (before (next_markup parts) here.found)) parts here.rest here.told)

-- a page of them ends where one may end
sound_from : (number : ℕ) (walk : Walk) (parts : List Given) (chunks : List Chunk) → pieces_from number walk parts ≡ Ok chunks →
    state_after_all walk.tokenizer chunks ≡ data_state
sound_from number walk [] chunks told =
    let here = at_end number walk chunks told in
    ap (state_after_all walk.tokenizer) here.none ∙ ends_in_data walk.tokenizer here.may
sound_from number walk (GivenMarkup bytes ∷ parts) chunks told =
    let here = at_markup number walk bytes parts chunks told in
    ap (state_after_all walk.tokenizer) here.whole ∙ sound_from (number + 1) (behind_markup walk bytes here.url) parts here.rest here.told
sound_from number walk (GivenSlot ∷ parts) chunks told =
    let here = at_slot number walk parts chunks told in
    ap (state_after_all walk.tokenizer) here.whole ∙ sound_from (number + 1) (behind_slot walk (before (next_markup parts) here.found)) parts here.rest here.told

pub parts_told : (parts : List Given) (chunks : List Chunk) → template_of parts ≡ Ok chunks → map part_of chunks ≡ parts
parts_told parts chunks told = parts_from 0 at_beginning parts chunks told

pub sound_told : (parts : List Given) (chunks : List Chunk) → template_of parts ≡ Ok chunks → state_after_all data_state chunks ≡ data_state
sound_told parts chunks told = sound_from 0 at_beginning parts chunks told

pub told_again : (parts : List Given) (chunks : List Chunk) → template_of parts ≡ Ok chunks → template_of (map part_of chunks) ≡ Ok chunks
told_again parts chunks told = ap template_of (parts_told parts chunks told) ∙ told

-- all that a template keeps of them
pub record IsTemplate (parts : List Given) (pieces : List Stored) : Type 0 where
  pub sound : state_after_all data_state (map chunk_of pieces) ≡ data_state
  pub told : template_of (map part_of (map chunk_of pieces)) ≡ Ok (map chunk_of pieces)
  pub given : map part_of (map chunk_of pieces) ≡ parts
  pub whole : template_of parts ≡ Ok (map chunk_of pieces)

pub is_template : (parts : List Given) (pieces : List Stored) (number : ℕ) (walk : Walk) → may_end walk.tokenizer ≡ true →
    told_behind (map chunk_of pieces) number walk [] ≡ template_of parts → IsTemplate parts pieces
is_template parts pieces number walk may same =
    let told : template_of parts ≡ Ok (map chunk_of pieces) = sym same ∙ all_told pieces number walk may in
    record {
      sound = sound_told parts (map chunk_of pieces) told;
      told = told_again parts (map chunk_of pieces) told;
      given = parts_told parts (map chunk_of pieces) told;
      whole = told;
    }

-- no part is left
pub none_left : (pieces : List Stored) (number : ℕ) (walk : Walk) (rest : List Part) {all : Told} → length rest < 1 →
    told_behind (map chunk_of pieces) number walk (map given rest) ≡ all → told_behind (map chunk_of pieces) number walk [] ≡ all
none_left pieces number walk [] few same = same
none_left pieces number walk (part ∷ rest) few same = absurd (omega arith)
