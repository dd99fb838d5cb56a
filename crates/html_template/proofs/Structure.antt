-- A page is tokenized as its template, and its structure does not depend on the texts.
use Rattle.std.proofs.Common.{ℕ, ◌≡◌, false, List, [], ◌∷◌, ◌++◌, map, IsUtf8, refl, sym, ap, ◌∙◌, arith}
use Rattle.std.proofs.lemmas.Bool.Decides.{nat_tests}
use Rattle.std.specs.List.{AllByRecursion}
use Rattle.std.proofs.lemmas.List.Elements.{filter-append}
use Rattle.html_template.specs.declared.parts.SlotKind.{SlotKind}
use Rattle.html_tokenizer.specs.declared.slot_place.SlotPlace.{SlotPlace}
use Rattle.html_tokenizer.specs.Tokenizer.Actions.{Action, read_byte}
use Rattle.html_tokenizer.specs.Tokenizer.States.{Tokenizer, data_state}
use Rattle.html_template.specs.Structure.{is_structure, structure, IsReadAs}
use Rattle.html_template.specs.Templates.{Chunk, Markup, Slot, Fill, after_slot, handed, page, actions_all, slot_actions, state_after_all}
use Rattle.html_tokenizer.specs.Tokenizer.Tokenization.{state_after, actions_of}
use Rattle.html_tokenizer.proofs.Passing.{actions_of-append, state_after-append}
use Rattle.html_template.proofs.TemplateLaw.{pieces_pass}

structure-append : (first second : List Action) → structure (first ++ second) ≡ structure first ++ structure second
structure-append first second = filter-append is_structure first second

no_structure : (p : SlotPlace) (b : ℕ) → is_structure (read_byte p b) ≡ false
no_structure p b = grind (arith, nat_tests)

structure-text : (p : SlotPlace) (text : List ℕ) → structure (map (read_byte p) text) ≡ []
structure-text p [] = refl
structure-text p (b ∷ text) = rw (no_structure p b) (structure-text p text)

structure-slot : (kind : SlotKind) (read : List Action) → structure read ≡ [] → structure (slot_actions kind read) ≡ structure (slot_actions kind [])
structure-slot kind read none = grind (arith, nat_tests, structure-append)

-- the structure of a template with any texts is that with none
structure_alone : (chunks : List Chunk) (t : Tokenizer) (texts : List (List ℕ)) →
    structure (actions_all t chunks texts) ≡ structure (actions_all t chunks [])
structure_alone [] t texts = refl
structure_alone (Markup bytes ∷ chunks) t texts =
    structure-append (actions_of t bytes) (actions_all (state_after t bytes) chunks texts)
    ∙ ap (λ x. structure (actions_of t bytes) ++ x) (structure_alone chunks (state_after t bytes) texts)
    ∙ sym (structure-append (actions_of t bytes) (actions_all (state_after t bytes) chunks []))
structure_alone (Slot p kind ∷ chunks) t [] = refl
structure_alone (Slot p kind ∷ chunks) t (text ∷ texts) =
    let read : List Action = map (read_byte p) (handed p kind text) in
    structure-append (slot_actions kind read) (actions_all (after_slot p kind t) chunks texts)
    ∙ ap (λ x. x ++ structure (actions_all (after_slot p kind t) chunks texts)) (structure-slot kind read (structure-text p (handed p kind text)))
    ∙ ap (λ x. structure (slot_actions kind []) ++ x) (structure_alone chunks (after_slot p kind t) texts)
    ∙ sym (structure-append (slot_actions kind []) (actions_all (after_slot p kind t) chunks []))

pub structure_of_page : (chunks : List Chunk) (texts : List (List ℕ)) → state_after_all data_state chunks ≡ data_state →
    Fill chunks texts → AllByRecursion IsUtf8 texts →
    structure (actions_of data_state (page chunks texts)) ≡ structure (actions_all data_state chunks [])
structure_of_page chunks texts sound full utf8 =
    ap structure (pieces_pass chunks data_state texts sound full utf8).actions ∙ structure_alone chunks data_state texts

pub is_read_as : (chunks : List Chunk) (texts : List (List ℕ)) → state_after_all data_state chunks ≡ data_state →
    Fill chunks texts → AllByRecursion IsUtf8 texts → IsReadAs chunks texts (page chunks texts)
is_read_as chunks texts sound full utf8 = grind (arith, nat_tests, pieces_pass, actions_of-append, state_after-append)
