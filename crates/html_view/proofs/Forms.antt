-- Data of one form has one unrolling, but for the texts.
use Rattle.std.proofs.Common.{ℕ, ◌≡◌, Bool, true, false, List, [], ◌∷◌, ◌++◌, map, IsUtf8, Option, Some, None, Ok, bytes_eq, refl, sym, ap, ◌∙◌, true≢false, ⊎_elim}
use Rattle.std.specs.Prelude.{⊤}
use Rattle.std.specs.List.{AllByRecursion}
use Rattle.std.specs.Option.{option_and_then}
use Rattle.std.proofs.lemmas.Bool.{cases_Bool}
use Rattle.html_template.specs.Structure.{structure}
use Rattle.html_template.specs.Templates.{Markup, Slot, actions_all, part_of}
use Rattle.html_tokenizer.specs.Tokenizer.States.{data_state}
use Rattle.html_tokenizer.specs.Tokenizer.Tokenization.{actions_of}
use Rattle.html_template.proofs.Pieces.{sound_told}
use Rattle.html_template.proofs.Structure.{structure_of_page}
use Rattle.html_view.specs.Attributes.{refused_for}
use Rattle.html_view.specs.Data as data_of
use Rattle.html_view.specs.Data.{Datum, Fields, Flag, Fragment, ItemList, Items, Number, Record, Stack, Text, around, bare, field, field_of, filled_stacks, first_of, first_value, given_stacks, has_items, innermost, inside, is_filled, item, item_stacks, list_stacks, look_up, member_of, no_items, once, stacks, within}
use Rattle.html_view.specs.Forms.{SameFields, SameForm, SameItems}
use Rattle.html_view.specs.Nodes as node
use Rattle.html_view.specs.Nodes.{Asked, Nodes, Opening, Placed, Words}
use Rattle.html_view.specs.Rendered.{Unrolled, Unrolling, fragment_for, no_unrolling, put_front, put_markup, put_text, rendered, text_for, unrolled, unrolled_each, unrolled_section, unrolled_times}
use Rattle.html_view.specs.Unrolled.{AreTemplates, joined}
use Rattle.html_view.specs.Ways.{on_ok}
use Rattle.html_view.specs.declared.faults.ValueFault.{ValueFault}
use Rattle.html_view.specs.declared.node.Times.{Times}
use Rattle.html_view.specs.declared.node.Times.TheVariants.{Attributes, Each, Given, If, Once, Whether}
use Rattle.html_view.proofs.Sound.{joined_fill, joined_page}
use Rattle.html_view.proofs.Unrolling.{found_in, is_unrolling}

-- ---- what names mean

abbrev SameOption : Option Datum → Option Datum → Type 0
SameOption None None = ⊤
SameOption (Some value) (Some other) = SameForm value other
SameOption value other = ⊥

abbrev SameStack : Stack → Stack → Type 0
SameStack [] [] = ⊤
SameStack (value ∷ stack) (other ∷ others) = SameForm value other × SameStack stack others
SameStack stack others = ⊥

abbrev SameStacks : List Stack → List Stack → Type 0
SameStacks [] [] = ⊤
SameStacks (stack ∷ stacks) (other ∷ others) = SameStack stack other × SameStacks stacks others
SameStacks stacks others = ⊥

same_field : (word : List ℕ) (fields others : Fields) → SameFields fields others → SameOption (field_of word fields) (field_of word others)
same_field word bare bare same = tt
same_field word (field name value fields) (field again other others) same =
    ⊎_elim
    (λ (is : bytes_eq name word ≡ true).
    let is_again : bytes_eq again word ≡ true = sym (ap (λ n. bytes_eq n word) same.0) ∙ is in
    rw (is, is_again) same.1)
    (λ (is_not : bytes_eq name word ≡ false).
    let is_not_again : bytes_eq again word ≡ false = sym (ap (λ n. bytes_eq n word) same.0) ∙ is_not in
    rw (is_not, is_not_again) (same_field word fields others same.2))
    (cases_Bool (bytes_eq name word))
same_field word fields others same = absurd same

same_member : (word : List ℕ) (value other : Datum) → SameForm value other → SameOption (member_of word value) (member_of word other)
same_member word data_of.Nothing data_of.Nothing same = tt
same_member word (Text text) (Text other) same = tt
same_member word (Text text) (Number other) same = tt
same_member word (Number text) (Text other) same = tt
same_member word (Number text) (Number other) same = tt
same_member word (Flag flag) (Flag other) same = tt
same_member word (Fragment markup whole) (Fragment other is) same = tt
same_member word (Items items) (Items others) same = tt
same_member word (Record fields) (Record others) same = same_field word fields others same
same_member word value other same = absurd same

same_first : (a b c d : Option Datum) → SameOption a b → SameOption c d → SameOption (first_of a c) (first_of b d)
same_first None None c d same other = other
same_first (Some a) (Some b) c d same other = same
same_first a b c d same other = absurd same

same_around : (word : List ℕ) (stack others : Stack) → SameStack stack others → SameOption (around word stack) (around word others)
same_around word [] [] same = tt
same_around word (value ∷ stack) (other ∷ others) same =
    same_first (member_of word value) (member_of word other) (around word stack) (around word others)
    (same_member word value other same.0) (same_around word stack others same.1)
same_around word stack others same = absurd same

same_then : (go_on : Datum → Option Datum) → ((value other : Datum) → SameForm value other → SameOption (go_on value) (go_on other)) →
    (a b : Option Datum) → SameOption a b → SameOption (option_and_then go_on a) (option_and_then go_on b)
same_then go_on each None None same = tt
same_then go_on each (Some a) (Some b) same = each a b same
same_then go_on each a b same = absurd same

same_within : (words : Words) (value other : Datum) → SameForm value other → SameOption (within words value) (within words other)
same_within [] value other same = same
same_within (word ∷ words) value other same =
    same_then (λ found. within words found) (λ a b is. same_within words a b is) (member_of word value) (member_of word other)
    (same_member word value other same)

same_innermost : (stack others : Stack) → SameStack stack others → SameOption (innermost stack) (innermost others)
same_innermost [] [] same = tt
same_innermost (value ∷ stack) (other ∷ others) same = same.0
same_innermost stack others same = absurd same

same_first_value : (words : Words) (word : List ℕ) (stack others : Stack) → SameStack stack others →
    SameOption (first_value words word stack) (first_value words word others)
same_first_value [] word stack others same = same_around word stack others same
same_first_value (next ∷ words) [] stack others same = same_innermost stack others same
same_first_value (next ∷ words) (b ∷ word) stack others same = same_around (b ∷ word) stack others same

same_look_up : (name : Words) (stack others : Stack) → SameStack stack others → SameOption (look_up name stack) (look_up name others)
same_look_up [] stack others same = same_innermost stack others same
same_look_up (word ∷ words) stack others same =
    same_then (within words) (same_within words) (first_value words word stack) (first_value words word others)
    (same_first_value words word stack others same)

-- ---- sections

same_has_items : (items others : ItemList) → SameItems items others → has_items items ≡ has_items others
same_has_items no_items no_items same = refl
same_has_items (item value items) (item other others) same = refl
same_has_items items others same = absurd same

same_items : (items others : ItemList) (stack around_other : Stack) → SameItems items others → SameStack stack around_other →
    SameStacks (item_stacks items stack) (item_stacks others around_other)
same_items no_items no_items stack around_other same stacks = tt
same_items (item value items) (item other others) stack around_other same stacks =
    ((same.0, stacks), same_items items others stack around_other same.1 stacks)
same_items items others stack around_other same stacks = absurd same

same_once : (c d : Bool) (stack others : Stack) → c ≡ d → SameStack stack others → SameStacks (once c stack) (once d others)
same_once true true stack others is same = (same, tt)
same_once false false stack others is same = tt
same_once true false stack others is same = absurd (true≢false is)
same_once false true stack others is same = absurd (true≢false (sym is))

same_list : (times : Times) (items others : ItemList) (stack around_other : Stack) → SameItems items others → SameStack stack around_other →
    SameStacks (list_stacks times items stack) (list_stacks times others around_other)
same_list Each items others stack around_other same around = same_items items others stack around_other same around
same_list Once items others stack around_other same around = same_items items others stack around_other same around
same_list If items others stack around_other same around =
    same_once (has_items items) (has_items others) stack around_other (same_has_items items others same) around
same_list Whether items others stack around_other same around =
    same_once (has_items items) (has_items others) stack around_other (same_has_items items others same) around
same_list Given items others stack around_other same around =
    same_once (has_items items) (has_items others) stack around_other (same_has_items items others same) around
same_list Attributes items others stack around_other same around =
    same_once (has_items items) (has_items others) stack around_other (same_has_items items others same) around

same_inside : (times : Times) (value other : Datum) (stack others : Stack) → SameForm value other → SameStack stack others →
    SameStack (inside times value stack) (inside times other others)
same_inside Each value other stack others same around = (same, around)
same_inside Once value other stack others same around = (same, around)
same_inside If value other stack others same around = (same, around)
same_inside Whether value other stack others same around = around
same_inside Given value other stack others same around = (same, around)
same_inside Attributes value other stack others same around = (same, around)

same_filled : (times : Times) (a b : Option Datum) (stack others : Stack) → SameOption a b → SameStack stack others →
    SameStacks (filled_stacks times a stack) (filled_stacks times b others)
same_filled times None None stack others same around = tt
same_filled times (Some data_of.Nothing) (Some data_of.Nothing) stack others same around = tt
same_filled times (Some (Text text)) (Some (Text other)) stack others same around =
    same_once (is_filled text) (is_filled other) (inside times (Text text) stack) (inside times (Text other) others) same
    (same_inside times (Text text) (Text other) stack others same around)
same_filled times (Some (Text text)) (Some (Number other)) stack others same around =
    same_once (is_filled text) (is_filled other) (inside times (Text text) stack) (inside times (Number other) others) same
    (same_inside times (Text text) (Number other) stack others same around)
same_filled times (Some (Number text)) (Some (Text other)) stack others same around =
    same_once (is_filled text) (is_filled other) (inside times (Number text) stack) (inside times (Text other) others) same
    (same_inside times (Number text) (Text other) stack others same around)
same_filled times (Some (Number text)) (Some (Number other)) stack others same around =
    same_once (is_filled text) (is_filled other) (inside times (Number text) stack) (inside times (Number other) others) same
    (same_inside times (Number text) (Number other) stack others same around)
same_filled times (Some (Flag flag)) (Some (Flag other)) stack others same around = same_once flag other stack others same around
same_filled times (Some (Fragment markup whole)) (Some (Fragment other is)) stack others same around =
    same_once (is_filled markup) (is_filled other) (inside times (Fragment markup whole) stack) (inside times (Fragment other is) others)
    (ap is_filled same) (same_inside times (Fragment markup whole) (Fragment other is) stack others same around)
same_filled times (Some (Items items)) (Some (Items more)) stack others same around = same_list times items more stack others same around
same_filled times (Some (Record fields)) (Some (Record more)) stack others same around =
    (same_inside times (Record fields) (Record more) stack others same around, tt)
same_filled times a b stack others same around = absurd same

same_given : (a b : Option Datum) (stack others : Stack) → SameOption a b → SameStack stack others →
    SameStacks (given_stacks a stack) (given_stacks b others)
same_given None None stack others same around = tt
same_given (Some data_of.Nothing) (Some data_of.Nothing) stack others same around = tt
same_given (Some (Text text)) (Some (Text other)) stack others same around = ((same, around), tt)
same_given (Some (Text text)) (Some (Number other)) stack others same around = ((same, around), tt)
same_given (Some (Number text)) (Some (Text other)) stack others same around = ((same, around), tt)
same_given (Some (Number text)) (Some (Number other)) stack others same around = ((same, around), tt)
same_given (Some (Flag flag)) (Some (Flag other)) stack others same around = ((same, around), tt)
same_given (Some (Fragment markup whole)) (Some (Fragment other is)) stack others same around = ((same, around), tt)
same_given (Some (Items items)) (Some (Items more)) stack others same around = ((same, around), tt)
same_given (Some (Record fields)) (Some (Record more)) stack others same around = ((same, around), tt)
same_given a b stack others same around = absurd same

same_stacks : (times : Times) (a b : Option Datum) (stack others : Stack) → SameOption a b → SameStack stack others →
    SameStacks (stacks times a stack) (stacks times b others)
same_stacks Given a b stack others same around = same_given a b stack others same around
same_stacks Each a b stack others same around = same_filled Each a b stack others same around
same_stacks Once a b stack others same around = same_filled Once a b stack others same around
same_stacks If a b stack others same around = same_filled If a b stack others same around
same_stacks Whether a b stack others same around = same_filled Whether a b stack others same around
same_stacks Attributes a b stack others same around = same_filled Attributes a b stack others same around

-- ---- pieces

front_pieces : (front rest found : Unrolling) → put_front front rest ≡ Ok found → front.pieces ++ rest.pieces ≡ found.pieces
front_pieces front rest found told =
    let is : Ok (record { pieces = front.pieces ++ rest.pieces; texts = front.texts ++ rest.texts }) ≡ Ok found = told in
    let same : record { pieces = front.pieces ++ rest.pieces; texts = front.texts ++ rest.texts } ≡ found = cc in
    ap (λ (u : Unrolling). u.pieces) same

-- two renderings give the same pieces
abbrev Agree : Unrolled → Unrolled → Type 0
Agree one two = (first second : Unrolling) → one ≡ Ok first → two ≡ Ok second → first.pieces ≡ second.pieces

both_front : (one two more_one more_two : Unrolled) → Agree one two → Agree more_one more_two →
    Agree (on_ok one (λ front. on_ok more_one (put_front front))) (on_ok two (λ front. on_ok more_two (put_front front)))
both_front one two more_one more_two same more first second told_first told_second =
    let a = found_in one (λ front. on_ok more_one (put_front front)) first told_first in
    let b = found_in two (λ front. on_ok more_two (put_front front)) second told_second in
    let c = found_in more_one (put_front a.value) first a.goes in
    let d = found_in more_two (put_front b.value) second b.goes in
    sym (front_pieces a.value c.value first c.goes)
    ∙ ap (λ x. x ++ c.value.pieces) (same a.value b.value a.is b.is)
    ∙ ap (λ x. b.value.pieces ++ x) (more c.value d.value c.is d.is)
    ∙ front_pieces b.value d.value second d.goes

abbrev as_told : Unrolling → Unrolled
as_told found = Ok found

same_none : (first second : Unrolling) → as_told no_unrolling ≡ Ok first → as_told no_unrolling ≡ Ok second → first.pieces ≡ second.pieces
same_none first second told_first told_second =
    let one : no_unrolling ≡ first = cc in
    let two : no_unrolling ≡ second = cc in
    sym (ap (λ (u : Unrolling). u.pieces) one) ∙ ap (λ (u : Unrolling). u.pieces) two

same_each : (body : Stack → Unrolled) → ((stack other : Stack) → SameStack stack other → Agree (body stack) (body other)) →
    (stacks others : List Stack) → SameStacks stacks others → Agree (unrolled_each body stacks) (unrolled_each body others)
same_each body each [] [] same first second told_first told_second = same_none first second told_first told_second
same_each body each (stack ∷ stacks) (other ∷ others) same first second told_first told_second =
    both_front (body stack) (body other) (unrolled_each body stacks) (unrolled_each body others) (each stack other same.0)
    (λ one two is_one is_two. same_each body each stacks others same.1 one two is_one is_two) first second told_first told_second
same_each body each stacks others same first second told_first told_second = absurd same

same_times : (opening : Opening) (times : Times) (body : Stack → Unrolled) →
    ((stack other : Stack) → SameStack stack other → Agree (body stack) (body other)) → (stack other : Stack) (stacks others : List Stack) →
    SameStack stack other → SameStacks stacks others →
    Agree (unrolled_times opening times body stack stacks) (unrolled_times opening times body other others)
same_times opening Each body each stack other stacks others same more = same_each body each (stack ∷ stacks) (other ∷ others) (same, more)
same_times opening Once body each stack other [] [] same more = each stack other same
same_times opening Once body each stack other (a ∷ stacks) (b ∷ others) same more = λ first second told_first told_second. absurd (cc)
same_times opening Once body each stack other stacks others same more = absurd more
same_times opening If body each stack other [] [] same more = each stack other same
same_times opening If body each stack other (a ∷ stacks) (b ∷ others) same more = λ first second told_first told_second. absurd (cc)
same_times opening If body each stack other stacks others same more = absurd more
same_times opening Whether body each stack other [] [] same more = each stack other same
same_times opening Whether body each stack other (a ∷ stacks) (b ∷ others) same more = λ first second told_first told_second. absurd (cc)
same_times opening Whether body each stack other stacks others same more = absurd more
same_times opening Given body each stack other [] [] same more = each stack other same
same_times opening Given body each stack other (a ∷ stacks) (b ∷ others) same more = λ first second told_first told_second. absurd (cc)
same_times opening Given body each stack other stacks others same more = absurd more
same_times opening Attributes body each stack other [] [] same more = each stack other same
same_times opening Attributes body each stack other (a ∷ stacks) (b ∷ others) same more = λ first second told_first told_second. absurd (cc)
same_times opening Attributes body each stack other stacks others same more = absurd more

same_section : (opening : Opening) (refused again_refused : Option ValueFault) (body : Stack → Unrolled) (otherwise again : Unrolled) →
    ((stack other : Stack) → SameStack stack other → Agree (body stack) (body other)) → Agree otherwise again →
    (stacks others : List Stack) → SameStacks stacks others →
    Agree (unrolled_section opening refused body otherwise stacks) (unrolled_section opening again_refused body again others)
same_section opening None None body otherwise again each else_branch [] [] same = else_branch
same_section opening None None body otherwise again each else_branch (stack ∷ stacks) (other ∷ others) same =
    same_times opening opening.times body each stack other stacks others same.0 same.1
same_section opening None None body otherwise again each else_branch stacks others same = absurd same
same_section opening (Some why) refused body otherwise again each else_branch stacks others same = λ first second told_first told_second. absurd (cc)
same_section opening None (Some why) body otherwise again each else_branch stacks others same = λ first second told_first told_second. absurd (cc)

-- the same fragment
same_fragment : (slot : Asked) (a b : Option Datum) (one two : List ℕ) → SameOption a b → fragment_for slot a ≡ Ok one → fragment_for slot b ≡ Ok two → one ≡ two
same_fragment slot (Some (Fragment markup whole)) (Some (Fragment other is)) one two same told again =
    let first : markup ≡ one = cc in
    let second : other ≡ two = cc in
    sym first ∙ same ∙ second
same_fragment slot (Some (Fragment markup whole)) b one two same told again = absurd same
same_fragment slot None b one two same told again = absurd (cc)
same_fragment slot (Some data_of.Nothing) b one two same told again = absurd (cc)
same_fragment slot (Some (Text text)) b one two same told again = absurd (cc)
same_fragment slot (Some (Number text)) b one two same told again = absurd (cc)
same_fragment slot (Some (Flag flag)) b one two same told again = absurd (cc)
same_fragment slot (Some (Items items)) b one two same told again = absurd (cc)
same_fragment slot (Some (Record fields)) b one two same told again = absurd (cc)

pub same_pieces : (nodes : Nodes Placed) (stack others : Stack) → SameStack stack others → Agree (unrolled nodes stack) (unrolled nodes others)
same_pieces node.End stack others same first second told_first told_second = same_none first second told_first told_second
same_pieces (node.Markup bytes rest) stack others same first second told_first told_second =
    let a = found_in (unrolled rest stack) (put_markup bytes) first told_first in
    let b = found_in (unrolled rest others) (put_markup bytes) second told_second in
    let one : as_told (record { pieces = Markup bytes ∷ a.value.pieces; texts = a.value.texts }) ≡ Ok first = a.goes in
    let two : as_told (record { pieces = Markup bytes ∷ b.value.pieces; texts = b.value.texts }) ≡ Ok second = b.goes in
    let is_one : record { pieces = Markup bytes ∷ a.value.pieces; texts = a.value.texts } ≡ first = cc in
    let is_two : record { pieces = Markup bytes ∷ b.value.pieces; texts = b.value.texts } ≡ second = cc in
    sym (ap (λ (u : Unrolling). u.pieces) is_one)
    ∙ ap (λ x. Markup bytes ∷ x) (same_pieces rest stack others same a.value b.value a.is b.is)
    ∙ ap (λ (u : Unrolling). u.pieces) is_two
same_pieces (node.Slot slot rest) stack others same first second told_first told_second =
    let a = found_in (text_for slot (look_up slot.asked.name stack)) (λ text. on_ok (unrolled rest stack) (put_text slot text)) first told_first in
    let b = found_in (text_for slot (look_up slot.asked.name others)) (λ text. on_ok (unrolled rest others) (put_text slot text)) second told_second in
    let c = found_in (unrolled rest stack) (put_text slot a.value) first a.goes in
    let d = found_in (unrolled rest others) (put_text slot b.value) second b.goes in
    let one : as_told (record { pieces = Slot slot.place slot.kind ∷ c.value.pieces; texts = a.value ∷ c.value.texts }) ≡ Ok first = c.goes in
    let two : as_told (record { pieces = Slot slot.place slot.kind ∷ d.value.pieces; texts = b.value ∷ d.value.texts }) ≡ Ok second = d.goes in
    let is_one : record { pieces = Slot slot.place slot.kind ∷ c.value.pieces; texts = a.value ∷ c.value.texts } ≡ first = cc in
    let is_two : record { pieces = Slot slot.place slot.kind ∷ d.value.pieces; texts = b.value ∷ d.value.texts } ≡ second = cc in
    sym (ap (λ (u : Unrolling). u.pieces) is_one)
    ∙ ap (λ x. Slot slot.place slot.kind ∷ x) (same_pieces rest stack others same c.value d.value c.is d.is)
    ∙ ap (λ (u : Unrolling). u.pieces) is_two
same_pieces (node.Fragment slot rest) stack others same first second told_first told_second =
    let a = found_in (fragment_for slot (look_up slot.name stack)) (λ markup. on_ok (unrolled rest stack) (put_markup markup)) first told_first in
    let b = found_in (fragment_for slot (look_up slot.name others)) (λ markup. on_ok (unrolled rest others) (put_markup markup)) second told_second in
    let c = found_in (unrolled rest stack) (put_markup a.value) first a.goes in
    let d = found_in (unrolled rest others) (put_markup b.value) second b.goes in
    let one : as_told (record { pieces = Markup a.value ∷ c.value.pieces; texts = c.value.texts }) ≡ Ok first = c.goes in
    let two : as_told (record { pieces = Markup b.value ∷ d.value.pieces; texts = d.value.texts }) ≡ Ok second = d.goes in
    let is_one : record { pieces = Markup a.value ∷ c.value.pieces; texts = c.value.texts } ≡ first = cc in
    let is_two : record { pieces = Markup b.value ∷ d.value.pieces; texts = d.value.texts } ≡ second = cc in
    let alike = same_fragment slot (look_up slot.name stack) (look_up slot.name others) a.value b.value (same_look_up slot.name stack others same) a.is b.is in
    sym (ap (λ (u : Unrolling). u.pieces) is_one)
    ∙ ap (λ markup. Markup markup ∷ c.value.pieces) alike
    ∙ ap (λ x. Markup b.value ∷ x) (same_pieces rest stack others same c.value d.value c.is d.is)
    ∙ ap (λ (u : Unrolling). u.pieces) is_two
same_pieces (node.Section opening body otherwise rest) stack others same first second told_first told_second =
    let here = stacks opening.times (look_up opening.name stack) stack in
    let there = stacks opening.times (look_up opening.name others) others in
    let refused = refused_for opening.times (look_up opening.name stack) in
    let again = refused_for opening.times (look_up opening.name others) in
    both_front (unrolled_section opening refused (λ inner. unrolled body inner) (unrolled otherwise stack) here)
    (unrolled_section opening again (λ inner. unrolled body inner) (unrolled otherwise others) there)
    (unrolled rest stack) (unrolled rest others)
    (same_section opening refused again (λ inner. unrolled body inner) (unrolled otherwise stack) (unrolled otherwise others)
    (λ inner other is. same_pieces body inner other is) (same_pieces otherwise stack others same) here there
    (same_stacks opening.times (look_up opening.name stack) (look_up opening.name others) stack others
    (same_look_up opening.name stack others same) same))
    (same_pieces rest stack others same) first second told_first told_second

-- ---- the structure of pages

structure_alone : (nodes : Nodes Placed) (stack : Stack) (found : Unrolling) → AreTemplates nodes → unrolled nodes stack ≡ Ok found → AllByRecursion IsUtf8 found.texts →
    structure (actions_of data_state (rendered found)) ≡ structure (actions_all data_state (joined found.pieces) [])
structure_alone nodes stack found sound told utf8 =
    let here = is_unrolling nodes stack found told in
    let state = sound_told (map part_of (joined found.pieces)) (joined found.pieces) (sound found.pieces here.unrolls) in
    ap (λ p. structure (actions_of data_state p)) (sym (joined_page found.pieces found.texts))
    ∙ structure_of_page (joined found.pieces) found.texts state (joined_fill found.pieces found.texts here.full) utf8

-- it depends on the form of the data alone
pub same_structure : (nodes : Nodes Placed) (data_of_one other : Datum) (first second : Unrolling) → AreTemplates nodes → SameForm data_of_one other →
    unrolled nodes (data_of_one ∷ []) ≡ Ok first → unrolled nodes (other ∷ []) ≡ Ok second →
    AllByRecursion IsUtf8 first.texts → AllByRecursion IsUtf8 second.texts →
    structure (actions_of data_state (rendered first)) ≡ structure (actions_of data_state (rendered second))
same_structure nodes data_of_one other first second sound same told_first told_second utf8_first utf8_second =
    structure_alone nodes (data_of_one ∷ []) first sound told_first utf8_first
    ∙ ap (λ pieces. structure (actions_all data_state (joined pieces) []))
    (same_pieces nodes (data_of_one ∷ []) (other ∷ []) (same, tt) first second told_first told_second)
    ∙ sym (structure_alone nodes (other ∷ []) second sound told_second utf8_second)
