-- What data makes of nodes is an unrolling, whose slots its texts fill.
use Rattle.std.proofs.Common.{ℕ, ◌≡◌, ◌⊎◌, true, false, List, [], ◌∷◌, ◌++◌, map, IsUtf8, Option, Some, None, Result, Ok, Err, length, refl, ap, subst, inl, inr, ⊎_elim, arith, ◌==◌}
use Rattle.std.specs.List.{AllByRecursion, list_all}
use Rattle.std.proofs.lemmas.Bool.{cases_Bool}
use Rattle.html_template.specs.FillFaults.{empty_fault, segment_fault, text_fault}
use Rattle.html_template.specs.Slots.{FitsPlace, MayFill}
use Rattle.html_template.specs.Structure.{IsPageOf, IsWhole}
use Rattle.html_template.specs.Templates.{Chunk, Fill, Markup, Slot, part_of}
use Rattle.html_template.specs.declared.faults.TextFault.{TextFault}
use Rattle.html_template.specs.declared.faults.TextFault.TheVariants as fault
use Rattle.html_template.specs.declared.parts.SlotKind.{SlotKind}
use Rattle.html_template.specs.declared.parts.SlotKind.TheVariants as kind
use Rattle.html_tokenizer.specs.Declarations.{is_style_byte}
use Rattle.html_tokenizer.specs.declared.slot_place.SlotPlace.{SlotPlace}
use Rattle.html_tokenizer.specs.declared.slot_place.SlotPlace.TheVariants.{Unquoted}
use Rattle.html_urls.specs.Bases.{is_base, is_own_base}
use Rattle.html_urls.specs.Links.{is_link}
use Rattle.html_urls.specs.OwnPaths.{is_own_path}
use Rattle.html_urls.specs.Slots.{may_fill}
use Rattle.html_urls.specs.declared.parts.UrlSlot.{UrlSlot}
use Rattle.html_view.specs.Attributes.{refused_for}
use Rattle.html_view.specs.Data.{Datum, Stack, look_up, stacks}
use Rattle.html_view.specs.Data as data_of
use Rattle.html_view.specs.Nodes as node
use Rattle.html_view.specs.Nodes.{Asked, Nodes, Opening, Placed}
use Rattle.html_view.specs.Rendered.{Unrolled, Unrolling, fitting, flag_text, fragment_for, is_json, no_unrolling, plain_text_for, put_front, put_markup, put_text, rendered, text_for, unrolled, unrolled_each, unrolled_section, unrolled_times}
use Rattle.html_view.specs.Unrolled.{AreTemplates, Stands, Unrolls, all_of, joined}
use Rattle.html_view.specs.Ways.{on_ok}
use Rattle.html_view.specs.declared.faults.ValueFault.{ValueFault}
use Rattle.html_view.specs.declared.node.Times.{Times}
use Rattle.html_view.specs.declared.node.Times.TheVariants.{Attributes, Each, Given, If, Once, Whether}
use Rattle.html_view.proofs.Sound.{is_page_of}

-- ---- a text that has no fault may fill its slot

place_fits : (p : SlotPlace) (text : List ℕ) → empty_fault p text ≡ None → FitsPlace p text
place_fits Unquoted [] is = absurd (cc)
place_fits Unquoted (b ∷ text) is = λ none. omega arith
place_fits p text is = tt

segment_fits : (slot : UrlSlot) (text : List ℕ) → segment_fault slot text ≡ None → may_fill slot text ≡ true
segment_fits slot text is =
    ⊎_elim
    (λ (may : may_fill slot text ≡ true). may)
    (λ (may_not : may_fill slot text ≡ false).
    ⊎_elim
    (λ (empty : (length text == 0) ≡ true). let here : Some fault.EmptySegment ≡ None = rw (may_not, empty) at is in absurd (cc))
    (λ (full : (length text == 0) ≡ false). let here : Some fault.DotSegment ≡ None = rw (may_not, full) at is in absurd (cc))
    (cases_Bool (length text == 0)))
    (cases_Bool (may_fill slot text))

text_fits : (p : SlotPlace) (kind : SlotKind) (text : List ℕ) → text_fault p kind text ≡ None → MayFill p kind text
text_fits p kind.Text text is = place_fits p text is
text_fits p (kind.UrlPart slot) text is = segment_fits slot text is
text_fits p kind.Link text is =
    ⊎_elim
    (λ (link : is_link text ≡ true). link)
    (λ (none : is_link text ≡ false). let here : Some fault.NotALink ≡ None = rw none at is in absurd (cc))
    (cases_Bool (is_link text))
text_fits p kind.OwnPath text is =
    ⊎_elim
    (λ (own : is_own_path text ≡ true). own)
    (λ (none : is_own_path text ≡ false). let here : Some fault.NotAnOwnPath ≡ None = rw none at is in absurd (cc))
    (cases_Bool (is_own_path text))
text_fits p (kind.Base behind) text is =
    ⊎_elim
    (λ (base : is_base behind text ≡ true). base)
    (λ (none : is_base behind text ≡ false). let here : Some fault.NotABase ≡ None = rw none at is in absurd (cc))
    (cases_Bool (is_base behind text))
text_fits p (kind.OwnBase behind) text is =
    ⊎_elim
    (λ (own : is_own_base behind text ≡ true). own)
    (λ (none : is_own_base behind text ≡ false). let here : Some fault.NotAnOwnBase ≡ None = rw none at is in absurd (cc))
    (cases_Bool (is_own_base behind text))
text_fits p kind.Literal text is = tt
text_fits p kind.Json text is = tt
text_fits p kind.StyleValue text is =
    ⊎_elim
    (λ (all : list_all is_style_byte text ≡ true). all)
    (λ (none : list_all is_style_byte text ≡ false). let here : Some fault.NotAStyleValue ≡ None = rw none at is in absurd (cc))
    (cases_Bool (list_all is_style_byte text))

fitting_fits : (slot : Placed) (text found : List ℕ) (first : Option TextFault) → text_fault slot.place slot.kind text ≡ first →
    fitting slot text first ≡ Ok found → MayFill slot.place slot.kind found
fitting_fits slot text found None is told =
    let same : text ≡ found = cc in
    subst (MayFill slot.place slot.kind) same (text_fits slot.place slot.kind text is)
fitting_fits slot text found (Some f) is told = absurd (cc)

plain_fits : (slot : Placed) (value : Option Datum) (found : List ℕ) → plain_text_for slot value ≡ Ok found → MayFill slot.place slot.kind found
plain_fits slot None found told = absurd (cc)
plain_fits slot (Some data_of.Nothing) found told = absurd (cc)
plain_fits slot (Some (data_of.Text text)) found told = fitting_fits slot text found (text_fault slot.place slot.kind text) refl told
plain_fits slot (Some (data_of.Number text)) found told = fitting_fits slot text found (text_fault slot.place slot.kind text) refl told
plain_fits slot (Some (data_of.Flag flag)) found told =
    fitting_fits slot (flag_text flag) found (text_fault slot.place slot.kind (flag_text flag)) refl told
plain_fits slot (Some (data_of.Fragment markup whole)) found told = absurd (cc)
plain_fits slot (Some (data_of.Items items)) found told = absurd (cc)
plain_fits slot (Some (data_of.Record fields)) found told = absurd (cc)

-- a slot for JSON takes any text
json_fits : (p : SlotPlace) (slot_kind : SlotKind) (text : List ℕ) → is_json slot_kind ≡ true → MayFill p slot_kind text
json_fits p kind.Json text is = tt
json_fits p other text is = absurd (cc)

pub text_for_fits : (slot : Placed) (value : Option Datum) (found : List ℕ) → text_for slot value ≡ Ok found → MayFill slot.place slot.kind found
text_for_fits slot value found told =
    ⊎_elim
    (λ (json : is_json slot.kind ≡ true). json_fits slot.place slot.kind found json)
    (λ (plain : is_json slot.kind ≡ false). plain_fits slot value found (rw plain at told))
    (cases_Bool (is_json slot.kind))

-- a fragment is whole
fragment_whole : (slot : Asked) (value : Option Datum) (found : List ℕ) → fragment_for slot value ≡ Ok found → IsWhole found
fragment_whole slot None found told = absurd (cc)
fragment_whole slot (Some data_of.Nothing) found told = absurd (cc)
fragment_whole slot (Some (data_of.Fragment markup whole)) found told =
    let same : markup ≡ found = cc in
    subst IsWhole same whole
fragment_whole slot (Some (data_of.Text text)) found told = absurd (cc)
fragment_whole slot (Some (data_of.Number text)) found told = absurd (cc)
fragment_whole slot (Some (data_of.Flag flag)) found told = absurd (cc)
fragment_whole slot (Some (data_of.Items items)) found told = absurd (cc)
fragment_whole slot (Some (data_of.Record fields)) found told = absurd (cc)

-- ---- what is found, and then goes on

pub record IsFound {A B F : Type 0} (first : Result A F) (go_on : A → Result B F) (last : B) : Type 0 where
  pub value : A
  pub is : first ≡ Ok value
  pub goes : go_on value ≡ Ok last

pub found_in : {A B F : Type 0} (first : Result A F) (go_on : A → Result B F) (last : B) → on_ok first go_on ≡ Ok last → IsFound first go_on last
found_in (Ok value) go_on last told = record { value = value; is = refl; goes = told }
found_in (Err f) go_on last told = absurd (cc)

-- ---- unrollings

fill_both : (first second : List Chunk) (texts others : List (List ℕ)) → Fill first texts → Fill second others → Fill (first ++ second) (texts ++ others)
fill_both [] second [] others full more = more
fill_both [] second (text ∷ texts) others full more = absurd full
fill_both (Markup bytes ∷ first) second texts others full more = fill_both first second texts others full more
fill_both (Slot p kind ∷ first) second [] others full more = absurd full
fill_both (Slot p kind ∷ first) second (text ∷ texts) others full more = (full.0, fill_both first second texts others full.1 more)

pub record IsUnrolling (nodes : Nodes Placed) (found : Unrolling) : Type 0 where
  pub unrolls : Unrolls nodes found.pieces
  pub full : Fill found.pieces found.texts

-- passes of a body
record ArePasses (body : Nodes Placed) (found : Unrolling) : Type 0 where
  passes : List (List Chunk)
  whole : found.pieces ≡ all_of passes
  unroll : AllByRecursion (λ pass. Unrolls body pass) passes
  full : Fill found.pieces found.texts

are_passes : (body : Nodes Placed) (rendering : Stack → Unrolled) →
    ((inner : Stack) (found : Unrolling) → rendering inner ≡ Ok found → IsUnrolling body found) →
    (stacks : List Stack) (found : Unrolling) → unrolled_each rendering stacks ≡ Ok found → ArePasses body found
are_passes body rendering each [] found told =
    let same : no_unrolling ≡ found = cc in
    subst (ArePasses body) same (record { passes = []; whole = refl; unroll = tt; full = tt })
are_passes body rendering each (stack ∷ stacks) found told =
    let first = found_in (rendering stack) (λ front. on_ok (unrolled_each rendering stacks) (put_front front)) found told in
    let rest = found_in (unrolled_each rendering stacks) (put_front first.value) found first.goes in
    let here = each stack first.value first.is in
    let others = are_passes body rendering each stacks rest.value rest.is in
    let goes : Ok (record { pieces = first.value.pieces ++ rest.value.pieces; texts = first.value.texts ++ rest.value.texts }) ≡ Ok found = rest.goes in
    let same : record { pieces = first.value.pieces ++ rest.value.pieces; texts = first.value.texts ++ rest.value.texts } ≡ found = cc in
    subst (ArePasses body) same (record {
      passes = first.value.pieces ∷ others.passes;
      whole = ap (λ x. first.value.pieces ++ x) others.whole;
      unroll = (here.unrolls, others.unroll);
      full = fill_both first.value.pieces rest.value.pieces first.value.texts rest.value.texts here.full others.full;
    })

-- a body, as often as it may stand, or what stands where it does not
pub record AreSome (times : Times) (body otherwise : Nodes Placed) (found : Unrolling) : Type 0 where
  pub either : Stands times (λ pass. Unrolls body pass) found.pieces ⊎ Unrolls otherwise found.pieces
  pub full : Fill found.pieces found.texts

are_repeated : (body : Nodes Placed) (rendering : Stack → Unrolled) →
    ((inner : Stack) (found : Unrolling) → rendering inner ≡ Ok found → IsUnrolling body found) →
    (stack : Stack) (stacks : List Stack) (otherwise : Nodes Placed) (found : Unrolling) → unrolled_each rendering (stack ∷ stacks) ≡ Ok found →
    AreSome Each body otherwise found
are_repeated body rendering each stack stacks otherwise found told =
    let first = found_in (rendering stack) (λ front. on_ok (unrolled_each rendering stacks) (put_front front)) found told in
    let rest = found_in (unrolled_each rendering stacks) (put_front first.value) found first.goes in
    let here = each stack first.value first.is in
    let others = are_passes body rendering each stacks rest.value rest.is in
    let goes : Ok (record { pieces = first.value.pieces ++ rest.value.pieces; texts = first.value.texts ++ rest.value.texts }) ≡ Ok found = rest.goes in
    let same : record { pieces = first.value.pieces ++ rest.value.pieces; texts = first.value.texts ++ rest.value.texts } ≡ found = cc in
    subst (AreSome Each body otherwise) same (record {
      either = inl (first.value.pieces, others.passes, ap (λ x. first.value.pieces ++ x) others.whole, here.unrolls, others.unroll);
      full = fill_both first.value.pieces rest.value.pieces first.value.texts rest.value.texts here.full others.full;
    })

are_some : (opening : Opening) (times : Times) (body otherwise : Nodes Placed) (rendering : Stack → Unrolled) →
    ((inner : Stack) (found : Unrolling) → rendering inner ≡ Ok found → IsUnrolling body found) →
    (stack : Stack) (stacks : List Stack) (found : Unrolling) → unrolled_times opening times rendering stack stacks ≡ Ok found →
    AreSome times body otherwise found
are_some opening Each body otherwise rendering each stack stacks found told = are_repeated body rendering each stack stacks otherwise found told
are_some opening Once body otherwise rendering each stack [] found told =
    let here = each stack found told in record { either = inl here.unrolls; full = here.full }
are_some opening Once body otherwise rendering each stack (another ∷ stacks) found told = absurd (cc)
are_some opening If body otherwise rendering each stack [] found told =
    let here = each stack found told in record { either = inl here.unrolls; full = here.full }
are_some opening If body otherwise rendering each stack (another ∷ stacks) found told = absurd (cc)
are_some opening Whether body otherwise rendering each stack [] found told =
    let here = each stack found told in record { either = inl here.unrolls; full = here.full }
are_some opening Whether body otherwise rendering each stack (another ∷ stacks) found told = absurd (cc)
are_some opening Given body otherwise rendering each stack [] found told =
    let here = each stack found told in record { either = inl here.unrolls; full = here.full }
are_some opening Given body otherwise rendering each stack (another ∷ stacks) found told = absurd (cc)
are_some opening Attributes body otherwise rendering each stack [] found told =
    let here = each stack found told in record { either = inl here.unrolls; full = here.full }
are_some opening Attributes body otherwise rendering each stack (another ∷ stacks) found told = absurd (cc)

pub are_either : (opening : Opening) (refused : Option ValueFault) (body otherwise : Nodes Placed) (rendering : Stack → Unrolled) (other : Unrolled) →
    ((inner : Stack) (found : Unrolling) → rendering inner ≡ Ok found → IsUnrolling body found) →
    ((found : Unrolling) → other ≡ Ok found → IsUnrolling otherwise found) →
    (around : List Stack) (found : Unrolling) → unrolled_section opening refused rendering other around ≡ Ok found → AreSome opening.times body otherwise found
are_either opening (Some why) body otherwise rendering other each else_branch around found told = absurd (cc)
are_either opening None body otherwise rendering other each else_branch [] found told =
    let here = else_branch found told in record { either = inr here.unrolls; full = here.full }
are_either opening None body otherwise rendering other each else_branch (stack ∷ stacks) found told =
    are_some opening opening.times body otherwise rendering each stack stacks found told

pub is_unrolling : (nodes : Nodes Placed) (stack : Stack) (found : Unrolling) → unrolled nodes stack ≡ Ok found → IsUnrolling nodes found
is_unrolling node.End stack found told =
    let same : no_unrolling ≡ found = cc in
    subst (IsUnrolling node.End) same (record { unrolls = refl; full = tt })
is_unrolling (node.Markup bytes rest) stack found told =
    let more = found_in (unrolled rest stack) (put_markup bytes) found told in
    let here = is_unrolling rest stack more.value more.is in
    let goes : Ok (record { pieces = Markup bytes ∷ more.value.pieces; texts = more.value.texts }) ≡ Ok found = more.goes in
    let same : record { pieces = Markup bytes ∷ more.value.pieces; texts = more.value.texts } ≡ found = cc in
    subst (IsUnrolling (node.Markup bytes rest)) same (record { unrolls = (more.value.pieces, refl, here.unrolls); full = here.full })
is_unrolling (node.Slot slot rest) stack found told =
    let one = found_in (text_for slot (look_up slot.asked.name stack)) (λ text. on_ok (unrolled rest stack) (put_text slot text)) found told in
    let more = found_in (unrolled rest stack) (put_text slot one.value) found one.goes in
    let here = is_unrolling rest stack more.value more.is in
    let goes : Ok (record { pieces = Slot slot.place slot.kind ∷ more.value.pieces; texts = one.value ∷ more.value.texts }) ≡ Ok found = more.goes in
    let same : record { pieces = Slot slot.place slot.kind ∷ more.value.pieces; texts = one.value ∷ more.value.texts } ≡ found = cc in
    subst (IsUnrolling (node.Slot slot rest)) same (record {
      unrolls = (more.value.pieces, refl, here.unrolls);
      full = (text_for_fits slot (look_up slot.asked.name stack) one.value one.is, here.full);
    })
is_unrolling (node.Fragment slot rest) stack found told =
    let one = found_in (fragment_for slot (look_up slot.name stack)) (λ markup. on_ok (unrolled rest stack) (put_markup markup)) found told in
    let more = found_in (unrolled rest stack) (put_markup one.value) found one.goes in
    let here = is_unrolling rest stack more.value more.is in
    let goes : Ok (record { pieces = Markup one.value ∷ more.value.pieces; texts = more.value.texts }) ≡ Ok found = more.goes in
    let same : record { pieces = Markup one.value ∷ more.value.pieces; texts = more.value.texts } ≡ found = cc in
    subst (IsUnrolling (node.Fragment slot rest)) same (record {
      unrolls = (one.value, more.value.pieces, fragment_whole slot (look_up slot.name stack) one.value one.is, refl, here.unrolls);
      full = here.full;
    })
is_unrolling (node.Section opening body otherwise rest) stack found told =
    let around = stacks opening.times (look_up opening.name stack) stack in
    let refused = refused_for opening.times (look_up opening.name stack) in
    let part = unrolled_section opening refused (λ inner. unrolled body inner) (unrolled otherwise stack) around in
    let one = found_in part (λ front. on_ok (unrolled rest stack) (put_front front)) found told in
    let more = found_in (unrolled rest stack) (put_front one.value) found one.goes in
    let front = are_either opening refused body otherwise (λ inner. unrolled body inner) (unrolled otherwise stack)
    (λ inner value is. is_unrolling body inner value is) (λ value is. is_unrolling otherwise stack value is) around one.value one.is in
    let here = is_unrolling rest stack more.value more.is in
    let goes : Ok (record { pieces = one.value.pieces ++ more.value.pieces; texts = one.value.texts ++ more.value.texts }) ≡ Ok found = more.goes in
    let same : record { pieces = one.value.pieces ++ more.value.pieces; texts = one.value.texts ++ more.value.texts } ≡ found = cc in
    subst (IsUnrolling (node.Section opening body otherwise rest)) same (record {
      unrolls = (one.value.pieces, more.value.pieces, refl, front.either, here.unrolls);
      full = fill_both one.value.pieces more.value.pieces one.value.texts more.value.texts front.full here.full;
    })

-- the page that is rendered is one of the unrolling's template
pub rendered_page : (nodes : Nodes Placed) (stack : Stack) (found : Unrolling) → AreTemplates nodes → unrolled nodes stack ≡ Ok found →
    AllByRecursion IsUtf8 found.texts → IsPageOf (map part_of (joined found.pieces)) found.texts (rendered found)
rendered_page nodes stack found sound told utf8 =
    let here = is_unrolling nodes stack found told in
    is_page_of nodes found.pieces found.texts sound here.unrolls here.full utf8
