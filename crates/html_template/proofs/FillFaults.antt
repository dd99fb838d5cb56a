-- The first fault of the texts: where there is none the texts fill the template, and what is answered.
use Rattle.std.proofs.Common.{ℕ, ◌≡◌, ◌↔◌, ◌+◌, List, [], ◌∷◌, Option, None, Some, Ok, Err, Result, refl, sym, inl, inr, arith, length, ◌∙◌, false, true, Bool, if◌then◌else◌}
use Rattle.std.proofs.lemmas.Bool.Decides.{nat_tests}
use Rattle.std.proofs.lemmas.Bool.{cases_Bool}
use Rattle.std.specs.List.{list_all}
use Rattle.std.specs.Option.{option_or}
use Rattle.std.specs.Prelude.{IsErrOf, OnOk, None, not}
use Rattle.std.specs.Result.{result_err}
use Rattle.html_template.specs.FirstFault.{AreNone, IsFirst, first_from}
use Rattle.html_template.proofs.FirstFault.{TellsApart, is_first, is_none, some_first}
use Rattle.html_template.specs.declared.faults.FillFault.{FillFault}
use Rattle.html_template.specs.declared.faults.FillFault.TheVariants as fill
use Rattle.html_template.specs.declared.faults.FillFault.TheVariants.{WrongCount, Memory}
use Rattle.html_template.specs.declared.faults.TextFault.{TextFault}
use Rattle.html_template.specs.declared.parts.SlotKind.{SlotKind}
use Rattle.html_template.specs.declared.parts.SlotKind.TheVariants as kind
use Rattle.html_template.specs.FillFaults.{AnswersFill, count_fault, empty_fault, fill_fault, fill_from, text_fault, text_faults, has_checked, is_checked, slot_count}
use Rattle.html_template.specs.declared.faults.WriteFault.{WriteFault}
use Rattle.html_template.specs.declared.faults.WriteFault.TheVariants.{Texts}
use Rattle.html_template.specs.Templates.{Chunk, Fill, Markup, MayFill, Slot}
use Rattle.html_template.specs.Writing.{AnswersWriting}
use Rattle.html_tokenizer.specs.Declarations.{is_style_byte}
use Rattle.html_tokenizer.specs.declared.slot_place.SlotPlace.{SlotPlace}
use Rattle.html_urls.specs.Bases.{is_base, is_own_base}

-- ---- a text has no fault exactly where it may fill its slot

empty_fits : (p : SlotPlace) (text : List ℕ) → empty_fault p text ≡ None → MayFill p kind.Text text
empty_fits p text is = grind (arith, nat_tests)

none_fits : (p : SlotPlace) (kind : SlotKind) (text : List ℕ) → text_fault p kind text ≡ None → MayFill p kind text
none_fits p kind.Text text is = empty_fits p text is
none_fits p (kind.UrlPart slot) text is = grind (arith, nat_tests)
none_fits p kind.Link text is = grind (arith, nat_tests)
none_fits p kind.OwnPath text is = grind (arith, nat_tests)
none_fits p (kind.Base behind) text is = elim (cases_Bool (is_base behind text)) [
  | inl base ↦ base
  | inr not ↦ absurd (let clash = rw not at is in cc)
]
none_fits p (kind.OwnBase behind) text is = elim (cases_Bool (is_own_base behind text)) [
  | inl own ↦ own
  | inr not ↦ absurd (let clash = rw not at is in cc)
]
none_fits p kind.Literal text is = tt
none_fits p kind.Json text is = tt
none_fits p kind.StyleValue text is = elim (cases_Bool (list_all is_style_byte text)) [
  | inl all ↦ all
  | inr not ↦ absurd (let clash = rw not at is in cc)
]

fits_none : (p : SlotPlace) (kind : SlotKind) (text : List ℕ) → MayFill p kind text → text_fault p kind text ≡ None
fits_none p kind text may = grind (arith, nat_tests)

pub fits : (p : SlotPlace) (kind : SlotKind) (text : List ℕ) → (text_fault p kind text ≡ None) ↔ MayFill p kind text
fits p kind text = (none_fits p kind text, fits_none p kind text)

-- ---- there is none exactly where the texts fill the template

none_fills : (n : ℕ) (chunks : List Chunk) (texts : List (List ℕ)) → fill_from n chunks texts ≡ None → Fill chunks texts
none_fills n [] [] is = tt
none_fills n [] (text ∷ texts) is = absurd (cc)
none_fills n (Markup bytes ∷ chunks) texts is = none_fills n chunks texts is
none_fills n (Slot p kind ∷ chunks) [] is = absurd (cc)
none_fills n (Slot p kind ∷ chunks) (text ∷ texts) is = first (none_fills (n + 1) chunks texts) (text_fault p kind text) refl is
  where
    first : (fill_from (n + 1) chunks texts ≡ None → Fill chunks texts) → (told : Option TextFault) → text_fault p kind text ≡ told →
        option_or (first_from fill.Text n (told ∷ text_faults chunks texts)) (count_fault chunks texts) ≡ None → MayFill p kind text × Fill chunks texts
    first later None here is = (none_fits p kind text here, later is)
    first later (Some why) here is = absurd (cc)

fills_none : (n : ℕ) (chunks : List Chunk) (texts : List (List ℕ)) → Fill chunks texts → fill_from n chunks texts ≡ None
fills_none n [] [] full = refl
fills_none n [] (text ∷ texts) full = absurd full
fills_none n (Markup bytes ∷ chunks) texts full = fills_none n chunks texts full
fills_none n (Slot p kind ∷ chunks) [] full = absurd full
fills_none n (Slot p kind ∷ chunks) (text ∷ texts) full = rw (fits_none p kind text full.0) (fills_none (n + 1) chunks texts full.1)

pub fills : (chunks : List Chunk) (texts : List (List ℕ)) → (fill_fault chunks texts ≡ None) ↔ Fill chunks texts
fills chunks texts = (none_fills 0 chunks texts, fills_none 0 chunks texts)

pub ok_fills : (T : Type 0) (chunks : List Chunk) (texts : List (List ℕ)) (result : Result T FillFault) → result_err result ≡ fill_fault chunks texts →
    OnOk result (Fill chunks texts)
ok_fills T chunks texts (Ok done) is = none_fills 0 chunks texts (sym is)
ok_fills T chunks texts (Err fault) is = tt

-- ---- which one it is

tells_apart : TellsApart fill.Text
tells_apart = record { position = λ m n why other is. cc; fault = λ m n why other is. cc }

never_count : (chunks : List Chunk) (texts : List (List ℕ)) (fault : FillFault) → (fault ≡ WrongCount → ⊥) → count_fault chunks texts ≡ Some fault → ⊥
never_count [] [] fault other is = cc
never_count [] (text ∷ texts) fault other is = other (cc)
never_count (Markup bytes ∷ chunks) texts fault other is = never_count chunks texts fault other is
never_count (Slot p kind ∷ chunks) [] fault other is = other (cc)
never_count (Slot p kind ∷ chunks) (text ∷ texts) fault other is = never_count chunks texts fault other is

-- that of a text comes first
first_of : (first second : Option FillFault) (fault : FillFault) → (second ≡ Some fault → ⊥) → (option_or first second ≡ Some fault) ↔ (first ≡ Some fault)
first_of first second fault never = grind (arith, nat_tests)

second_of : (first second : Option FillFault) (fault : FillFault) → (first ≡ Some fault → ⊥) →
    (option_or first second ≡ Some fault) ↔ ((first ≡ None) × (second ≡ Some fault))
second_of first second fault never = grind (arith, nat_tests)

-- a text's is that of the first text with a fault
is_text : (chunks : List Chunk) (texts : List (List ℕ)) (number : ℕ) (why : TextFault) →
    (fill_fault chunks texts ≡ Some (fill.Text number why)) ↔ IsFirst number why (text_faults chunks texts)
is_text chunks texts number why =
    let text = first_of (first_from fill.Text 0 (text_faults chunks texts)) (count_fault chunks texts) (fill.Text number why) (never_count chunks texts (fill.Text number why) (λ is. cc)) in
    let first = is_first fill.Text tells_apart (text_faults chunks texts) number why in
    (λ is. first.0 (text.0 is), λ at. text.1 (first.1 at))

-- WrongCount comes where no text has one, and there are more or fewer than the slots
is_count : (chunks : List Chunk) (texts : List (List ℕ)) →
    (fill_fault chunks texts ≡ Some WrongCount) ↔ (AreNone (text_faults chunks texts) × (count_fault chunks texts ≡ Some WrongCount))
is_count chunks texts =
    let both = second_of (first_from fill.Text 0 (text_faults chunks texts)) (count_fault chunks texts) WrongCount
    (some_first fill.Text 0 (text_faults chunks texts) WrongCount (λ m why is. cc)) in
    let none = is_none fill.Text 0 (text_faults chunks texts) in
    (λ is. (none.0 (both.0 is).0, (both.0 is).1), λ at. both.1 (none.1 at.0, at.1))

never_memory : (chunks : List Chunk) (texts : List (List ℕ)) → fill_fault chunks texts ≡ Some Memory → ⊥
never_memory chunks texts is =
    some_first fill.Text 0 (text_faults chunks texts) Memory (λ m why same. cc)
    ((first_of (first_from fill.Text 0 (text_faults chunks texts)) (count_fault chunks texts) Memory (never_count chunks texts Memory (λ same. cc))).0 is)

-- ---- the answer

pub answered : (T : Type 0) (chunks : List Chunk) (texts : List (List ℕ)) (fault : FillFault) → fill_fault chunks texts ≡ Some fault →
    AnswersFill {T = T} (fill_fault chunks texts) (Err fault)
answered T chunks texts WrongCount is = is
answered T chunks texts (fill.Text number why) is = is
answered T chunks texts Memory is = absurd (never_memory chunks texts is)

-- a fault of texts is answered exactly where it is the first
is_answered : (first : Option FillFault) (result : Result (Unit {0}) FillFault) (fault : FillFault) → (fault ≡ Memory → ⊥) → AnswersFill first result →
    IsErrOf result fault ↔ (first ≡ Some fault)
is_answered first result fault other answers = grind (arith, nat_tests)

is_written : (first : Option FillFault) (result : Result (Unit {0}) (WriteFault FillFault)) (fault : FillFault) → AnswersWriting first result →
    IsErrOf result (Texts fault) ↔ (first ≡ Some fault)
is_written first result fault answers = grind (arith, nat_tests)

chained : {A B C : Type 0} → A ↔ B → B ↔ C → A ↔ C
chained first second = (λ a. second.0 (first.0 a), λ c. first.1 (second.1 c))

pub text_answered : (chunks : List Chunk) (texts : List (List ℕ)) (result : Result (Unit {0}) FillFault) (number : ℕ) (why : TextFault) →
    AnswersFill (fill_fault chunks texts) result → IsErrOf result (fill.Text number why) ↔ IsFirst number why (text_faults chunks texts)
text_answered chunks texts result number why answers =
    chained (is_answered (fill_fault chunks texts) result (fill.Text number why) (λ is. cc) answers) (is_text chunks texts number why)

pub text_written : (chunks : List Chunk) (texts : List (List ℕ)) (result : Result (Unit {0}) (WriteFault FillFault)) (number : ℕ) (why : TextFault) →
    AnswersWriting (fill_fault chunks texts) result → IsErrOf result (Texts (fill.Text number why)) ↔ IsFirst number why (text_faults chunks texts)
text_written chunks texts result number why answers =
    chained (is_written (fill_fault chunks texts) result (fill.Text number why) answers) (is_text chunks texts number why)

pub count_answered : (chunks : List Chunk) (texts : List (List ℕ)) (result : Result (Unit {0}) FillFault) → AnswersFill (fill_fault chunks texts) result →
    IsErrOf result WrongCount ↔ (AreNone (text_faults chunks texts) × (count_fault chunks texts ≡ Some WrongCount))
count_answered chunks texts result answers = chained (is_answered (fill_fault chunks texts) result WrongCount (λ is. cc) answers) (is_count chunks texts)

pub count_written : (chunks : List Chunk) (texts : List (List ℕ)) (result : Result (Unit {0}) (WriteFault FillFault)) → AnswersWriting (fill_fault chunks texts) result →
    IsErrOf result (Texts WrongCount) ↔ (AreNone (text_faults chunks texts) × (count_fault chunks texts ≡ Some WrongCount))
count_written chunks texts result answers = chained (is_written (fill_fault chunks texts) result WrongCount answers) (is_count chunks texts)

-- ---- no slot is checked, and there are as many texts

takes_any : (p : SlotPlace) (kind : SlotKind) (text : List ℕ) → is_checked p kind ≡ false → text_fault p kind text ≡ None
takes_any p kind text none = grind (arith, nat_tests)

-- neither this slot nor one behind it is checked
record AreFree (here others : Bool) : Type 0 where
  first : here ≡ false
  later : others ≡ false

are_free : (here others : Bool) → (if here then true else others) ≡ false → AreFree here others
are_free here others none = grind (arith, nat_tests)

fault_by_count : (n : ℕ) (chunks : List Chunk) (texts : List (List ℕ)) → slot_count chunks ≡ length texts → has_checked chunks ≡ false →
    fill_from n chunks texts ≡ None
fault_by_count n [] [] same none = refl
fault_by_count n [] (text ∷ texts) same none = absurd (omega arith)
fault_by_count n (Markup bytes ∷ chunks) texts same none = fault_by_count n chunks texts same none
fault_by_count n (Slot p kind ∷ chunks) [] same none = absurd (omega arith)
fault_by_count n (Slot p kind ∷ chunks) (text ∷ texts) same none =
    let free = are_free (is_checked p kind) (has_checked chunks) none in
    rw (takes_any p kind text free.first) (fault_by_count (n + 1) chunks texts (omega arith) free.later)

when_not : (b : Bool) → not b ≡ true → b ≡ false
when_not b is = grind (arith, nat_tests)

pub no_fault : (chunks : List Chunk) (texts : List (List ℕ)) (checked : Bool) → not checked ≡ true → checked ≡ has_checked chunks → slot_count chunks ≡ length texts →
    fill_fault chunks texts ≡ None
no_fault chunks texts checked none is same = fault_by_count 0 chunks texts same (sym is ∙ when_not checked none)
