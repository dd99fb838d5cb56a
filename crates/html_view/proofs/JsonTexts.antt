-- The JSON of data, piece by piece, and what is read of it.
use Rattle.std.proofs.Common.{◌≡◌, ℕ, ◌≤◌, Bool, true, false, List, [], ◌∷◌, ◌++◌, Option, Some, None, codes, fold, option_map, refl, sym, ap, ap₂, ◌∙◌, subst, append_assoc, append-nil, arith, ◌==◌, inl, inr}
use Rattle.std.specs.Prelude.{⊤}
use Rattle.std.specs.Char.{is_ascii_digit}
use Rattle.std.specs.List.{list_all}
use Rattle.std.proofs.lemmas.Bool.{and_parts, cases_Bool, false≢true}
use Rattle.std.proofs.lemmas.Bool.Decides.{nat_tests}
use Rattle.json.specs.Json as json
use Rattle.json.specs.Json.{Json, document, max_depth}
use Rattle.json.specs.Print.{IsNumber, ends, print, print_from, quoted}
use Rattle.json.specs.Token as token
use Rattle.json.specs.Token.{Token}
use Rattle.json.specs.Tree.{HasNumbers, ItemsHaveNumbers, MembersHaveNumbers, depth, items_tokens, json_tokens, members_tokens}
use Rattle.json.specs.Word.{after_number}
use Rattle.json.proofs.Printed.Tokens.{print_from-append}
use Rattle.json.proofs.Printed.Trees.{document-print}
use Rattle.html_json.specs.Encoding.{json_encoding}
use Rattle.html_json.proofs.SameValue.{same_value}
use Rattle.html_template.specs.Slots.{written}
use Rattle.html_template.specs.declared.parts.SlotKind.{SlotKind}
use Rattle.html_template.specs.declared.parts.SlotKind.TheVariants as kind
use Rattle.html_tokenizer.specs.Tokenizer.Code.Scripts.{is_json_space}
use Rattle.html_tokenizer.specs.declared.slot_place.SlotPlace.{SlotPlace}
use Rattle.html_view.specs.Data.{Datum, Fields, Flag, Fragment, ItemList, Items, Nothing, Number, Record, Text, bare, field, item, no_items}
use Rattle.html_view.specs.JsonData.{datum_of_json, fields_of_json, items_of_json}
use Rattle.html_view.specs.JsonTexts.{both, comma, is_end, is_number, items_json, items_text, json_of, json_text, key_text, members_json, members_text, number_json}
use Rattle.html_view.specs.Rendered.{flag_text, is_json}

-- ---- one text and then another

abbrev pub followed : Option (List ℕ) → Option (List ℕ) → Option (List ℕ)
followed first later = both (λ a b. a ++ b) first later

-- what is printed of a value ends it, and a comma stands before it behind another
fold-append : (c : Bool) (ts us : List Token) → fold (λ _ t. ends t) c (ts ++ us) ≡ fold (λ _ t. ends t) (fold (λ _ t. ends t) c ts) us
fold-append c [] us = refl
fold-append c (t ∷ ts) us = fold-append (ends t) ts us

mutual
  json_ends : (j : Json) (c : Bool) → fold (λ _ t. ends t) c (json_tokens j) ≡ true
  json_ends json.null c = refl
  json_ends (json.boolean b) c = refl
  json_ends (json.number s) c = refl
  json_ends (json.string s) c = refl
  json_ends (json.array items) c = items_end items false
  json_ends (json.object named) c = members_end named false

  items_end : (items : json.Items) (c : Bool) → fold (λ _ t. ends t) c (items_tokens items) ≡ true
  items_end json.no_items c = refl
  items_end (json.item j items) c = fold-append c (json_tokens j) (items_tokens items) ∙ items_end items (fold (λ _ t. ends t) c (json_tokens j))

  members_end : (named : json.Members) (c : Bool) → fold (λ _ t. ends t) c (members_tokens named) ≡ true
  members_end json.no_members c = refl
  members_end (json.member k j named) c =
      fold-append false (json_tokens j) (members_tokens named) ∙ members_end named (fold (λ _ t. ends t) false (json_tokens j))

front : (j : Json) (c : Bool) → print_from c (json_tokens j) ≡ comma c ++ print (json_tokens j)
unfolding print_from
front json.null true = refl
front json.null false = refl
front (json.boolean b) true = refl
front (json.boolean b) false = refl
front (json.number s) true = refl
front (json.number s) false = refl
front (json.string s) true = refl
front (json.string s) false = refl
front (json.array items) true = refl
front (json.array items) false = refl
front (json.object named) true = refl
front (json.object named) false = refl

before : (j : Json) (c : Bool) (us : List Token) → print_from c (json_tokens j ++ us) ≡ comma c ++ (print (json_tokens j) ++ print_from true us)
before j c us =
    print_from-append c (json_tokens j) us
    ∙ ap₂ (λ l d. l ++ print_from d us) (front j c) (json_ends j c)
    ∙ append_assoc (comma c) (print (json_tokens j)) (print_from true us)

-- ---- lists

array_of : (o : Option json.Items) → option_map (λ j. print (json_tokens j)) (option_map json.array o) ≡
    followed (Some (codes "[")) (option_map (λ js. print_from false (items_tokens js)) o)
unfolding print_from
array_of None = refl
array_of (Some items) = refl

pub array_begins : (items : ItemList) → json_text (Items items) ≡ followed (Some (codes "[")) (items_text false items)
array_begins items = array_of (items_json items)

item_of : (after : Bool) (o : Option Json) (more : Option json.Items) → option_map (λ js. print_from after (items_tokens js)) (both json.item o more) ≡
    followed (Some (comma after)) (followed (option_map (λ j. print (json_tokens j)) o) (option_map (λ js. print_from true (items_tokens js)) more))
item_of after None more = refl
item_of after (Some j) None = refl
item_of after (Some j) (Some items) = ap Some (before j after (items_tokens items))

pub item_next : (after : Bool) (all items : ItemList) (value : Datum) → all ≡ item value items →
    items_text after all ≡ followed (Some (comma after)) (followed (json_text value) (items_text true items))
item_next after all items value is = ap (items_text after) is ∙ item_of after (json_of value) (items_json items)

no_item : (after : Bool) → items_text after no_items ≡ Some (codes "]")
unfolding print_from
no_item true = refl
no_item false = refl

pub array_ends : (after : Bool) (items : ItemList) → items ≡ no_items → items_text after items ≡ Some (codes "]")
array_ends after items is = ap (items_text after) is ∙ no_item after

-- ---- named values

object_of : (o : Option json.Members) → option_map (λ j. print (json_tokens j)) (option_map json.object o) ≡
    followed (Some (codes "{")) (option_map (λ ms. print_from false (members_tokens ms)) o)
unfolding print_from
object_of None = refl
object_of (Some named) = refl

pub object_begins : (fields : Fields) → json_text (Record fields) ≡ followed (Some (codes "{")) (members_text false fields)
object_begins fields = object_of (members_json fields)

key_printed : (after : Bool) (name : List ℕ) (ts : List Token) → print_from after (token.key name ∷ ts) ≡ key_text after name ++ print_from false ts
unfolding print_from
key_printed true name ts = refl
key_printed false name ts = refl

member_of : (after : Bool) (name : List ℕ) (o : Option Json) (more : Option json.Members) →
    option_map (λ ms. print_from after (members_tokens ms)) (both (json.member name) o more) ≡
    followed (Some (key_text after name)) (followed (option_map (λ j. print (json_tokens j)) o) (option_map (λ ms. print_from true (members_tokens ms)) more))
member_of after name None more = refl
member_of after name (Some j) None = refl
member_of after name (Some j) (Some named) =
    ap Some (key_printed after name (json_tokens j ++ members_tokens named) ∙ ap (λ l. key_text after name ++ l) (before j false (members_tokens named)))

pub member_next : (after : Bool) (name : List ℕ) (all fields : Fields) (value : Datum) → all ≡ field name value fields →
    members_text after all ≡ followed (Some (key_text after name)) (followed (json_text value) (members_text true fields))
member_next after name all fields value is = ap (members_text after) is ∙ member_of after name (json_of value) (members_json fields)

no_member : (after : Bool) → members_text after bare ≡ Some (codes "}")
unfolding print_from
no_member true = refl
no_member false = refl

pub object_ends : (after : Bool) (fields : Fields) → fields ≡ bare → members_text after fields ≡ Some (codes "}")
object_ends after fields is = ap (members_text after) is ∙ no_member after

-- ---- the other values

pub nothing_text : json_text Nothing ≡ Some (codes "null")
unfolding print_from
nothing_text = refl

pub flag_json : (flag : Bool) → json_text (Flag flag) ≡ Some (flag_text flag)
unfolding print_from
flag_json true = refl
flag_json false = refl

pub text_text : (text : List ℕ) → json_text (Text text) ≡ Some (quoted text)
unfolding print_from
text_text text = ap Some (append-nil (quoted text))

end_is : (o : Option (List ℕ)) → is_end o ≡ true → o ≡ Some []
end_is None is = cc
end_is (Some []) is = refl
end_is (Some (b ∷ rest)) is = cc

is_number-true : (text : List ℕ) → is_number text ≡ true → IsNumber text
is_number-true text is = end_is (after_number text) is

is_number-is : (text : List ℕ) → IsNumber text → is_number text ≡ true
is_number-is text is = ap is_end is

is_number-not : (text : List ℕ) → (IsNumber text → ⊥) → is_number text ≡ false
is_number-not text is_not = elim (cases_Bool (is_number text)) [
  | inl is ↦ absurd (is_not (is_number-true text is))
  | inr is ↦ is
]

pub number_text : (text : List ℕ) → IsNumber text → json_text (Number text) ≡ Some text
unfolding print_from
number_text text is = rw (is_number-is text is) (ap Some (append-nil text))

pub no_number_text : (text : List ℕ) → (IsNumber text → ⊥) → json_text (Number text) ≡ Some (quoted text)
unfolding print_from
no_number_text text is_not = rw (is_number-not text is_not) (ap Some (append-nil (quoted text)))

-- ---- the JSON of data can be written and read

abbrev OnSome : {A : Type 0} → (A → Type 0) → Option A → Type 0
OnSome P None = ⊤
OnSome P (Some value) = P value

on_map : {A B : Type 0} (f : A → B) (P : A → Type 0) (Q : B → Type 0) → ((a : A) → P a → Q (f a)) → (o : Option A) → OnSome P o → OnSome Q (option_map f o)
on_map f P Q goes None holds = tt
on_map f P Q goes (Some a) holds = goes a holds

on_both : {A B C : Type 0} (f : A → B → C) (P : A → Type 0) (Q : B → Type 0) (R : C → Type 0) → ((a : A) (b : B) → P a → Q b → R (f a b)) →
    (first : Option A) (second : Option B) → OnSome P first → OnSome Q second → OnSome R (both f first second)
on_both f P Q R goes None second one two = tt
on_both f P Q R goes (Some a) None one two = tt
on_both f P Q R goes (Some a) (Some b) one two = goes a b one two

number_has : (text : List ℕ) → HasNumbers (number_json text)
number_has text = elim (cases_Bool (is_number text)) [
  | inl is ↦ rw is (is_number-true text is)
  | inr is_not ↦ rw is_not tt
]

mutual
  has_numbers : (value : Datum) → OnSome HasNumbers (json_of value)
  has_numbers Nothing = tt
  has_numbers (Text text) = tt
  has_numbers (Number text) = number_has text
  has_numbers (Flag flag) = tt
  has_numbers (Fragment markup whole) = tt
  has_numbers (Items items) = on_map json.array ItemsHaveNumbers HasNumbers (λ js all. all) (items_json items) (items_have items)
  has_numbers (Record fields) = on_map json.object MembersHaveNumbers HasNumbers (λ ms all. all) (members_json fields) (members_have fields)

  items_have : (items : ItemList) → OnSome ItemsHaveNumbers (items_json items)
  items_have no_items = tt
  items_have (item value items) =
      on_both json.item HasNumbers ItemsHaveNumbers ItemsHaveNumbers (λ j js one all. (one, all)) (json_of value) (items_json items) (has_numbers value) (items_have items)

  members_have : (fields : Fields) → OnSome MembersHaveNumbers (members_json fields)
  members_have bare = tt
  members_have (field name value fields) =
      on_both (json.member name) HasNumbers MembersHaveNumbers MembersHaveNumbers (λ j ms one all. (one, all)) (json_of value) (members_json fields)
      (has_numbers value) (members_have fields)

pub numbers_of : (value : Datum) (j : Json) → json_of value ≡ Some j → HasNumbers j
numbers_of value j is = subst (OnSome HasNumbers) is (has_numbers value)

-- ---- it is not white space alone

no_minus : (b : ℕ) → is_json_space b ≡ true → (b == 45) ≡ false
no_minus b is = grind (arith, nat_tests)

no_zero : (b : ℕ) → is_json_space b ≡ true → (b == 48) ≡ false
no_zero b is = grind (arith, nat_tests)

no_digit : (b : ℕ) → is_json_space b ≡ true → is_ascii_digit b ≡ false
no_digit b is = grind (arith, nat_tests)

no_number : (text : List ℕ) → list_all is_json_space text ≡ true → is_number text ≡ false
unfolding after_number
no_number [] blank = refl
no_number (b ∷ text) blank =
    let parts = and_parts (is_json_space b) (list_all is_json_space text) blank in
    rw (no_minus b parts.0, no_zero b parts.0, no_digit b parts.0) refl

number_not_blank : (text : List ℕ) → IsNumber text → list_all is_json_space text ≡ false
number_not_blank text is = elim (cases_Bool (list_all is_json_space text)) [
  | inl blank ↦ absurd (false≢true (sym (no_number text blank) ∙ is_number-is text is))
  | inr other ↦ other
]

printed_not_blank : (j : Json) → HasNumbers j → list_all is_json_space (print (json_tokens j)) ≡ false
unfolding print_from
printed_not_blank json.null numbers = refl
printed_not_blank (json.boolean true) numbers = refl
printed_not_blank (json.boolean false) numbers = refl
printed_not_blank (json.number s) numbers = rw (append-nil s) (number_not_blank s numbers)
printed_not_blank (json.string s) numbers = refl
printed_not_blank (json.array items) numbers = refl
printed_not_blank (json.object named) numbers = refl

printed_in : (o : Option Json) (text : List ℕ) → option_map (λ j. print (json_tokens j)) o ≡ Some text → (j : Json) × (o ≡ Some j) × (print (json_tokens j) ≡ text)
printed_in None text told = absurd (cc)
printed_in (Some j) text told = let same : print (json_tokens j) ≡ text = cc in (j, refl, same)

pub text_not_blank : (value : Datum) (text : List ℕ) → json_text value ≡ Some text → list_all is_json_space text ≡ false
text_not_blank value text told =
    let printed = printed_in (json_of value) text told in
    subst (λ t. list_all is_json_space t ≡ false) printed.2 (printed_not_blank printed.0 (numbers_of value printed.0 printed.1))

-- so that it is written as it is
json_written : (p : SlotPlace) (slot_kind : SlotKind) (text : List ℕ) → is_json slot_kind ≡ true → list_all is_json_space text ≡ false →
    written p slot_kind text ≡ json_encoding text
json_written p kind.Json text is some = rw some refl
json_written p other text is some = absurd (cc)

pub value_written : (p : SlotPlace) (slot_kind : SlotKind) (value : Datum) (text : List ℕ) → is_json slot_kind ≡ true → json_text value ≡ Some text →
    written p slot_kind text ≡ json_encoding text
value_written p slot_kind value text is told = json_written p slot_kind text is (text_not_blank value text told)

-- ---- it reads back

pub reads_back : (p : SlotPlace) (value : Datum) (j : Json) (text : List ℕ) → json_of value ≡ Some j → depth j ≤ max_depth → json_text value ≡ Some text →
    document (written p kind.Json text) ≡ Some j
reads_back p value j text is shallow told =
    let same : option_map (λ j. print (json_tokens j)) (Some j) ≡ Some text = ap (option_map (λ j. print (json_tokens j))) (sym is) ∙ told in
    let printed : print (json_tokens j) ≡ text = cc in
    ap document (value_written p kind.Json value text refl told)
    ∙ same_value text j (ap document (sym printed) ∙ document-print j (numbers_of value j is) shallow)

mutual
  pub json_of_json : (j : Json) → HasNumbers j → json_of (datum_of_json j) ≡ Some j
  json_of_json json.null numbers = refl
  json_of_json (json.boolean b) numbers = refl
  json_of_json (json.number s) numbers = rw (is_number-is s numbers) refl
  json_of_json (json.string s) numbers = refl
  json_of_json (json.array items) numbers = ap (option_map json.array) (items_of_items items numbers)
  json_of_json (json.object named) numbers = ap (option_map json.object) (members_of_members named numbers)

  items_of_items : (items : json.Items) → ItemsHaveNumbers items → items_json (items_of_json items) ≡ Some items
  items_of_items json.no_items numbers = refl
  items_of_items (json.item j items) numbers = ap₂ (both json.item) (json_of_json j numbers.0) (items_of_items items numbers.1)

  members_of_members : (named : json.Members) → MembersHaveNumbers named → members_json (fields_of_json named) ≡ Some named
  members_of_members json.no_members numbers = refl
  members_of_members (json.member k j named) numbers =
      ap₂ (both (json.member k)) (json_of_json j numbers.0) (members_of_members named numbers.1)
