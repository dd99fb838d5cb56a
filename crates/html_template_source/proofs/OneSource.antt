-- A source has one list of parts that take turns, and one list of names.
use Rattle.std.proofs.Common.{ℕ, ◌≡◌, Bool, true, false, not, ◌&&◌, ◌||◌, List, [], ◌∷◌, ◌++◌, ◌==◌, bytes_eq, eqb, inl, inr, refl, sym, ap, ◌∙◌, append-nil, append_assoc, arith}
use Rattle.std.proofs.lemmas.Bool.Decides.{nat_tests}
use Rattle.std.specs.Char.{is_ascii_alphanumeric}
use Rattle.std.specs.List.{list_all, starts_with}
use Rattle.std.proofs.lemmas.Bool.{and_parts, cases_Bool}
use Rattle.std.proofs.lemmas.Slice.Eq.{bytes_eq-Decides}
use Rattle.html_template.specs.Templates.{Given, GivenMarkup, GivenSlot}
use Rattle.html_template_source.specs.Sources.{AreNamed, ArePlain, EndsInOpening, IsPlainBefore, IsSourceOf, Lacks, TakeTurns, are_letters, are_named, are_plain, closing, ends_in_opening, is_name, is_plain_before, is_source, opening, opens_slot, quoted_opening, slot_text, take_turns, written}

-- ---- the test of a source

no_mark : (bytes : List ℕ) → opens_slot bytes ≡ false → Lacks opening bytes
no_mark bytes none [] rest is = let clash : true ≡ false = rw is at none in cc
no_mark [] none (b ∷ front) rest is = cc
no_mark (c ∷ bytes) none (b ∷ front) rest is =
    let later : bytes ≡ front ++ (opening ++ rest) = cc in
    no_mark bytes (or_right (starts_with eqb (c ∷ bytes) opening) (opens_slot bytes) none) front rest later
  where
    or_right : (x y : Bool) → (x || y) ≡ false → y ≡ false
    or_right x y none = grind (arith, nat_tests)

is_not : (x : Bool) → not x ≡ true → x ≡ false
is_not x is = grind (arith, nat_tests)

-- one byte more before the mark, where none begins with it
opening_behind : (b : ℕ) (bytes : List ℕ) → starts_with eqb (b ∷ bytes) opening ≡ false → EndsInOpening bytes → EndsInOpening (b ∷ bytes)
opening_behind b bytes none ends = record {
  front = b ∷ ends.front;
  is = ap (λ x. b ∷ x) ends.is;
  first = lacks;
}
  where
    lacks : Lacks opening (b ∷ ends.front)
    lacks [] rest is =
        let whole : b ∷ bytes ≡ opening ++ (rest ++ opening) = ap (λ x. b ∷ x) ends.is ∙ ap (λ x. x ++ opening) is in
        let clash : true ≡ false = ap (λ x. starts_with eqb x opening) (sym whole) ∙ none in cc
    lacks (c ∷ before) rest is = ends.first before rest (cc)

mark_last : (bytes : List ℕ) → ends_in_opening bytes ≡ true → EndsInOpening bytes
mark_last [] ends = cc
mark_last (b ∷ bytes) ends = elim (cases_Bool (bytes_eq (b ∷ bytes) opening)) [
  | inl all ↦ record {
    front = [];
    is = (bytes_eq-Decides (b ∷ bytes) opening).0 all;
    first = no_mark [] refl;
  }
  | inr none ↦
      let later : (not (starts_with eqb (b ∷ bytes) opening) && ends_in_opening bytes) ≡ true = rw none at ends in
      let both = and_parts (not (starts_with eqb (b ∷ bytes) opening)) (ends_in_opening bytes) later in
      opening_behind b bytes (is_not (starts_with eqb (b ∷ bytes) opening) both.0) (mark_last bytes both.1)
]

plain_before : (parts : List Given) (bytes : List ℕ) → is_plain_before parts bytes ≡ true → IsPlainBefore parts bytes
plain_before parts bytes plain = grind (arith, nat_tests, no_mark, is_not, mark_last)

plain_parts : (parts : List Given) → are_plain parts ≡ true → ArePlain parts
plain_parts [] plain = tt
plain_parts (GivenMarkup bytes ∷ parts) plain =
    let both = and_parts (is_plain_before parts bytes) (are_plain parts) plain in
    (plain_before parts bytes both.0, plain_parts parts both.1)
plain_parts (GivenSlot ∷ parts) plain = plain_parts parts plain

named_parts : (parts : List Given) (names : List (List ℕ)) → are_named parts names ≡ true → AreNamed parts names
named_parts [] [] named = tt
named_parts [] (name ∷ names) named = cc
named_parts (GivenMarkup bytes ∷ parts) names named = named_parts parts names named
named_parts (GivenSlot ∷ parts) [] named = cc
named_parts (GivenSlot ∷ parts) (name ∷ names) named =
    let both = and_parts (is_name name) (are_named parts names) named in
    (both.0, named_parts parts names both.1)

parts_turn : (parts : List Given) → take_turns parts ≡ true → TakeTurns parts
parts_turn [] is = cc
parts_turn (GivenSlot ∷ parts) is = cc
parts_turn (GivenMarkup bytes ∷ []) is = tt
parts_turn (GivenMarkup bytes ∷ GivenSlot ∷ parts) is = parts_turn parts is
parts_turn (GivenMarkup bytes ∷ GivenMarkup more ∷ parts) is = parts_turn (GivenMarkup more ∷ parts) is

pub is_source_of : (parts : List Given) (names : List (List ℕ)) (bytes : List ℕ) → is_source parts names bytes ≡ true → IsSourceOf parts names bytes × TakeTurns parts
is_source_of parts names bytes is =
    let third = and_parts (bytes_eq (written parts names) bytes && are_plain parts && are_named parts names) (take_turns parts) is in
    let second = and_parts (bytes_eq (written parts names) bytes && are_plain parts) (are_named parts names) third.0 in
    let first = and_parts (bytes_eq (written parts names) bytes) (are_plain parts) second.0 in (
      record {
        whole = (bytes_eq-Decides (written parts names) bytes).0 first.0;
        plain = plain_parts parts first.1;
        named = named_parts parts names second.1;
      },
      parts_turn parts third.1,
    )

-- ---- two lists of parts of one source

lacks_tail : (b : ℕ) (bytes : List ℕ) → Lacks opening (b ∷ bytes) → Lacks opening bytes
lacks_tail b bytes lacks front rest is = lacks (b ∷ front) rest (ap (λ l. b ∷ l) is)

-- no closing brace stands in the bytes
abbrev unclosed : List ℕ → Bool
unclosed bytes = list_all (λ b. not (b == 125)) bytes

-- what may stand between two marks: it begins with no brace, and holds no closing one
record IsInner (inner : List ℕ) : Type 0 where
  begins : (rest after : List ℕ) → inner ++ (closing ++ rest) ≡ 123 ∷ after → ⊥
  ends : unclosed inner ≡ true

-- a name begins with no brace
no_brace : (name rest after : List ℕ) → is_name name ≡ true → name ++ (closing ++ rest) ≡ 123 ∷ after → ⊥
no_brace [] rest after named is = cc
no_brace (b ∷ name) rest after named is =
    let same : b ≡ 123 = cc in
    let letters : are_letters (b ∷ name) ≡ true = (and_parts _ (are_letters (b ∷ name)) named).1 in
    let clash : false ≡ true = rw same at letters in
    cc

-- no letter is a brace
letters_unclosed : (name : List ℕ) → are_letters name ≡ true → unclosed name ≡ true
letters_unclosed [] letters = refl
letters_unclosed (b ∷ name) letters =
    let both = and_parts (is_ascii_alphanumeric b || b == 95) (are_letters name) letters in
    rw (open_letter b both.0) (letters_unclosed name both.1)
  where
    open_letter : (b : ℕ) → (is_ascii_alphanumeric b || b == 95) ≡ true → (b == 125) ≡ false
    open_letter b letter = grind (arith, nat_tests)

name_inner : (name : List ℕ) → is_name name ≡ true → IsInner name
name_inner name named = grind (arith, nat_tests, no_brace, letters_unclosed)

quoted_inner : IsInner quoted_opening
quoted_inner = record { begins = λ rest after is. cc; ends = refl }

-- a mark does not begin within markup that lacks it
within : (inner rest : List ℕ) → IsInner inner → (b : ℕ) (bytes after : List ℕ) → Lacks opening (b ∷ bytes) →
    slot_text inner ++ rest ≡ b ∷ bytes ++ (opening ++ after) → ⊥
within inner rest is_inner b [] after lacks is =
    let behind : (inner ++ closing) ++ rest ≡ 123 ∷ after = cc in
    is_inner.begins rest after (sym (append_assoc inner closing rest) ∙ behind)
within inner rest is_inner b (c ∷ bytes) after lacks is =
    let first : b ≡ 123 = cc in
    let second : c ≡ 123 = cc in
    lacks [] bytes (rw (first, second) refl)

-- so it begins where the markup ends
begins_behind : (inner other rest more first second : List ℕ) → IsInner inner → IsInner other → Lacks opening first → Lacks opening second →
    first ++ (slot_text inner ++ rest) ≡ second ++ (slot_text other ++ more) → (first ≡ second) × (slot_text inner ++ rest ≡ slot_text other ++ more)
begins_behind inner other rest more [] [] is_inner other_inner lacks other_lacks is = (refl, is)
begins_behind inner other rest more (b ∷ first) (c ∷ second) is_inner other_inner lacks other_lacks is =
    let head : b ≡ c = cc in
    let tail : first ++ (slot_text inner ++ rest) ≡ second ++ (slot_text other ++ more) = cc in
    let both = begins_behind inner other rest more first second is_inner other_inner (lacks_tail b first lacks) (lacks_tail c second other_lacks) tail in
    (rw (head, both.0) refl, both.1)
begins_behind inner other rest more [] (c ∷ second) is_inner other_inner lacks other_lacks is =
    absurd (within inner rest is_inner c second ((other ++ closing) ++ more) other_lacks is)
begins_behind inner other rest more (b ∷ first) [] is_inner other_inner lacks other_lacks is =
    absurd (within other more other_inner b first ((inner ++ closing) ++ rest) lacks (sym is))

-- such a byte is no closing brace
no_close : (b : ℕ) (bytes : List ℕ) → unclosed (b ∷ bytes) ≡ true → b ≡ 125 → ⊥
no_close b bytes free is = let clash : false ≡ true = rw is at free in cc

later_open : (b : ℕ) (bytes : List ℕ) → unclosed (b ∷ bytes) ≡ true → unclosed bytes ≡ true
later_open b bytes free = (and_parts (not (b == 125)) (unclosed bytes) free).1

-- what stands between two marks ends where the second begins
inner_ends : (inner other rest more : List ℕ) → unclosed inner ≡ true → unclosed other ≡ true → inner ++ (closing ++ rest) ≡ other ++ (closing ++ more) →
    (inner ≡ other) × (rest ≡ more)
inner_ends [] [] rest more free other_free is = (refl, cc)
inner_ends (b ∷ inner) (c ∷ other) rest more free other_free is =
    let head : b ≡ c = cc in
    let tail : inner ++ (closing ++ rest) ≡ other ++ (closing ++ more) = cc in
    let both = inner_ends inner other rest more (later_open b inner free) (later_open c other other_free) tail in
    (rw (head, both.0) refl, both.1)
inner_ends [] (c ∷ other) rest more free other_free is = absurd (no_close c other other_free (cc))
inner_ends (b ∷ inner) [] rest more free other_free is = absurd (no_close b inner free (cc))

-- markup up to a mark, what stands behind the mark, and the rest
same_marks : (inner other rest more first second : List ℕ) → IsInner inner → IsInner other → Lacks opening first → Lacks opening second →
    first ++ (slot_text inner ++ rest) ≡ second ++ (slot_text other ++ more) → (first ≡ second) × (inner ≡ other) × (rest ≡ more)
same_marks inner other rest more first second is_inner other_inner lacks other_lacks is =
    let front = begins_behind inner other rest more first second is_inner other_inner lacks other_lacks is in
    let behind : (inner ++ closing) ++ rest ≡ (other ++ closing) ++ more = cc in
    let ends = inner_ends inner other rest more is_inner.ends other_inner.ends
    (sym (append_assoc inner closing rest) ∙ behind ∙ append_assoc other closing more) in
    (front.0, ends.0, ends.1)

-- markup that lacks the mark is no markup with a mark behind it
lacks_mark : (first markup inner rest : List ℕ) → Lacks opening first → first ++ [] ≡ markup ++ (slot_text inner ++ rest) → ⊥
lacks_mark first markup inner rest lacks is = lacks markup ((inner ++ closing) ++ rest) (sym (append-nil first) ∙ is)

-- no name is that of the mark
name_is_not_quoted : (name : List ℕ) → is_name name ≡ true → name ≡ quoted_opening → ⊥
name_is_not_quoted name named is = let clash : false ≡ true = rw is at named in cc

-- markup that ends in the mark, and what is written behind it
ended : (bytes rest : List ℕ) (ends : EndsInOpening bytes) → bytes ++ ((quoted_opening ++ closing) ++ rest) ≡ ends.front ++ (slot_text quoted_opening ++ rest)
ended bytes rest ends = ap (λ x. x ++ ((quoted_opening ++ closing) ++ rest)) ends.is ∙ append_assoc ends.front opening ((quoted_opening ++ closing) ++ rest)

same_parts : (parts others : List Given) (names more : List (List ℕ)) → TakeTurns parts → ArePlain parts → AreNamed parts names → TakeTurns others → ArePlain others →
    AreNamed others more → written parts names ≡ written others more → (parts ≡ others) × (names ≡ more)
same_parts (GivenMarkup first ∷ []) (GivenMarkup second ∷ []) [] [] turns plain named other_turns other_plain other_named is =
    let same : first ≡ second = sym (append-nil first) ∙ is ∙ append-nil second in
    (rw same refl, refl)
same_parts (GivenMarkup first ∷ GivenSlot ∷ parts) (GivenMarkup second ∷ GivenSlot ∷ others) (name ∷ names) (other ∷ more) turns plain named other_turns other_plain other_named is =
    let same = same_marks name other (written parts names) (written others more) first second (name_inner name named.0) (name_inner other other_named.0) plain.0 other_plain.0 is in
    let later = same_parts parts others names more turns plain.1 named.1 other_turns other_plain.1 other_named.1 same.2 in
    (rw (same.0, later.0) refl, rw (same.1, later.1) refl)
same_parts (GivenMarkup first ∷ GivenMarkup next ∷ parts) (GivenMarkup second ∷ GivenMarkup other_next ∷ others) names more turns plain named other_turns other_plain other_named is =
    let parts_are = ended first (written (GivenMarkup next ∷ parts) names) plain.0 in
    let others_are = ended second (written (GivenMarkup other_next ∷ others) more) other_plain.0 in
    let same = same_marks quoted_opening quoted_opening (written (GivenMarkup next ∷ parts) names) (written (GivenMarkup other_next ∷ others) more)
    plain.0.front other_plain.0.front quoted_inner quoted_inner plain.0.first other_plain.0.first (sym parts_are ∙ is ∙ others_are) in
    let later = same_parts (GivenMarkup next ∷ parts) (GivenMarkup other_next ∷ others) names more turns plain.1 named other_turns other_plain.1 other_named same.2 in
    let markup : first ≡ second = plain.0.is ∙ ap (λ x. x ++ opening) same.0 ∙ sym other_plain.0.is in
    (rw (markup, later.0) refl, later.1)
same_parts (GivenMarkup first ∷ []) (GivenMarkup second ∷ GivenSlot ∷ others) [] (other ∷ more) turns plain named other_turns other_plain other_named is =
    absurd (lacks_mark first second other (written others more) plain.0 is)
same_parts (GivenMarkup first ∷ GivenSlot ∷ parts) (GivenMarkup second ∷ []) (name ∷ names) [] turns plain named other_turns other_plain other_named is =
    absurd (lacks_mark second first name (written parts names) other_plain.0 (sym is))
same_parts (GivenMarkup first ∷ []) (GivenMarkup second ∷ GivenMarkup next ∷ others) [] more turns plain named other_turns other_plain other_named is =
    let others_are = ended second (written (GivenMarkup next ∷ others) more) other_plain.0 in
    absurd (lacks_mark first other_plain.0.front quoted_opening (written (GivenMarkup next ∷ others) more) plain.0 (is ∙ others_are))
same_parts (GivenMarkup first ∷ GivenMarkup next ∷ parts) (GivenMarkup second ∷ []) names [] turns plain named other_turns other_plain other_named is =
    let parts_are = ended first (written (GivenMarkup next ∷ parts) names) plain.0 in
    absurd (lacks_mark second plain.0.front quoted_opening (written (GivenMarkup next ∷ parts) names) other_plain.0 (sym is ∙ parts_are))
same_parts (GivenMarkup first ∷ GivenSlot ∷ parts) (GivenMarkup second ∷ GivenMarkup next ∷ others) (name ∷ names) more turns plain named other_turns other_plain other_named is =
    let others_are = ended second (written (GivenMarkup next ∷ others) more) other_plain.0 in
    let same = same_marks name quoted_opening (written parts names) (written (GivenMarkup next ∷ others) more) first other_plain.0.front
    (name_inner name named.0) quoted_inner plain.0 other_plain.0.first (is ∙ others_are) in
    absurd (name_is_not_quoted name named.0 same.1)
same_parts (GivenMarkup first ∷ GivenMarkup next ∷ parts) (GivenMarkup second ∷ GivenSlot ∷ others) names (other ∷ more) turns plain named other_turns other_plain other_named is =
    let parts_are = ended first (written (GivenMarkup next ∷ parts) names) plain.0 in
    let same = same_marks other quoted_opening (written others more) (written (GivenMarkup next ∷ parts) names) second plain.0.front
    (name_inner other other_named.0) quoted_inner other_plain.0 plain.0.first (sym is ∙ parts_are) in
    absurd (name_is_not_quoted other other_named.0 same.1)
same_parts [] others names more turns plain named other_turns other_plain other_named is = absurd turns
same_parts (GivenSlot ∷ parts) others names more turns plain named other_turns other_plain other_named is = absurd turns
same_parts (GivenMarkup first ∷ []) others (name ∷ names) more turns plain named other_turns other_plain other_named is = absurd named
same_parts (GivenMarkup first ∷ GivenSlot ∷ parts) others [] more turns plain named other_turns other_plain other_named is = absurd named
same_parts parts [] names more turns plain named other_turns other_plain other_named is = absurd other_turns
same_parts parts (GivenSlot ∷ others) names more turns plain named other_turns other_plain other_named is = absurd other_turns
same_parts parts (GivenMarkup second ∷ []) names (other ∷ more) turns plain named other_turns other_plain other_named is = absurd other_named
same_parts parts (GivenMarkup second ∷ GivenSlot ∷ others) names [] turns plain named other_turns other_plain other_named is = absurd other_named

pub same_source : (parts others : List Given) (names more : List (List ℕ)) (source : List ℕ) → TakeTurns parts → IsSourceOf parts names source → TakeTurns others →
    IsSourceOf others more source → (parts ≡ others) × (names ≡ more)
same_source parts others names more source turns is other_turns other_is = grind (arith, nat_tests, same_parts)
