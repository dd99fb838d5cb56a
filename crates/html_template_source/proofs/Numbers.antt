-- The numbers of names.
use Rattle.std.proofs.Common.{ℕ, suc, ◌-◌, take, drop, ◌≡◌, ◌++◌, ◌<◌, ◌≤◌, ◌||◌, Bool, true, false, cond, List, [], ◌∷◌, length, map, inl, inr, refl, sym, ap, ◌∙◌, bytes_eq, get_or, arith}
use Rattle.std.proofs.lemmas.Bool.Decides.{nat_tests}
use Rattle.std.proofs.lemmas.Bool.{cases_Bool, cases_lt}
use Rattle.std.proofs.lemmas.Bool.Decides.{same_from_decides}
use Rattle.std.proofs.lemmas.List.{get_or_append_left, get_or-map, length-append, length-map, map-append}
use Rattle.std.proofs.Math.Bool.{or-false}
use Rattle.std.proofs.Math.Seq.{get_or-append_seam, take-length}
use Rattle.std.proofs.lemmas.Slice.Eq.{bytes_eq-Decides}
use Rattle.std.specs.Borrow.{Bor}
use Rattle.std.specs.Prelude.{Option, Some, None}
use Rattle.std.specs.Option.{is_some, option_map}
use Rattle.html_template.specs.Templates.{texts_of}
use Rattle.html_template_source.specs.Bindings.{is_among}
use Rattle.html_template_source.specs.Names.{AreBelow, AreSingle, AreUsed, name_at, number_of}

pub same_bytes : (x y : List ℕ) → bytes_eq x y ≡ true → x ≡ y
same_bytes x y = (bytes_eq-Decides x y).0

pub equal_bytes : (x y : List ℕ) → x ≡ y → bytes_eq x y ≡ true
equal_bytes x y = (bytes_eq-Decides x y).1

pub bytes_eq-sym : (x y : List ℕ) → bytes_eq x y ≡ bytes_eq y x
bytes_eq-sym x y = grind (arith, nat_tests, same_from_decides, bytes_eq, bytes_eq-Decides, same_bytes, equal_bytes)

later : (o : Option ℕ) (n : ℕ) → option_map suc o ≡ Some n → (m : ℕ) × (o ≡ Some m) × (n ≡ suc m)
later o n is = grind (arith, nat_tests)

-- a number is that of its name
pub numbered : (name : List ℕ) (names : List (List ℕ)) (n : ℕ) → number_of name names ≡ Some n → (n < length names) × (name_at names n ≡ name)
numbered name [] n is = absurd (cc)
numbered name (first ∷ names) n is = elim (cases_Bool (bytes_eq name first)) [
  | inl same ↦
      let e : Some 0 ≡ Some n = rw same at is in
      let z : n ≡ 0 = cc in
      rw z (omega arith, sym (same_bytes name first same))
  | inr other ↦
      let e : option_map suc (number_of name names) ≡ Some n = rw other at is in
      let m = later (number_of name names) n e in
      let h = numbered name names m.0 m.1 in
      rw m.2 (omega arith, h.1)
]

-- a name has a number where it is among the names
pub has_number : (name : List ℕ) (names : List (List ℕ)) → is_some (number_of name names) ≡ is_among name names
has_number name [] = refl
has_number name (first ∷ names) = grind (arith, nat_tests, has_number name names)

never : (n : ℕ) → Some n ≡ None → ⊥
never n is = cc

unmapped : (o : Option ℕ) → option_map suc o ≡ None → o ≡ None
unmapped o is = grind (arith, nat_tests)

mapped : (b : Bool) (n : ℕ) (o : Option ℕ) → option_map suc (cond b (Some n) o) ≡ cond b (Some (suc n)) (option_map suc o)
mapped b n o = grind (arith, nat_tests)

differs : (new name : List ℕ) (names : List (List ℕ)) (k : ℕ) → number_of new names ≡ None → number_of name names ≡ Some k → bytes_eq new name ≡ false
differs new name names k none was = elim (cases_Bool (bytes_eq new name)) [
  | inl same ↦
      let e : None ≡ Some k = sym none ∙ ap (λ x. number_of x names) (same_bytes new name same) ∙ was in
      absurd (cc)
  | inr other ↦ other
]

-- the numbers with one name more, which is new
pub number_after : (names : List (List ℕ)) (new : List ℕ) → number_of new names ≡ None → (name : List ℕ) →
    number_of name (names ++ new ∷ []) ≡ cond (bytes_eq new name) (Some (length names)) (number_of name names)
number_after [] new none name = grind (arith, nat_tests, bytes_eq, bytes_eq-sym)
number_after (first ∷ names) new none name = grind (arith, nat_tests, number_after names new, bytes_eq, never, unmapped, same_bytes, mapped)

-- and each of them still stands once
pub single_after : (names : List (List ℕ)) (new : List ℕ) → AreSingle names → number_of new names ≡ None → AreSingle (names ++ new ∷ [])
single_after names new single none k within = elim (cases_lt k (length names)) [
  | inl before ↦
      let same : name_at (names ++ new ∷ []) k ≡ name_at names k = get_or_append_left names (new ∷ []) [] k before in
      let was : number_of (name_at names k) names ≡ Some k = single k before in
      let apart : bytes_eq new (name_at names k) ≡ false = differs new (name_at names k) names k none was in
      ap (λ x. number_of x (names ++ new ∷ [])) same ∙ number_after names new none (name_at names k) ∙ rw apart was
  | inr past ↦
      let k_is : k ≡ length names = omega (arith, length-append names (new ∷ [])) in
      let same : name_at (names ++ new ∷ []) k ≡ new = ap (name_at (names ++ new ∷ [])) k_is ∙ get_or-append_seam names new [] [] in
      let itself : bytes_eq new new ≡ true = equal_bytes new new refl in
      ap (λ x. number_of x (names ++ new ∷ [])) same ∙ number_after names new none new ∙ rw itself (ap (λ x. Some x) (sym k_is))
]

-- the name that stands at a number has this number
pub found_here : (names : List (Bor (List ℕ))) (name : List ℕ) (guess : ℕ) (other : Bor (List ℕ)) → AreSingle (texts_of names) →
    guess < length names → other ≡ get_or names guess other → bytes_eq name other.now ≡ true → Some guess ≡ number_of name (texts_of names)
found_here names name guess other single within at same =
    let below : guess < length (texts_of names) = omega (arith, length-map names (λ (text : Bor (List ℕ)). text.now)) in
    let here : name_at (texts_of names) guess ≡ other.now =
    get_or-map (λ (text : Bor (List ℕ)). text.now) names guess other [] within ∙ ap (λ (text : Bor (List ℕ)). text.now) (sym at) in
    let is : name ≡ name_at (texts_of names) guess = same_bytes name other.now same ∙ sym here in
    sym (ap (λ x. number_of x (texts_of names)) is ∙ single guess below)

-- an index with one name more, which is new
pub indexed_after : (names more : List (Bor (List ℕ))) (new : Bor (List ℕ)) (number : ℕ) (get got : List ℕ → Option ℕ) → more ≡ names ++ new ∷ [] →
    number ≡ length names → number_of new.now (texts_of names) ≡ None → ((name : List ℕ) → get name ≡ number_of name (texts_of names)) →
    ((name : List ℕ) → got name ≡ cond (bytes_eq new.now name) (Some number) (get name)) → (name : List ℕ) → got name ≡ number_of name (texts_of more)
indexed_after names more new number get got more_is number_is none was after name = grind (arith, nat_tests, length-map, cond, bytes_eq, number_after, map-append)

-- one number more, below a greater count
pub below_after : (count more : ℕ) (numbers : List ℕ) (number : ℕ) → AreBelow count numbers → count ≤ more → number < more → AreBelow more (numbers ++ number ∷ [])
below_after count more numbers number below longer within k fits = elim (cases_lt k (length numbers)) [
  | inl before ↦ omega (arith, below k before, get_or_append_left numbers (number ∷ []) 0 k before)
  | inr past ↦
      let k_is : k ≡ length numbers = omega (arith, length-append numbers (number ∷ [])) in
      let here : get_or (numbers ++ number ∷ []) k 0 ≡ number = ap (λ i. get_or (numbers ++ number ∷ []) i 0) k_is ∙ get_or-append_seam numbers number [] 0 in
      omega arith
]

pub below_later : (count number : ℕ) (numbers : List ℕ) → AreBelow count (number ∷ numbers) → AreBelow count numbers
below_later count number numbers below k within = below (suc k) (omega arith)

-- the names of these numbers, and of one more
pub named_after : (names more : List (List ℕ)) (numbers : List ℕ) (number : ℕ) (name : List ℕ) → AreBelow (length names) numbers →
    ((k : ℕ) → k < length names → name_at more k ≡ name_at names k) → name_at more number ≡ name →
    map (name_at more) (numbers ++ number ∷ []) ≡ map (name_at names) numbers ++ name ∷ []
named_after names more [] number name below same is = ap (λ x. x ∷ []) is
named_after names more (first ∷ numbers) number name below same is =
    ap (λ x. x ∷ map (name_at more) (numbers ++ number ∷ [])) (same first (below 0 (omega arith)))
    ∙ ap (λ x. name_at names first ∷ x) (named_after names more numbers number name (below_later (length names) first numbers below) same is)

-- all but the first
pub others_of : {T : Type 0} (first : T) (others : List T) → take (length (first ∷ others) - 1) (drop 1 (first ∷ others)) ≡ others
others_of first others = let fewer : length (first ∷ others) - 1 ≡ length others = omega arith in ap (λ n. take n others) fewer ∙ take-length others

-- texts are the first and the others
pub first_and_others : (texts : List (Bor (List ℕ))) (first : Bor (List ℕ)) → 1 ≤ length texts →
    texts_of texts ≡ (get_or texts 0 first).now ∷ texts_of (take (length texts - 1) (drop 1 texts))
first_and_others [] first some = absurd (omega arith)
first_and_others (text ∷ texts) first some = ap (λ x. text.now ∷ texts_of x) (sym (others_of text texts))

-- what is among more names
pub among_after : (names : List (List ℕ)) (new name : List ℕ) → is_among name (names ++ new ∷ []) ≡ (is_among name names || bytes_eq name new)
among_after [] new name = or-false (bytes_eq name new)
among_after (first ∷ names) new name = grind (arith, nat_tests, among_after names new name)

-- a name that has a number is among them already
pub among_still : (names : List (List ℕ)) (old name : List ℕ) (number : ℕ) → number_of old names ≡ Some number →
    is_among name names ≡ (is_among name names || bytes_eq name old)
among_still names old name number is = elim (cases_Bool (bytes_eq name old)) [
  | inl same ↦
      let known : is_among name names ≡ true = sym (has_number name names) ∙ ap (λ x. is_some (number_of x names)) (same_bytes name old same) ∙ ap is_some is in
      rw known refl
  | inr other ↦ rw other (sym (or-false (is_among name names)))
]

-- each name is still that of a slot, with one slot more
pub used_after : (names more : List (List ℕ)) (numbers : List ℕ) (number : ℕ) (new : List ℕ) → AreUsed names numbers →
    map (name_at more) (numbers ++ number ∷ []) ≡ map (name_at names) numbers ++ new ∷ [] →
    ((name : List ℕ) → is_among name more ≡ (is_among name names || bytes_eq name new)) → AreUsed more (numbers ++ number ∷ [])
used_after names more numbers number new used slots among name = grind (arith, nat_tests, bytes_eq, among_after, map)
