-- A slot in the value of a declaration leaves the declarations of a `style` attribute as they are.
use Rattle.std.specs.Prelude.{⊤}
use Rattle.std.proofs.Common.{ℕ, ◌≡◌, Bool, true, false, ◌||◌, if◌then◌else◌, List, [], ◌∷◌, ◌++◌, ◌==◌, Option, Some, refl, ap, ◌∙◌, sym, subst, append_assoc, append-nil, ⊎_elim, length, arith}
use Rattle.std.specs.List.{AllByRecursion, list_all}
use Rattle.std.specs.Option.{option_map}
use Rattle.std.proofs.lemmas.Bool.{and_parts, cases_Bool, eqb-true}
use Rattle.hesc_specs.specs.Text.Ascii.{semicolon}
use Rattle.html_tokenizer.specs.declared.states.StylePart.{StylePart}
use Rattle.html_tokenizer.specs.declared.states.StylePart.TheVariants.{BeforeName, Name, AfterName, Value, Important, Opaque}
use Rattle.html_tokenizer.specs.Declarations.{bang, before_colon, colon, declarations, declarations_from, is_blank, is_plain, is_style_byte, is_word_byte, names_of, stays_in_value, with_names}
use Rattle.html_tokenizer.specs.Styles.{HasSameDeclarations, StandInValues, filled_with}
use Rattle.html_tokenizer.specs.Tokenizer.Attributes.StyleParts.{after_name_read, declaration_end, declarations_read, part_after}

-- ---- bytes of a declaration

plain_ends_none : (b : ℕ) → is_plain b ≡ true → (b == semicolon) ≡ false
plain_ends_none b plain =
    ⊎_elim
    (λ (is : (b == semicolon) ≡ true).
    let never : is_plain semicolon ≡ true = subst (λ c. is_plain c ≡ true) (eqb-true b semicolon is) plain in
    absurd (cc))
    (λ (other : (b == semicolon) ≡ false). other)
    (cases_Bool (b == semicolon))

value_is_plain : (b : ℕ) → is_style_byte b ≡ true → is_plain b ≡ true
value_is_plain b is = rw is refl

goes_on_is_plain : (b : ℕ) → (is_style_byte b || b == bang) ≡ true → is_plain b ≡ true
goes_on_is_plain b is = rw is refl

-- a plain byte is one more of the declaration
plain_read : (front : List ℕ) (b : ℕ) (value : List ℕ) → is_plain b ≡ true →
    declarations_from front (b ∷ value) ≡ declarations_from (front ++ b ∷ []) value
plain_read front b value plain = rw (plain_ends_none b plain, plain) refl

-- and so bytes of a text
text_read : (front text following : List ℕ) → list_all is_style_byte text ≡ true →
    declarations_from front (text ++ following) ≡ declarations_from (front ++ text) following
text_read front [] following all = rw (append-nil front) refl
text_read front (b ∷ text) following all =
    let parts = and_parts (is_style_byte b) (list_all is_style_byte text) all in
    plain_read front b (text ++ following) (value_is_plain b parts.0)
    ∙ text_read (front ++ b ∷ []) text following parts.1
    ∙ ap (λ x. declarations_from x following) (append_assoc front (b ∷ []) text)

-- ---- two beginnings of a declaration

-- whatever follows in it, they have the same name
abbrev AreAlike : List ℕ → List ℕ → Type 0
AreAlike front other = (following : List ℕ) → names_of (front ++ following) ≡ names_of (other ++ following)

longer_alike : (front other : List ℕ) (b : ℕ) → AreAlike front other → AreAlike (front ++ b ∷ []) (other ++ b ∷ [])
longer_alike front other b alike following =
    rw (append_assoc front (b ∷ []) following, append_assoc other (b ∷ []) following) (alike (b ∷ following))

alike_names : (front other : List ℕ) → AreAlike front other → names_of front ≡ names_of other
alike_names front other alike = rw (append-nil front, append-nil other) at (alike [])

stays_alike : (front other following : List ℕ) → AreAlike front other → stays_in_value following ≡ true →
    declarations_from front following ≡ declarations_from other following
stays_alike front other [] alike stays = ap (λ x. record { names = x; left = [] }) (alike_names front other alike)
stays_alike front other (b ∷ following) alike stays =
    ⊎_elim
    (λ (is : (b == semicolon) ≡ true).
    rw is (ap (λ x. with_names x (declarations_from [] following)) (alike_names front other alike)))
    (λ (no : (b == semicolon) ≡ false).
    let parts = and_parts (is_style_byte b || b == bang) (stays_in_value following) (rw no at stays) in
    let plain = goes_on_is_plain b parts.0 in
    plain_read front b following plain
    ∙ stays_alike (front ++ b ∷ []) (other ++ b ∷ []) following (longer_alike front other b alike) parts.1
    ∙ sym (plain_read other b following plain))
    (cases_Bool (b == semicolon))

-- ---- behind the colon

-- a `:` stands in it, before which the name is
abbrev HasColon : List ℕ → Type 0
HasColon front = (following : List ℕ) → before_colon (front ++ following) ≡ before_colon front

colon_ends : (front following : List ℕ) → before_colon (front ++ colon ∷ following) ≡ before_colon (front ++ colon ∷ [])
colon_ends [] following = refl
colon_ends (b ∷ front) following =
    ap (λ (more : Option (List ℕ)). if b == colon then Some [] else option_map (λ bytes. b ∷ bytes) more) (colon_ends front following)

colon_read : (front : List ℕ) → HasColon (front ++ colon ∷ [])
colon_read front following = rw (append_assoc front (colon ∷ []) following) (colon_ends front following)

longer_has_colon : (front : List ℕ) (b : ℕ) → HasColon front → HasColon (front ++ b ∷ [])
longer_has_colon front b has following =
    rw (append_assoc front (b ∷ []) following, has (b ∷ following), has (b ∷ [])) refl

texts_alike : (front text other : List ℕ) → HasColon front → AreAlike (front ++ text) (front ++ other)
texts_alike front text other has following =
    rw (append_assoc front text following, append_assoc front other following, has (text ++ following), has (other ++ following)) refl

same_behind_colon : (front text other following : List ℕ) → HasColon front →
    list_all is_style_byte text ≡ true → list_all is_style_byte other ≡ true → stays_in_value following ≡ true →
    declarations_from front (text ++ following) ≡ declarations_from front (other ++ following)
same_behind_colon front text other following has first second stays =
    text_read front text following first
    ∙ stays_alike (front ++ text) (front ++ other) following (texts_alike front text other has) stays
    ∙ sym (text_read front other following second)

-- ---- up to the slot

-- in a value, and behind its `!`, the `:` was read
abbrev Holds : StylePart → List ℕ → Type 0
Holds Value front = HasColon front
Holds Important front = HasColon front
Holds other front = ⊤

-- a byte ends the declaration, is one more of it, or makes the rest opaque
data Steps (part : StylePart) (b : ℕ) : Type 0 where
  ends : (b == semicolon) ≡ true → declarations_read part b ≡ BeforeName → Steps part b
  goes : is_plain b ≡ true → ((front : List ℕ) → Holds part front → Holds (declarations_read part b) (front ++ b ∷ [])) → Steps part b
  stops : declarations_read part b ≡ Opaque → Steps part b

goes_to : (part next : StylePart) (b : ℕ) → declarations_read part b ≡ next → is_plain b ≡ true →
    ((front : List ℕ) → Holds part front → Holds next (front ++ b ∷ [])) → Steps part b
goes_to part next b is plain holds = goes plain (λ front held. subst (λ p. Holds p (front ++ b ∷ [])) (sym is) (holds front held))

at_end : (part : StylePart) (b : ℕ) → declarations_read part b ≡ declaration_end b → Steps part b
at_end part b is =
    ⊎_elim
    (λ (here : (b == semicolon) ≡ true). ends here (is ∙ rw here refl))
    (λ (no : (b == semicolon) ≡ false). stops (is ∙ rw no refl))
    (cases_Bool (b == semicolon))

blank_is_plain : (b : ℕ) → is_blank b ≡ true → is_plain b ≡ true
blank_is_plain b is =
    ⊎_elim
    (λ (word : is_word_byte b ≡ true). rw word refl)
    (λ (other : is_word_byte b ≡ false). rw (other, is) refl)
    (cases_Bool (is_word_byte b))

word_is_plain : (b : ℕ) → is_word_byte b ≡ true → is_plain b ≡ true
word_is_plain b is = rw is refl

behind_name : (part : StylePart) (b : ℕ) → declarations_read part b ≡ after_name_read b → Steps part b
behind_name part b is =
    ⊎_elim
    (λ (here : (b == colon) ≡ true).
    let same : b ≡ colon = eqb-true b colon here in
    goes_to part Value b (is ∙ rw here refl) (subst (λ c. is_plain c ≡ true) (sym same) refl)
    (λ front held. subst (λ c. HasColon (front ++ c ∷ [])) (sym same) (colon_read front)))
    (λ (no : (b == colon) ≡ false).
    ⊎_elim
    (λ (blank : is_blank b ≡ true). goes_to part AfterName b (is ∙ rw (no, blank) refl) (blank_is_plain b blank) (λ front held. tt))
    (λ (other : is_blank b ≡ false). stops (is ∙ rw (no, other) refl))
    (cases_Bool (is_blank b)))
    (cases_Bool (b == colon))

steps : (part : StylePart) (b : ℕ) → Steps part b
steps BeforeName b =
    ⊎_elim
    (λ (word : is_word_byte b ≡ true). goes_to BeforeName Name b (rw word refl) (word_is_plain b word) (λ front held. tt))
    (λ (no : is_word_byte b ≡ false).
    ⊎_elim
    (λ (blank : is_blank b ≡ true). goes_to BeforeName BeforeName b (rw (no, blank) refl) (blank_is_plain b blank) (λ front held. tt))
    (λ (other : is_blank b ≡ false). at_end BeforeName b (rw (no, other) refl))
    (cases_Bool (is_blank b)))
    (cases_Bool (is_word_byte b))
steps Name b =
    ⊎_elim
    (λ (word : is_word_byte b ≡ true). goes_to Name Name b (rw word refl) (word_is_plain b word) (λ front held. tt))
    (λ (no : is_word_byte b ≡ false). behind_name Name b (rw no refl))
    (cases_Bool (is_word_byte b))
steps AfterName b = behind_name AfterName b refl
steps Value b =
    ⊎_elim
    (λ (value : is_style_byte b ≡ true).
    goes_to Value Value b (rw value refl) (value_is_plain b value) (λ front held. longer_has_colon front b held))
    (λ (no : is_style_byte b ≡ false).
    ⊎_elim
    (λ (mark : (b == bang) ≡ true).
    goes_to Value Important b (rw (no, mark) refl) (rw (no, mark) refl) (λ front held. longer_has_colon front b held))
    (λ (other : (b == bang) ≡ false). at_end Value b (rw (no, other) refl))
    (cases_Bool (b == bang)))
    (cases_Bool (is_style_byte b))
steps Important b =
    ⊎_elim
    (λ (more : (is_word_byte b || is_blank b) ≡ true).
    goes_to Important Important b (rw more refl) (rw more refl) (λ front held. longer_has_colon front b held))
    (λ (no : (is_word_byte b || is_blank b) ≡ false). at_end Important b (rw no refl))
    (cases_Bool (is_word_byte b || is_blank b))
steps Opaque b = stops refl

opaque_stays : (bytes : List ℕ) → part_after Opaque bytes ≡ Opaque
opaque_stays [] = refl
opaque_stays (b ∷ bytes) = opaque_stays bytes

never_value : (bytes : List ℕ) → part_after Opaque bytes ≡ Value → ⊥
never_value bytes is = let clash : Opaque ≡ Value = sym (opaque_stays bytes) ∙ is in cc

-- what is the same behind the `:` is the same behind the front
same_behind : (part : StylePart) (begun front first second : List ℕ) → Holds part begun → part_after part front ≡ Value →
    ((held : List ℕ) → HasColon held → declarations_from held first ≡ declarations_from held second) →
    declarations_from begun (front ++ first) ≡ declarations_from begun (front ++ second)
same_behind part begun [] first second holds is same = same begun (subst (λ p. Holds p begun) is holds)
same_behind part begun (b ∷ front) first second holds is same =
    elim (steps part b) [
      | ends here next ↦ rw here (ap (with_names (names_of begun))
          (same_behind BeforeName [] front first second tt (subst (λ p. part_after p front ≡ Value) next is) same))
      | goes plain held ↦ plain_read begun b (front ++ first) plain
          ∙ same_behind (declarations_read part b) (begun ++ b ∷ []) front first second (held begun holds) is same
          ∙ sym (plain_read begun b (front ++ second) plain)
      | stops gone ↦ absurd (never_value front (subst (λ p. part_after p front ≡ Value) gone is))
    ]

-- with one slot
same_with_one : (front text other following : List ℕ) → part_after BeforeName front ≡ Value → list_all is_style_byte text ≡ true →
    list_all is_style_byte other ≡ true → stays_in_value following ≡ true → declarations (front ++ (text ++ following)) ≡ declarations (front ++ (other ++ following))
same_with_one front text other following is first second stays =
    same_behind BeforeName [] front (text ++ following) (other ++ following) tt is
    (λ held has. same_behind_colon held text other following has first second stays)

-- ---- several slots

text_stays : (text following : List ℕ) → list_all is_style_byte text ≡ true → stays_in_value following ≡ true → stays_in_value (text ++ following) ≡ true
text_stays [] following all stays = stays
text_stays (b ∷ text) following all stays =
    let parts = and_parts (is_style_byte b) (list_all is_style_byte text) all in
    rw (parts.0, text_stays text following parts.1 stays) (or_true (b == semicolon))
  where
    or_true : (c : Bool) → (c || true) ≡ true
    or_true true = refl
    or_true false = refl

markup_stays : (markup following : List ℕ) → stays_in_value markup ≡ true → stays_in_value following ≡ true → stays_in_value (markup ++ following) ≡ true
markup_stays [] following first second = second
markup_stays (b ∷ markup) following first second =
    ⊎_elim
    (λ (is : (b == semicolon) ≡ true). rw is refl)
    (λ (no : (b == semicolon) ≡ false).
    let parts = and_parts (is_style_byte b || b == bang) (stays_in_value markup) (rw no at first) in
    rw (no, parts.0, markup_stays markup following parts.1 second) refl)
    (cases_Bool (b == semicolon))

filled_stays : (part : StylePart) (texts markups : List (List ℕ)) → StandInValues part markups → AllByRecursion (λ text. list_all is_style_byte text ≡ true) texts →
    stays_in_value (filled_with texts markups) ≡ true
filled_stays part [] markups stand taken = refl
filled_stays part (text ∷ texts) [] stand taken = refl
filled_stays part (text ∷ texts) (markup ∷ markups) stand taken =
    text_stays text (markup ++ filled_with texts markups) taken.0
    (markup_stays markup (filled_with texts markups) stand.1 (filled_stays (part_after Value markup) texts markups stand.2 taken.1))

part_after-append : (part : StylePart) (first second : List ℕ) → part_after part (first ++ second) ≡ part_after (part_after part first) second
part_after-append part [] second = refl
part_after-append part (b ∷ first) second = part_after-append (declarations_read part b) first second

text_keeps_part : (text : List ℕ) → list_all is_style_byte text ≡ true → part_after Value text ≡ Value
text_keeps_part [] all = refl
text_keeps_part (b ∷ text) all =
    let parts = and_parts (is_style_byte b) (list_all is_style_byte text) all in
    rw parts.0 (text_keeps_part text parts.1)

-- behind one slot more
part_behind : (front text markup : List ℕ) → part_after BeforeName front ≡ Value → list_all is_style_byte text ≡ true →
    part_after BeforeName ((front ++ text) ++ markup) ≡ part_after Value markup
part_behind front text markup is all =
    part_after-append BeforeName (front ++ text) markup
    ∙ ap (λ p. part_after p markup) (part_after-append BeforeName front text ∙ ap (λ p. part_after p text) is ∙ text_keeps_part text all)

-- the front, one text with its markup, and the others
joined : (front text markup following : List ℕ) → front ++ (text ++ (markup ++ following)) ≡ ((front ++ text) ++ markup) ++ following
joined front text markup following =
    sym (append_assoc front text (markup ++ following)) ∙ sym (append_assoc (front ++ text) markup following)

same_with_all : (front : List ℕ) (markups texts others : List (List ℕ)) → StandInValues (part_after BeforeName front) markups →
    length texts ≡ length markups → length others ≡ length markups →
    AllByRecursion (λ text. list_all is_style_byte text ≡ true) texts → AllByRecursion (λ text. list_all is_style_byte text ≡ true) others →
    declarations (front ++ filled_with texts markups) ≡ declarations (front ++ filled_with others markups)
same_with_all front [] [] [] stand first second taken also = refl
same_with_all front [] (text ∷ texts) others stand first second taken also = absurd (omega arith)
same_with_all front [] [] (other ∷ others) stand first second taken also = absurd (omega arith)
same_with_all front (markup ∷ markups) [] others stand first second taken also = absurd (omega arith)
same_with_all front (markup ∷ markups) (text ∷ texts) [] stand first second taken also = absurd (omega arith)
same_with_all front (markup ∷ markups) (text ∷ texts) (other ∷ others) stand first second taken also =
    let stays = markup_stays markup (filled_with texts markups) stand.1 (filled_stays (part_after Value markup) texts markups stand.2 taken.1) in
    let next : List ℕ = (front ++ other) ++ markup in
    let there = subst (λ p. StandInValues p markups) (sym (part_behind front other markup stand.0 also.0)) stand.2 in
    same_with_one front text other (markup ++ filled_with texts markups) stand.0 taken.0 also.0 stays
    ∙ ap declarations (joined front other markup (filled_with texts markups))
    ∙ same_with_all next markups texts others there (omega (arith, first)) (omega (arith, second)) taken.1 also.1
    ∙ sym (ap declarations (joined front other markup (filled_with others markups)))

pub same_declarations : (front : List ℕ) (markups : List (List ℕ)) → HasSameDeclarations front markups
same_declarations front markups texts others stand first second =
    same_with_all front markups texts others stand first.count second.count first.taken second.taken
