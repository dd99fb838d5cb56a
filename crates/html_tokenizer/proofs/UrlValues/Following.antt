-- What a byte does in the value of a URL, and of a list of them.
use Rattle.std.proofs.Common.{ℕ, ◌≡◌, Bool, true, false, ◌||◌, List, [], ◌∷◌, ◌++◌, ◌==◌, Option, Some, None, if◌then◌else◌, refl, ◌∙◌, sym, arith}
use Rattle.std.specs.Char.{is_ascii_alphanumeric}
use Rattle.std.proofs.lemmas.Bool.{eqb-true, false≢true, true≢false}
use Rattle.std.proofs.lemmas.Bool.Decides.{nat_tests}
use Rattle.hesc_specs.specs.Text.Ascii.{ampersand, double_quote, greater_than, number_sign, semicolon, single_quote}
use Rattle.hesc_grammars.specs.Html.{is_unquoted_error}
use Rattle.hesc_grammars.specs.References.{body_character}
use Rattle.html_tokenizer.specs.declared.elements.Content.{Content}
use Rattle.html_tokenizer.specs.declared.states.ListPart.{ListPart}
use Rattle.html_tokenizer.specs.declared.slot_place.SlotPlace.{SlotPlace}
use Rattle.html_tokenizer.specs.declared.slot_place.SlotPlace.TheVariants.{Text, DoubleQuoted, SingleQuoted, Unquoted}
use Rattle.html_tokenizer.specs.Standing.{is_same}
use Rattle.html_tokenizer.specs.Tokenizer.States.{AfterValue, Attribute, BeforeName, FixedRawUrl, FixedUrl, In, Link, Listed, RawUrl, State, Url, Within, at_value}
use Rattle.html_tokenizer.specs.Tokenizer.Attributes.{content_after, may_end_raw, reference_read, value_byte_read}
use Rattle.html_tokenizer.specs.Tokenizer.Attributes.ListParts.{is_in_listed_url, is_list_mark, list_read}
use Rattle.html_tokenizer.specs.Tokenizer.Tags.{is_space, opened}
use Rattle.html_tokenizer.specs.Tokenizer.Tokenization.{value_byte, within_byte}
use Rattle.html_tokenizer.specs.Tokenizer.Transitions.{Transition, goes, keeps, moves, refuses}
use Rattle.html_tokenizer.specs.Tokenizer.Values.{begins_character, character_read, ended, quoted_byte, unquoted_byte}
use Rattle.html_tokenizer.specs.Tokenizer.Values.References.{ambiguous_end, begins_with_legacy, behind_reference, behind_word, characters_read, flushes, goes_on, legacy_end, name_end, named_characters, number_end, reference_byte, reference_end, unnamed_end}
use Rattle.html_tokenizer.specs.UrlValues.{begins_value, ends_value, is_of_urls, is_url}
use Rattle.html_tokenizer.proofs.UrlValues.Attributes.{Before, byte_going, ends_settled, is_going, is_listed, read_before, reference_before, word_before}
use Rattle.html_tokenizer.proofs.UrlValues.Names.{content_unnamed, is_named}
use Rattle.html_tokenizer.proofs.UrlValues.Places.{is_value_place}

-- in a value at this place
abbrev pub in_value : SlotPlace → State → Bool
in_value p (In q) = is_same p q
in_value p (Within q word) = is_same p q
in_value p other = false

-- after the byte the value goes on at this place, which the byte neither begins nor ends
pub record StaysAt (p : SlotPlace) (b : ℕ) (s : State) : Type 0 where
  pub inside : in_value p s ≡ true
  pub no_mark : begins_value p b ≡ false
  pub no_end : ends_value p b ≡ false

-- in no reference
abbrev pub is_unheld : State → Bool
is_unheld (Within p word) = false
is_unheld other = true

-- it is a list as before; a slot may stand in it only where one might before, or behind a byte that cuts it, right behind which no URL is open
pub record Steps (listed going : Bool) (b : ℕ) (s : State) (attribute : Attribute) : Type 0 where
  pub same : is_listed attribute ≡ listed
  pub goes : is_going attribute ≡ true → is_list_mark b ≡ false → going ≡ true
  pub marked : is_list_mark b ≡ true → listed ≡ true → (is_unheld s ≡ true) × (is_url attribute ≡ false)

-- so it is wherever the value is of URLs after the transition; no name begins there
pub record FollowsTo (listed going : Bool) (p : SlotPlace) (b : ℕ) (s : State) (attribute : Attribute) : Type 0 where
  pub stays : is_of_urls attribute ≡ true → StaysAt p b s
  pub steps : is_of_urls attribute ≡ true → Steps listed going b s attribute
  pub unnamed : is_named s ≡ false

abbrev pub Follows : Bool → Bool → SlotPlace → ℕ → Transition → Type 0
Follows listed going p b x = FollowsTo listed going p b x.next.state x.next.attribute

pub same_place : (p : SlotPlace) → is_same p p ≡ true
same_place Text = refl
same_place other = refl

either : {listed going : Bool} {p : SlotPlace} {b : ℕ} (test : Bool) (x y : Transition) → (test ≡ true → Follows listed going p b x) →
    (test ≡ false → Follows listed going p b y) → Follows listed going p b (if test then x else y)
either true x y first second = first refl
either false x y first second = second refl

-- ---- a byte in a value

none_follows : {listed going : Bool} {p : SlotPlace} {b : ℕ} (s : State) (attribute : Attribute) → is_of_urls attribute ≡ false → is_named s ≡ false →
    FollowsTo listed going p b s attribute
none_follows s attribute none unnamed = record {
  stays = λ of. absurd (true≢false (sym of ∙ none));
  steps = λ of. absurd (true≢false (sym of ∙ none));
  unnamed = unnamed;
}

ended_follows : {listed going : Bool} (p : SlotPlace) (b : ℕ) (content : Content) (attribute : Attribute) (next : Content → Transition) →
    is_of_urls attribute ≡ true → Follows listed going p b (next content) → Follows listed going p b (ended (content_after content attribute) next)
ended_follows p b content attribute next of follows = rw (ends_settled content attribute of) follows

-- a byte of a reference cuts no list
still_steps : {listed going : Bool} (b : ℕ) (s : State) (attribute : Attribute) → Before listed going attribute → is_list_mark b ≡ false →
    Steps listed going b s attribute
still_steps b s attribute before none =
    record { same = before.same; goes = λ is no_mark. before.goes is; marked = λ mark listed. absurd (true≢false (sym mark ∙ none)) }

list_marked : (part : ListPart) (b : ℕ) → is_list_mark b ≡ true → is_in_listed_url (list_read part b) ≡ false
list_marked part b mark = grind (arith, nat_tests)

-- one that is a URL alone stays one
whole_steps : {listed going : Bool} (b : ℕ) (s : State) (attribute : Attribute) → Before listed going attribute → is_listed attribute ≡ false →
    Steps listed going b s attribute
whole_steps b s attribute before whole =
    record { same = before.same; goes = λ is no_mark. before.goes is; marked = λ mark listed. absurd (true≢false (sym listed ∙ sym before.same ∙ whole)) }

kept_steps : {listed going : Bool} (p : SlotPlace) (b : ℕ) (attribute : Attribute) → Before listed going attribute → Steps listed going b (In p) (value_byte_read attribute b)
kept_steps p b (Listed part) before =
    record { same = before.same; goes = λ is none. before.goes (byte_going part b is none); marked = λ mark listed. (refl, list_marked part b mark) }
kept_steps p b Url before = whole_steps b (In p) Url before refl
kept_steps p b Link before = whole_steps b (In p) Link before refl
kept_steps p b FixedUrl before = whole_steps b (In p) FixedUrl before refl
kept_steps p b RawUrl before = whole_steps b (In p) RawUrl before refl
kept_steps p b FixedRawUrl before = whole_steps b (In p) FixedRawUrl before refl
kept_steps p b other before = absurd (false≢true before.of)

module _ {listed going : Bool} (p : SlotPlace) (content : Content) (attribute : Attribute) (before : Before listed going attribute) (b : ℕ)
    (no_mark : begins_value p b ≡ false) (no_end : ends_value p b ≡ false) where
  kept_follows : Follows listed going p b (keeps p content attribute b)
  kept_follows = record {
    stays = λ of. record { inside = same_place p; no_mark = no_mark; no_end = no_end };
    steps = λ of. kept_steps p b attribute before;
    unnamed = refl;
  }

  reference_follows : b ≡ ampersand → Follows listed going p b (begins_character p content attribute)
  reference_follows is = record {
    stays = λ of. record { inside = same_place p; no_mark = no_mark; no_end = no_end };
    steps = λ of. still_steps b (Within p []) (reference_read attribute) (reference_before attribute before) (rw is refl);
    unnamed = refl;
  }

pub unquoted_follows : {listed going : Bool} (content : Content) (attribute : Attribute) (b : ℕ) → Before listed going attribute → is_space b ≡ false →
    (b == greater_than) ≡ false → Follows listed going Unquoted b (unquoted_byte content attribute b)
unquoted_follows content attribute b before no_space no_greater =
    let no_end : ends_value Unquoted b ≡ false = rw (no_space, no_greater) refl in
    either (b == ampersand) (begins_character Unquoted content attribute) (if is_unquoted_error b then refuses else keeps Unquoted content attribute b)
    (λ reference. reference_follows Unquoted content attribute before b (rw (eqb-true b ampersand reference) refl) no_end (eqb-true b ampersand reference))
    (λ no_reference. either (is_unquoted_error b) refuses (keeps Unquoted content attribute b)
    (λ error. none_follows _ _ refl refl)
    (λ no_error. kept_follows Unquoted content attribute before b (no_mark b no_space no_error) no_end))
  where
    no_mark : (b : ℕ) → is_space b ≡ false → is_unquoted_error b ≡ false → begins_value Unquoted b ≡ false
    no_mark b no_space no_error = grind (arith, nat_tests)

-- between two quote marks
quoted_follows : {listed going : Bool} (mark : ℕ) (p : SlotPlace) (content : Content) (attribute : Attribute) (b : ℕ) → Before listed going attribute →
    ((b == mark) ≡ false → (begins_value p b ≡ false) × (ends_value p b ≡ false)) → Follows listed going p b (quoted_byte mark p content attribute b)
quoted_follows mark p content attribute b before inner =
    either (b == mark) (ended (content_after content attribute) (λ inner. goes AfterValue inner [])) _
    (λ ends. ended_follows p b content attribute (λ inner. goes AfterValue inner []) before.of (none_follows _ _ refl refl))
    (λ no_mark. either (b == ampersand) (begins_character p content attribute) _
    (λ reference. reference_follows p content attribute before b (inner no_mark).0 (inner no_mark).1 (eqb-true b ampersand reference))
    (λ no_reference. either (may_end_raw attribute b) refuses (keeps p content attribute b)
    (λ ends. none_follows _ _ refl refl)
    (λ none. kept_follows p content attribute before b (inner no_mark).0 (inner no_mark).1)))

pub value_follows : {listed going : Bool} (p : SlotPlace) (content : Content) (attribute : Attribute) (b : ℕ) → is_value_place p ≡ true →
    Before listed going attribute → Follows listed going p b (value_byte p content attribute b)
value_follows DoubleQuoted content attribute b place before = quoted_follows double_quote DoubleQuoted content attribute b before (λ inner. (inner, inner))
value_follows SingleQuoted content attribute b place before = quoted_follows single_quote SingleQuoted content attribute b before (λ inner. (inner, inner))
value_follows Unquoted content attribute b place before =
    either (is_space b) (ended (content_after content attribute) (λ inner. goes BeforeName inner [])) _
    (λ blank. ended_follows Unquoted b content attribute (λ inner. goes BeforeName inner []) before.of (none_follows _ _ refl refl))
    (λ no_blank. either (b == greater_than) (ended (content_after content attribute) opened) (unquoted_byte content attribute b)
    (λ mark. ended_follows Unquoted b content attribute opened before.of (none_follows _ _ refl (content_unnamed content.element)))
    (λ no_mark. unquoted_follows content attribute b before no_blank no_mark))
value_follows other content attribute b place before = absurd (false≢true place)

-- ---- a byte of a reference

-- a byte that goes on with a reference, and the `;` of one, are in the value
abbrev is_of_reference : ℕ → Bool
is_of_reference b = is_ascii_alphanumeric b || b == number_sign || b == semicolon

reference_inner : (p : SlotPlace) (b : ℕ) → is_value_place p ≡ true → is_of_reference b ≡ true → (begins_value p b ≡ false) × (ends_value p b ≡ false)
reference_inner DoubleQuoted b place is = (grind (arith, nat_tests), grind (arith, nat_tests))
reference_inner SingleQuoted b place is = (grind (arith, nat_tests), grind (arith, nat_tests))
reference_inner Unquoted b place is = (grind (arith, nat_tests), grind (arith, nat_tests))
reference_inner other b place is = absurd (false≢true place)

cuts_none : (b : ℕ) → is_of_reference b ≡ true → is_list_mark b ≡ false
cuts_none b is = grind (arith, nat_tests)

held_inner : (word : List ℕ) (b : ℕ) → goes_on word b ≡ true → is_of_reference b ≡ true
held_inner word b held = grind arith

semicolon_inner : (b : ℕ) → (b == semicolon) ≡ true → is_of_reference b ≡ true
semicolon_inner b is = rw (eqb-true b semicolon is) refl

module _ {listed going : Bool} (p : SlotPlace) (content : Content) (attribute : Attribute) (before : Before listed going attribute)
    (place : is_value_place p ≡ true) (b : ℕ) where
  abbrev Goes : Transition → Type 0
  Goes x = Follows listed going p b x

  -- so the value goes on after them
  inner_follows : (s : State) (after : Attribute) → Before listed going after → in_value p s ≡ true → is_named s ≡ false → is_of_reference b ≡ true →
      FollowsTo listed going p b s after
  inner_follows s after later inside unnamed is =
      let marks = reference_inner p b place is in
      record {
        stays = λ of. record { inside = inside; no_mark = marks.0; no_end = marks.1 };
        steps = λ of. still_steps b s after later (cuts_none b is);
        unnamed = unnamed;
      }

  character_follows : (word : List ℕ) (c : Option ℕ) → (b == semicolon) ≡ true → Goes (character_read p content (behind_reference word attribute) c)
  character_follows word None ends = none_follows _ _ refl refl
  character_follows word (Some c) ends =
      inner_follows (In p) (behind_reference word attribute) (read_before word attribute before) (same_place p) refl (semicolon_inner b ends)

  characters_follow : (word : List ℕ) (found : Option (List ℕ)) (otherwise : Transition) → (b == semicolon) ≡ true → Goes otherwise →
      Goes (characters_read p content (behind_reference word attribute) found otherwise)
  characters_follow word None otherwise ends later = later
  characters_follow word (Some found) otherwise ends later =
      inner_follows (In p) (behind_reference word attribute) (read_before word attribute before) (same_place p) refl (semicolon_inner b ends)

  legacy_follows : (q : SlotPlace) (word : List ℕ) (again : Transition) → Goes again → Goes (legacy_end q word b again)
  legacy_follows Text word again later = none_follows _ _ refl refl
  legacy_follows other word again later = either _ refuses (flushes other word again) (λ error. none_follows _ _ refl refl) (λ none. later)

  unnamed_follows : (q : SlotPlace) (word : List ℕ) (again : Transition) → Goes again → Goes (unnamed_end q word b again)
  unnamed_follows q word again later =
      either (begins_with_legacy word) (legacy_end q word b again) (ambiguous_end q word b again)
      (λ begins. legacy_follows q word again later)
      (λ other. either (b == semicolon) refuses (flushes q word again) (λ ends. none_follows _ _ refl refl) (λ none. later))

  end_follows : (word : List ℕ) (again : Transition) → Goes again → Goes (reference_end p content attribute word b again)
  end_follows [] again later = later
  end_follows (first ∷ word) again later =
      let unnamed = unnamed_follows p (first ∷ word) again later in
      either (first == number_sign) (number_end p content attribute (first ∷ word) b) (name_end p content attribute (first ∷ word) b again)
      (λ number. either (b == semicolon) _ refuses (λ ends. character_follows (first ∷ word) (body_character (first ∷ word)) ends) (λ none. none_follows _ _ refl refl))
      (λ name. either (b == semicolon) _ (unnamed_end p (first ∷ word) b again)
      (λ ends. characters_follow (first ∷ word) (named_characters (first ∷ word)) (unnamed_end p (first ∷ word) b again) ends unnamed)
      (λ none. unnamed))

  reference_byte_follows : (word : List ℕ) (again : Transition) → Goes again → Goes (reference_byte p content attribute word b again)
  reference_byte_follows word again later =
      either (goes_on word b) (moves (at_value (Within p (word ++ b ∷ [])) content attribute) []) (reference_end p content attribute word b again)
      (λ held. inner_follows (Within p (word ++ b ∷ [])) attribute before (same_place p) refl (held_inner word b held))
      (λ ends. end_follows word again later)

held_follows : {listed going : Bool} (p : SlotPlace) (content : Content) (attribute : Attribute) (word : List ℕ) (b : ℕ) → is_value_place p ≡ true →
    Before listed going attribute → Follows listed going p b (reference_byte p content attribute word b (value_byte p content (behind_word word attribute) b))
held_follows p content attribute word b place before =
    reference_byte_follows p content attribute before place b word _
    (value_follows p content (behind_word word attribute) b place (word_before word attribute before))

-- ---- what follows

pub within_follows : {listed going : Bool} (p : SlotPlace) (content : Content) (attribute : Attribute) (word : List ℕ) (b : ℕ) → is_value_place p ≡ true →
    Before listed going attribute → Follows listed going p b (within_byte p content (reference_read attribute) word b)
within_follows DoubleQuoted content attribute word b place before =
    held_follows DoubleQuoted content (reference_read attribute) word b place (reference_before attribute before)
within_follows SingleQuoted content attribute word b place before =
    held_follows SingleQuoted content (reference_read attribute) word b place (reference_before attribute before)
within_follows Unquoted content attribute word b place before =
    held_follows Unquoted content (reference_read attribute) word b place (reference_before attribute before)
within_follows other content attribute word b place before = absurd (false≢true place)
