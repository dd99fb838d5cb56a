-- Strings: where a place has a reading, the tokenizer reads the same value and leaves the string at its mark,
-- or it gives the string up, or the end tag of the element ends it.
use Rattle.std.proofs.Common.{ℕ, zero, suc, ◌≡◌, ◌≤◌, ◌+◌, Bool, true, false, List, [], ◌∷◌, ◌++◌, ◌==◌, ◌⊎◌, inl, inr, ◌&&◌, Some, None, length, map, refl, subst, sym, ap, ◌∙◌, arith, append_assoc, eq-eqb, length-append}
use Rattle.std.specs.Char.{is_ascii_alphabetic, to_ascii_lowercase}
use Rattle.std.proofs.lemmas.Bool.{and_parts, cases_Bool, eqb-true}
use Rattle.std.proofs.lemmas.Bool.Decides.{nat_tests}
use Rattle.std.proofs.lemmas.List.{map-append}
use Rattle.hesc_specs.specs.Strings.Encoding.{is_quote}
use Rattle.hesc_specs.specs.Text.Ascii.{backslash, less_than, slash}
use Rattle.hesc_specs.specs.declared.quotes.Quotes.{Quotes}
use Rattle.hesc_grammars.specs.declared.step.Mode.{Mode}
use Rattle.hesc_grammars.specs.declared.step.Mode.TheVariants.{Plain}
use Rattle.hesc_grammars.specs.declared.step.Step.{Step}
use Rattle.hesc_grammars.specs.declared.step.Step.TheVariants.{Close, Byte, Nothing}
use Rattle.hesc_grammars.specs.Reading.{after, reading_after}
use Rattle.html_tokenizer.specs.declared.slot_place.SlotPlace.{SlotPlace}
use Rattle.html_tokenizer.specs.declared.states.Code.TheVariants as code
use Rattle.html_tokenizer.specs.declared.elements.Content.{Content}
use Rattle.html_tokenizer.specs.declared.elements.OpenElement.TheVariants.{Normal}
use Rattle.html_tokenizer.specs.Agreement.{Ends, LeavesAt, LeavesEarly, LeavesString, is_given_up}
use Rattle.html_tokenizer.specs.Tokenizer.Actions.{Action, NewEndTag, StringEnd, TagNameByte, read_byte, value_end}
use Rattle.html_tokenizer.specs.Tokenizer.Code.{less_byte, is_script}
use Rattle.html_tokenizer.specs.Tokenizer.Code.Strings.{begins_comment, string_less_byte}
use Rattle.html_tokenizer.specs.Tokenizer.Elements.{with_element}
use Rattle.html_tokenizer.specs.Tokenizer.States.{Tokenizer, In, InCode, Ordinary, StringLess, ValueEndTag, at}
use Rattle.html_tokenizer.specs.Tokenizer.Tags.{end_tag_byte, ends_name, exclamation_mark}
use Rattle.html_tokenizer.specs.Tokenizer.Tags.EndTags.{held_end_tag_byte, is_appropriate}
use Rattle.html_tokenizer.specs.Tokenizer.Tokenization.{actions_of, consume, state_after}
use Rattle.html_tokenizer.specs.Tokenizer.Transitions.{Transition, goes, reconsumes}
use Rattle.html_tokenizer.proofs.Passing.{Passes, passes_itself, passes_none, passes_both, passes_byte, passes_one, state_after-append}
use Rattle.html_tokenizer.proofs.Slots.Strings.{ReadsString, StaysIn, kept_byte}
use Rattle.html_tokenizer.proofs.Agreement.Values.{ends_after, ends_here}

-- ---- from any state to the end of a string

-- a word stands in the bytes, at which the string is left
pub record Early (t : Tokenizer) (content : Content) (front : List ℕ) : Type 0 where
  pub before : List ℕ
  pub word : List ℕ
  pub following : List ℕ
  pub parts : front ≡ (before ++ word) ++ following
  pub leaves : LeavesAt content word (state_after t (before ++ word))

-- the bytes and the mark lead out of the string, with these actions before its end, or it is left before
abbrev pub Leaves : Tokenizer → Content → ℕ → List ℕ → List Action → Type 0
Leaves t content mark front actions =
    Passes t (front ++ mark ∷ []) (actions ++ StringEnd ∷ []) (at (InCode code.Plain) content) ⊎ Early t content front

-- no string is left at no byte
no_word : {t : Tokenizer} {content : Content} → LeavesAt content [] t → ⊥
no_word (inl gives) = let never : false ≡ true = gives.markup in cc
no_word (inr ends) = let never : [] ≡ less_than ∷ slash ∷ (ends.name ++ ends.last ∷ []) = ends.tag in cc

module _ (content : Content) (mark : ℕ) where
  leaves_after : {t u : Tokenizer} (piece front : List ℕ) (done actions : List Action) → Passes t piece done u → Leaves u content mark front actions →
      Leaves t content mark (piece ++ front) (done ++ actions)
  leaves_after piece front done actions passes (inl leaves) =
      inl (rw (append_assoc piece front (mark ∷ []), append_assoc done actions (StringEnd ∷ [])) (passes_both passes leaves))
  leaves_after {t} {u} piece front done actions passes (inr early) =
      let first : List ℕ = early.before ++ early.word in
      let here : state_after t ((piece ++ early.before) ++ early.word) ≡ state_after u first =
      ap (state_after t) (append_assoc piece early.before early.word)
      ∙ state_after-append t piece first ∙ ap (λ x. state_after x first) passes.after in
      inr (record {
        before = piece ++ early.before;
        word = early.word;
        following = early.following;
        parts = ap (λ x. piece ++ x) early.parts ∙ sym (append_assoc piece first early.following)
            ∙ ap (λ x. x ++ early.following) (sym (append_assoc piece early.before early.word));
        leaves = subst (LeavesAt content early.word) (sym here) early.leaves;
      })

-- the first of the bytes is consumed as in another state, after some actions
module _ (t u : Tokenizer) (content : Content) (mark : ℕ) (pending : List Action) (b : ℕ) (is : consume t b ≡ reconsumes pending (consume u b)) where
  passes_again : (c : ℕ) (bytes : List ℕ) {actions : List Action} {v : Tokenizer} → b ≡ c → Passes u (c ∷ bytes) actions v →
      Passes t (c ∷ bytes) (pending ++ actions) v
  passes_again c bytes same passes =
      let here : consume t c ≡ reconsumes pending (consume u c) = subst (λ x. consume t x ≡ reconsumes pending (consume u x)) same is in
      record {
        after = ap (λ (x : Transition). state_after x.next bytes) here ∙ passes.after;
        actions = ap (λ (x : Transition). x.actions ++ actions_of x.next bytes) here
            ∙ append_assoc pending (consume u c).actions (actions_of (consume u c).next bytes) ∙ ap (λ x. pending ++ x) passes.actions;
      }

  after_again : (c : ℕ) (bytes : List ℕ) → b ≡ c → state_after u (c ∷ bytes) ≡ state_after t (c ∷ bytes)
  after_again c bytes same = sym (passes_again c bytes same (passes_itself u (c ∷ bytes))).after

  early_again : (before word following rest tail : List ℕ) → b ∷ tail ≡ ((before ++ word) ++ following) ++ rest →
      LeavesAt content word (state_after u (before ++ word)) → LeavesAt content word (state_after t (before ++ word))
  early_again [] [] following rest tail parts leaves = absurd (no_word leaves)
  early_again [] (c ∷ word) following rest tail parts leaves = subst (LeavesAt content (c ∷ word)) (after_again c word (cc)) leaves
  early_again (c ∷ before) word following rest tail parts leaves = subst (LeavesAt content word) (after_again c (before ++ word) (cc)) leaves

  leaves_again : (tail front rest : List ℕ) (actions : List Action) → b ∷ tail ≡ front ++ mark ∷ rest → Leaves u content mark front actions →
      Leaves t content mark front (pending ++ actions)
  leaves_again tail [] rest actions parts (inl leaves) = inl (rw append_assoc (passes_again mark [] (cc) leaves))
  leaves_again tail (c ∷ front) rest actions parts (inl leaves) = inl (rw append_assoc (passes_again c (front ++ mark ∷ []) (cc) leaves))
  leaves_again tail front rest actions parts (inr early) =
      inr (record {
        before = early.before;
        word = early.word;
        following = early.following;
        parts = early.parts;
        leaves = early_again early.before early.word early.following (mark ∷ rest) tail (parts ∙ ap (λ x. x ++ mark ∷ rest) early.parts) early.leaves;
      })

-- ---- in a string

-- what the tokenizer does at a string's bytes and the mark
abbrev pub Reads : SlotPlace → Content → ℕ → List ℕ → List ℕ → Type 0
Reads p content mark front value = Leaves (at (In p) content) content mark front (map (read_byte p) value)

module _ {p : SlotPlace} {content : Content} (mark : ℕ) where
  pub reads_whole : (piece value front more : List ℕ) → StaysIn p content piece value → Reads p content mark front more → Reads p content mark (piece ++ front) (value ++ more)
  reads_whole piece value front more stays read =
      rw (map-append (read_byte p) value more) (leaves_after content mark piece front (map (read_byte p) value) (map (read_byte p) more) stays read)

  -- a piece that is held up to the byte behind it
  pub reads_held : {t : Tokenizer} (piece value : List ℕ) → Passes (at (In p) content) piece [] t → (b : ℕ) (bytes : List ℕ) →
      consume t b ≡ reconsumes (map (read_byte p) value) (consume (at (In p) content) b) →
      (front more rest : List ℕ) → b ∷ bytes ≡ front ++ mark ∷ rest → Reads p content mark front more → Reads p content mark (piece ++ front) (value ++ more)
  reads_held {t} piece value held b bytes is front more rest parts read =
      rw (map-append (read_byte p) value more)
      (leaves_after content mark piece front [] (map (read_byte p) value ++ map (read_byte p) more) held
      (leaves_again t (at (In p) content) content mark (map (read_byte p) value) b is bytes front rest (map (read_byte p) more) parts read))

-- an escape that the grammar reads: its bytes after the `\`, what it is read as, and what the tokenizer
-- does at it, whatever the tokenizer does at the bytes after it
pub record Escaped (p : SlotPlace) (content : Content) (mark : ℕ) (step : Mode → List ℕ → Step) (bytes : List ℕ) : Type 0 where
  pub word : List ℕ
  pub rest : List ℕ
  pub value : List ℕ
  pub parts : bytes ≡ word ++ rest
  pub takes : reading_after step 0 Plain (backslash ∷ (word ++ rest)) ≡ after value (length (backslash ∷ word)) (reading_after step 0 Plain rest)
  pub reads : (front more others : List ℕ) → rest ≡ front ++ mark ∷ others → Reads p content mark front more →
      Reads p content mark ((backslash ∷ word) ++ front) (value ++ more)

-- a string by the grammar and by the tokenizer
pub record StringPlace (p : SlotPlace) (content : Content) (mark : ℕ) (quotes : Quotes) (breaks : ℕ → Bool) (step : Mode → List ℕ → Step) : Type 0 where
  pub string : ReadsString p mark quotes breaks content
  pub closes : (bytes : List ℕ) → step Plain (mark ∷ bytes) ≡ Close
  pub others : (b : ℕ) (bytes : List ℕ) → (b == mark) ≡ false → (b == backslash) ≡ false →
      (step Plain (b ∷ bytes) ≡ Nothing) ⊎ ((step Plain (b ∷ bytes) ≡ Byte 0 b Plain) × (breaks b ≡ false))
  pub escapes : (bytes : List ℕ) → (step Plain (backslash ∷ bytes) ≡ Nothing) ⊎ Escaped p content mark step bytes

-- a byte that passes a test is none that does not
differs : (test : ℕ → Bool) (b c : ℕ) → test b ≡ true → test c ≡ false → (b == c) ≡ false
differs test b c passes fails =
    elim (cases_Bool (b == c)) [
      | inl same ↦ let never : true ≡ false = sym passes ∙ ap test (eqb-true b c same) ∙ fails in cc
      | inr other ↦ other
    ]

as_same : (P : ℕ → Type 0) (b c : ℕ) → (b == c) ≡ true → P c → P b
as_same P b c same there = subst P (sym (eqb-true b c same)) there

record Begins (b : ℕ) (front : List ℕ) : Type 0 where
  tail : List ℕ
  is : front ≡ b ∷ tail

begins_with : (b mark : ℕ) (tail front rest : List ℕ) → (b == mark) ≡ false → b ∷ tail ≡ front ++ mark ∷ rest → Begins b front
begins_with b mark tail [] rest other parts = let same : b ≡ mark = cc in let never : true ≡ false = sym (eq-eqb b mark same) ∙ other in absurd (cc)
begins_with b mark tail (c ∷ front) rest other parts = record { tail = front; is = cc }

less_consumed : (p : SlotPlace) (content : Content) (b : ℕ) →
    consume (at (StringLess p) content) b ≡ string_less_byte p content Ordinary (consume (at (In p) content) b) b
unfolding consume
less_consumed p content b = refl

tag_consumed : (p : SlotPlace) (content : Content) (word : List ℕ) (b : ℕ) → consume (at (ValueEndTag p word) content) b
    ≡ held_end_tag_byte content word (value_end p) (at (ValueEndTag p (word ++ b ∷ [])) content) (read_byte p) (consume (at (In p) content) b) b
unfolding consume
tag_consumed p content word b = refl

record QuoteFacts (content : Content) (mark : ℕ) : Type 0 where
  no_less : (less_than == mark) ≡ false
  no_slash : (slash == mark) ≡ false
  no_letter : is_ascii_alphabetic mark ≡ false
  no_end : ends_name mark ≡ false
  no_comment : begins_comment content mark ≡ false

quote_facts : (content : Content) (quotes : Quotes) (mark : ℕ) → is_quote quotes mark ≡ true → QuoteFacts content mark
quote_facts content quotes mark quote = record {
  no_less = grind (arith, nat_tests);
  no_slash = grind (arith, nat_tests);
  no_letter = grind (arith, nat_tests);
  no_end = grind (arith, nat_tests);
  no_comment = grind (arith, nat_tests);
}

letter_ends_no_name : (b : ℕ) → is_ascii_alphabetic b ≡ true → ends_name b ≡ false
letter_ends_no_name b letter = grind (arith, nat_tests)

module _ {p : SlotPlace} {content : Content} {mark : ℕ} {quotes : Quotes} {breaks : ℕ → Bool} {step : Mode → List ℕ → Step}
    (place : StringPlace p content mark quotes breaks step) where
  abbrev ReadsTo : List ℕ → List ℕ × ℕ → Type 0
  ReadsTo bytes found = Ends (Reads p content mark) mark bytes found

  facts : QuoteFacts content mark
  facts = quote_facts content quotes mark place.string.quote

  -- what is read of the bytes after an item, is read of all
  abbrev GoesOn : ℕ → Type 0
  GoesOn n = (rest : List ℕ) (f : List ℕ × ℕ) → length rest ≤ n → reading_after step 0 Plain rest ≡ Some f → ReadsTo rest f

  -- a byte that the grammar reads as itself
  after_byte : {Old New : List ℕ → List ℕ → Type 0} (b : ℕ) (bytes : List ℕ) (found : List ℕ × ℕ) → (b == mark) ≡ false → (b == backslash) ≡ false →
      reading_after step 0 Plain (b ∷ bytes) ≡ Some found → ((f : List ℕ × ℕ) → reading_after step 0 Plain bytes ≡ Some f → Ends Old mark bytes f) →
      (breaks b ≡ false → (front more rest : List ℕ) → bytes ≡ front ++ mark ∷ rest → Old front more → New (b ∷ front) (b ∷ more)) → Ends New mark (b ∷ bytes) found
  after_byte b bytes found no_mark no_backslash is ends read =
      elim (place.others b bytes no_mark no_backslash) [
        | inl none ↦ let never : None ≡ Some found = rw none at is in cc
        | inr kept ↦ ends_after (b ∷ []) (b ∷ []) bytes found (reading_after step 0 Plain bytes) (rw kept.0 at is) ends (read kept.1)
      ]

  at_mark : (bytes : List ℕ) (found : List ℕ × ℕ) → reading_after step 0 Plain (mark ∷ bytes) ≡ Some found → ReadsTo (mark ∷ bytes) found
  at_mark bytes found is =
      let ends_it : consume (at (In p) content) mark ≡ goes (InCode code.Plain) content (StringEnd ∷ []) =
      place.string.bytes mark ∙ rw (eq-eqb mark mark refl) refl in
      let closed : Some ([], 0) ≡ Some found = rw (place.closes bytes) at is in
      ends_here bytes found closed (inl (passes_one (StringEnd ∷ []) ends_it))

  at_escape : (n : ℕ) → GoesOn n → (bytes : List ℕ) (found : List ℕ × ℕ) → length bytes ≤ n →
      reading_after step 0 Plain (backslash ∷ bytes) ≡ Some found → ReadsTo (backslash ∷ bytes) found
  at_escape n go bytes found enough is =
      elim (place.escapes bytes) [
        | inl none ↦ let never : None ≡ Some found = rw none at is in cc
        | inr e ↦
            let long : length bytes ≡ length e.word + length e.rest = ap length e.parts ∙ length-append e.word e.rest in
            subst (λ x. ReadsTo (backslash ∷ x) found) (sym e.parts)
            (ends_after (backslash ∷ e.word) e.value e.rest found (reading_after step 0 Plain e.rest)
            (sym e.takes ∙ ap (λ x. reading_after step 0 Plain (backslash ∷ x)) (sym e.parts) ∙ is)
            (λ f rest_is. go e.rest f (omega (arith, long, enough)) rest_is) e.reads)
      ]

  -- ---- after a `<`

  begins_less : consume (at (In p) content) less_than ≡ goes (StringLess p) content []
  begins_less = place.string.bytes less_than ∙ rw facts.no_less refl

  comment_gives_up : (front : List ℕ) → is_script content.element ≡ true → Early (at (In p) content) content (less_than ∷ exclamation_mark ∷ front)
  comment_gives_up front script =
      let up : consume (at (StringLess p) content) exclamation_mark ≡ reconsumes (StringEnd ∷ []) (less_byte code.Opaque content exclamation_mark) =
      less_consumed p content exclamation_mark ∙ rw script refl in
      let first : state_after (at (In p) content) (less_than ∷ exclamation_mark ∷ []) ≡ (less_byte code.Opaque content exclamation_mark).next =
      ap (λ (x : Transition). state_after x.next (exclamation_mark ∷ [])) begins_less ∙ ap (λ (x : Transition). x.next) up in
      record {
        before = [];
        word = less_than ∷ exclamation_mark ∷ [];
        following = front;
        parts = refl;
        leaves = inl (record { markup = rw script refl; after = ap (λ (x : Tokenizer). is_given_up x.state) first ∙ rw script refl });
      }

  -- `<` and another byte than `/`
  less_read : (d : ℕ) (bytes front more rest : List ℕ) → (d == slash) ≡ false → d ∷ bytes ≡ front ++ mark ∷ rest →
      Reads p content mark front more → Reads p content mark (less_than ∷ front) (less_than ∷ more)
  less_read d bytes front more rest no_slash parts read =
      elim (cases_Bool (begins_comment content d)) [
        | inl begins ↦
            let both = and_parts (d == exclamation_mark) (is_script content.element) begins in
            let b = begins_with d mark bytes front rest (differs (begins_comment content) d mark begins facts.no_comment) parts in
            rw b.is (as_same (λ x. Reads p content mark (less_than ∷ x ∷ b.tail) (less_than ∷ more)) d exclamation_mark both.0 (inr (comment_gives_up b.tail both.1)))
        | inr plain ↦
            reads_held mark (less_than ∷ []) (less_than ∷ []) (passes_one [] begins_less) d bytes
            (less_consumed p content d ∙ rw (no_slash, plain, place.string.one less_than) refl) front more rest parts read
      ]

  -- `</` and letters
  abbrev Held : List ℕ → Type 0
  Held letters = Passes (at (In p) content) (less_than ∷ slash ∷ letters) [] (at (ValueEndTag p letters) content)

  no_letters : Held []
  no_letters = passes_byte begins_less (passes_one [] (less_consumed p content slash))

  next_letter : (letters : List ℕ) (b : ℕ) → is_ascii_alphabetic b ≡ true → Held letters → Held (letters ++ b ∷ [])
  next_letter letters b letter held =
      let is : consume (at (ValueEndTag p letters) content) b ≡ goes (ValueEndTag p (letters ++ b ∷ [])) content [] =
      tag_consumed p content letters b ∙ rw (letter_ends_no_name b letter, letter) refl in
      passes_both held (passes_one [] is)

  ends_code : (letters : List ℕ) → Held letters → (b : ℕ) (front : List ℕ) → (ends_name b && is_appropriate content.element (map to_ascii_lowercase letters)) ≡ true →
      Early (at (In p) content) content (less_than ∷ slash ∷ (letters ++ b ∷ front))
  ends_code letters held b front ends =
      let parts = and_parts (ends_name b) (is_appropriate content.element (map to_ascii_lowercase letters)) ends in
      let last : consume (at (ValueEndTag p letters) content) b
      ≡ reconsumes (value_end p ++ NewEndTag ∷ map (λ d. TagNameByte (to_ascii_lowercase d)) letters) (end_tag_byte (with_element content Normal) b) =
      tag_consumed p content letters b ∙ rw (parts.0, parts.1) refl in
      record {
        before = [];
        word = less_than ∷ slash ∷ (letters ++ b ∷ []);
        following = front;
        parts = ap (λ x. less_than ∷ slash ∷ x) (sym (append_assoc letters (b ∷ []) front));
        leaves = inr (record {
          name = letters;
          last = b;
          tag = refl;
          appropriate = parts.1;
          end = parts.0;
          after = state_after-append (at (In p) content) (less_than ∷ slash ∷ letters) (b ∷ [])
              ∙ ap (λ x. state_after x (b ∷ [])) held.after ∙ ap (λ (x : Transition). x.next) last;
        });
      }

  -- a byte behind them that is no letter: they end the code, or are given back
  tag_read : (letters : List ℕ) → Held letters → (b : ℕ) (bytes front more rest : List ℕ) → is_ascii_alphabetic b ≡ false → b ∷ bytes ≡ front ++ mark ∷ rest →
      Reads p content mark front more → Reads p content mark (less_than ∷ slash ∷ (letters ++ front)) (less_than ∷ slash ∷ (letters ++ more))
  tag_read letters held b bytes front more rest no_letter parts read =
      elim (cases_Bool (ends_name b && is_appropriate content.element (map to_ascii_lowercase letters))) [
        | inl ends ↦
            let name = (and_parts (ends_name b) (is_appropriate content.element (map to_ascii_lowercase letters)) ends).0 in
            let begins = begins_with b mark bytes front rest (differs ends_name b mark name facts.no_end) parts in
            rw begins.is (inr (ends_code letters held b begins.tail ends))
        | inr other ↦
            reads_held mark (less_than ∷ slash ∷ letters) (less_than ∷ slash ∷ letters) held b bytes
            (tag_consumed p content letters b ∙ rw (other, no_letter) refl) front more rest parts read
      ]

  in_tag : (n : ℕ) → GoesOn n → (letters : List ℕ) → Held letters → (bytes : List ℕ) (found : List ℕ × ℕ) → length bytes ≤ n →
      reading_after step 0 Plain bytes ≡ Some found →
      Ends (λ front more. Reads p content mark (less_than ∷ slash ∷ (letters ++ front)) (less_than ∷ slash ∷ (letters ++ more))) mark bytes found
  in_tag n go letters held [] found enough is = cc
  in_tag n go letters held (b ∷ bytes) found enough is =
      elim (cases_Bool (is_ascii_alphabetic b)) [
        | inl letter ↦
            after_byte b bytes found (differs is_ascii_alphabetic b mark letter facts.no_letter) (differs is_ascii_alphabetic b backslash letter refl) is
            (λ f rest_is. in_tag n go (letters ++ b ∷ []) (next_letter letters b letter held) bytes f (omega arith) rest_is)
            (λ unbroken front more rest parts read. rw (← append_assoc letters (b ∷ []) front, ← append_assoc letters (b ∷ []) more) read)
        | inr no_letter ↦
            let ends = go (b ∷ bytes) found enough is in
            record {
              front = ends.front;
              rest = ends.rest;
              parts = ends.parts;
              end = ends.end;
              read = tag_read letters held b bytes ends.front found.0 ends.rest no_letter ends.parts ends.read;
            }
      ]

  at_less : (n : ℕ) → GoesOn n → (bytes : List ℕ) (found : List ℕ × ℕ) → length bytes ≤ n →
      reading_after step 0 Plain (less_than ∷ bytes) ≡ Some found → ReadsTo (less_than ∷ bytes) found
  at_less n go [] found enough is =
      after_byte less_than [] found facts.no_less refl is (λ f rest_is. cc) (λ unbroken front more rest parts read. read)
  at_less n go (d ∷ bytes) found enough is =
      elim (cases_Bool (d == slash)) [
        | inl closing ↦
            as_same (λ x. reading_after step 0 Plain (less_than ∷ x ∷ bytes) ≡ Some found → ReadsTo (less_than ∷ x ∷ bytes) found) d slash closing
            (λ read. after_byte less_than (slash ∷ bytes) found facts.no_less refl read
            (λ f rest_is. after_byte slash bytes f facts.no_slash refl rest_is (λ g more_is. in_tag n go [] no_letters bytes g (omega arith) more_is)
            (λ unbroken front more rest parts read. read))
            (λ unbroken front more rest parts read. read)) is
        | inr no_slash ↦
            after_byte less_than (d ∷ bytes) found facts.no_less refl is (λ f rest_is. go (d ∷ bytes) f enough rest_is)
            (λ unbroken front more rest parts read. less_read d bytes front more rest no_slash parts read)
      ]

  -- ---- at any byte

  at_other : (n : ℕ) → GoesOn n → (b : ℕ) (bytes : List ℕ) (found : List ℕ × ℕ) → length bytes ≤ n →
      reading_after step 0 Plain (b ∷ bytes) ≡ Some found → (b == mark) ≡ false → (b == backslash) ≡ false → (b == less_than) ≡ false → ReadsTo (b ∷ bytes) found
  at_other n go b bytes found enough is no_mark no_backslash no_less =
      after_byte b bytes found no_mark no_backslash is (λ f rest_is. go bytes f enough rest_is)
      (λ unbroken front more rest parts read.
      reads_whole mark (b ∷ []) (b ∷ []) front more (kept_byte place.string b no_mark no_backslash no_less unbroken passes_none) read)

  both_read : (n : ℕ) → GoesOn n
  both_read n [] found enough is = cc
  both_read zero (b ∷ bytes) found enough is = absurd (omega arith)
  both_read (suc n) (b ∷ bytes) found enough is =
      let at : ℕ → Type 0 = λ x. reading_after step 0 Plain (x ∷ bytes) ≡ Some found → ReadsTo (x ∷ bytes) found in
      elim (cases_Bool (b == mark)) [
        | inl closing ↦ as_same at b mark closing (at_mark bytes found) is
        | inr no_mark ↦
            elim (cases_Bool (b == backslash)) [
              | inl escape ↦ as_same at b backslash escape (at_escape n (both_read n) bytes found (omega arith)) is
              | inr no_backslash ↦
                  elim (cases_Bool (b == less_than)) [
                    | inl less ↦ as_same at b less_than less (at_less n (both_read n) bytes found (omega arith)) is
                    | inr no_less ↦ at_other n (both_read n) b bytes found (omega arith) is no_mark no_backslash no_less
                  ]
            ]
      ]

-- as the law says it
said : (p : SlotPlace) (content : Content) (mark : ℕ) (front value : List ℕ) → Reads p content mark front value →
    LeavesString p content mark front value ⊎ LeavesEarly p content front
said p content mark front value (inl leaves) = inl (record { after = leaves.after; actions = leaves.actions })
said p content mark front value (inr early) =
    inr (record { before = early.before; word = early.word; following = early.following; parts = early.parts; leaves = early.leaves })

pub agrees_in : {p : SlotPlace} {content : Content} {mark : ℕ} {quotes : Quotes} {breaks : ℕ → Bool} {step : Mode → List ℕ → Step} →
    StringPlace p content mark quotes breaks step → (bytes : List ℕ) (found : List ℕ × ℕ) → reading_after step 0 Plain bytes ≡ Some found →
    Ends (λ front value. LeavesString p content mark front value ⊎ LeavesEarly p content front) mark bytes found
agrees_in {p} {content} {mark} place bytes found is =
    let ends = both_read place (length bytes) bytes found (omega arith) is in
    record { front = ends.front; rest = ends.rest; parts = ends.parts; end = ends.end; read = said p content mark ends.front found.0 ends.read }
