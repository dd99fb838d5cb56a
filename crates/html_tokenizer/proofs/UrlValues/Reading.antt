-- In the value of a URL the tokenizer reads the bytes that the markup stands for.
use Rattle.std.proofs.Common.{ℕ, ◌≡◌, Bool, true, false, ◌&&◌, ◌||◌, List, [], ◌∷◌, ◌++◌, ◌==◌, Option, Some, None, if◌then◌else◌, bytes_eq, codes, map, refl, ap, ◌∙◌, subst, sym, ⊎_elim, append_assoc, append-nil, arith}
use Rattle.std.specs.Char.{is_ascii_alphanumeric}
use Rattle.std.specs.List.{list_any}
use Rattle.std.specs.Option.{option_map}
use Rattle.std.proofs.lemmas.Bool.{and_parts, cases_Bool, eqb-true, false≢true, or_parts}
use Rattle.std.proofs.lemmas.Bool.Decides.{nat_tests}
use Rattle.std.proofs.lemmas.List.{map-append}
use Rattle.std.proofs.lemmas.Slice.Eq.{bytes_eq-Decides}
use Rattle.hesc_specs.specs.Text.Ascii.{ampersand, semicolon}
use Rattle.html_tokenizer.specs.declared.elements.Content.{Content}
use Rattle.html_tokenizer.specs.declared.slot_place.SlotPlace.{SlotPlace}
use Rattle.html_tokenizer.specs.declared.slot_place.SlotPlace.TheVariants.{DoubleQuoted, SingleQuoted, Unquoted}
use Rattle.html_tokenizer.specs.Standing.{is_refused}
use Rattle.html_tokenizer.specs.Tokenizer.Actions.{Action, ValueByte}
use Rattle.html_tokenizer.specs.Tokenizer.Attributes.ListParts.{is_list_mark}
use Rattle.html_tokenizer.specs.Tokenizer.States.{Attribute, In, Listed, Tokenizer, Within, at_value}
use Rattle.html_tokenizer.specs.Tokenizer.Tokenization.{consume, state_after, value_byte}
use Rattle.html_tokenizer.specs.Tokenizer.Transitions.{Transition, moves}
use Rattle.html_tokenizer.specs.Tokenizer.Values.References.{behind_word, flushes, goes_on}
use Rattle.html_tokenizer.specs.UrlValues.{closes_url, ends_value, is_url, last_bytes, url_text, url_text_from, value_bytes}
use Rattle.html_tokenizer.proofs.Stretches.{value_consumed}
use Rattle.html_tokenizer.proofs.UrlValues.Attributes.{amp_settled, behind_open, is_open, open_url_is}
use Rattle.html_tokenizer.proofs.UrlValues.Ends.{Ends, ends_at, last_held}
use Rattle.html_tokenizer.proofs.UrlValues.Places.{is_value_place}
use Rattle.html_tokenizer.proofs.UrlValues.Slots.Refusals.{goes_to, not_refused}
use Rattle.html_tokenizer.proofs.UrlValues.Rules.{ReadsUrl, amp_named, are_letters, letters_more, reads_url, word_flushed}
use Rattle.html_tokenizer.proofs.UrlValues.Apart.OneByte.{value_bytes-append, value_bytes-map}
use Rattle.html_tokenizer.proofs.UrlValues.Staying.{StaysUrl, stays_byte, stays_none}

-- a state of the value, and the letters and digits after a `&` that are held in it
abbrev pub held_at : SlotPlace → Content → Attribute → Option (List ℕ) → Tokenizer
held_at p content attribute None = at_value (In p) content attribute
held_at p content attribute (Some word) = at_value (Within p word) content attribute

abbrev pub held_text : Option (List ℕ) → List ℕ
held_text None = []
held_text (Some word) = ampersand ∷ word

abbrev pub letters_in : Option (List ℕ) → Bool
letters_in None = true
letters_in (Some word) = are_letters word

-- where reading ends: in a URL, and what is held there; nothing is, unless the URL ends
pub record ReachesIn (listed : Bool) (p : SlotPlace) (content : Content) (is_ended : Bool) (start : Tokenizer) (raw text : List ℕ) : Type 0 where
  pub attribute : Attribute
  pub url_open : is_open listed attribute ≡ true
  pub held : Option (List ℕ)
  pub letters : letters_in held ≡ true
  pub none : is_ended ≡ false → held ≡ None
  pub added : List ℕ
  pub whole : text ≡ added ++ held_text held
  pub stays : StaysUrl start raw added (held_at p content attribute held)

record Mapped (f : List ℕ → List ℕ) (found : Option (List ℕ)) (text : List ℕ) : Type 0 where
  rest : List ℕ
  is : found ≡ Some rest
  whole : f rest ≡ text

mapped : (f : List ℕ → List ℕ) (found : Option (List ℕ)) (text : List ℕ) → option_map f found ≡ Some text → Mapped f found text
mapped f None text is = absurd (cc)
mapped f (Some rest) text is = let same : f rest ≡ text = cc in record { rest = rest; is = refl; whole = same }

module _ (listed : Bool) (p : SlotPlace) (content : Content) (is_ended : Bool) (place : is_value_place p ≡ true) where
  abbrev Reaches : Tokenizer → List ℕ → List ℕ → Type 0
  Reaches start raw text = ReachesIn listed p content is_ended start raw text

  -- the tokenizer goes on after the bytes
  abbrev GoesOn : Tokenizer → List ℕ → Type 0
  GoesOn start raw = is_refused (state_after start raw).state ≡ false

  nothing_left : (attribute : Attribute) → is_open listed attribute ≡ true → Reaches (held_at p content attribute None) [] []
  nothing_left attribute url = record { attribute = attribute; url_open = url; held = None; letters = refl; none = λ is. refl; added = []; whole = refl; stays = stays_none }

  word_left : (attribute : Attribute) (word text : List ℕ) → is_open listed attribute ≡ true → are_letters word ≡ true → (if is_ended then Some (ampersand ∷ word) else None) ≡ Some text →
      Reaches (held_at p content attribute (Some word)) [] text
  word_left attribute word text url letters is =
      ⊎_elim
      (λ (ended : is_ended ≡ true).
      let found : Some (ampersand ∷ word) ≡ Some text = rw ended at is in
      let same : ampersand ∷ word ≡ text = cc in
      record { attribute = attribute; url_open = url; held = Some word; letters = letters; none = λ other. let clash : true ≡ false = sym ended ∙ other in cc; added = []; whole = sym same; stays = stays_none })
      (λ (other : is_ended ≡ false). let never : None ≡ Some text = rw other at is in absurd (cc))
      (cases_Bool is_ended)

  -- one byte, and then others
  reaches_byte : {t u : Tokenizer} {b : ℕ} {raw text : List ℕ} (first : List ℕ) → is_url t.attribute ≡ true → is_url u.attribute ≡ true →
      consume t b ≡ moves u (map ValueByte first) → Reaches u raw text → Reaches t (b ∷ raw) (first ++ text)
  reaches_byte first here there is later = record {
    attribute = later.attribute;
    url_open = later.url_open;
    held = later.held;
    letters = later.letters;
    none = later.none;
    added = first ++ later.added;
    whole = ap (λ x. first ++ x) later.whole ∙ sym (append_assoc first later.added (held_text later.held));
    stays = stays_byte first here there is later.stays;
  }

  module _ (attribute : Attribute) (url : is_open listed attribute ≡ true) where
    reads : ReadsUrl listed p content attribute
    reads = reads_url listed content attribute url p place

    open_here : is_url attribute ≡ true
    open_here = open_url_is listed attribute url

    abbrev here : Option (List ℕ) → Tokenizer
    here held = held_at p content attribute held

    -- the tokenizer reads what follows in this state
    abbrev Later : Tokenizer → List ℕ → List ℕ → Type 0
    Later start raw text = GoesOn start raw → Reaches start raw text

    kept_on : (b : ℕ) (raw text : List ℕ) → closes_url listed p b ≡ false → (b == ampersand) ≡ false → GoesOn (here None) (b ∷ raw) →
        Later (here None) raw text → Reaches (here None) (b ∷ raw) (b ∷ text)
    kept_on b raw text inner no_reference unrefused others =
        let still : is_refused (value_byte p content attribute b).next.state ≡ false =
        subst (λ (x : Transition). is_refused x.next.state ≡ false) (value_consumed p content attribute b) (not_refused (consume (at_value (In p) content attribute) b).next raw unrefused) in
        let is : consume (at_value (In p) content attribute) b ≡ moves (at_value (In p) content attribute) (ValueByte b ∷ []) =
        value_consumed p content attribute b ∙ reads.kept b inner no_reference still in
        reaches_byte (b ∷ []) open_here open_here is (others (goes_to _ b raw is unrefused))

    begun : (b : ℕ) (raw text : List ℕ) → b ≡ ampersand → GoesOn (here None) (b ∷ raw) → Later (here (Some [])) raw text →
        Reaches (here None) (b ∷ raw) text
    begun b raw text same unrefused others =
        let is : consume (at_value (In p) content attribute) b ≡ moves (at_value (Within p []) content attribute) [] = rw same reads.references.begins in
        reaches_byte [] open_here open_here is (others (goes_to _ b raw is unrefused))

    letter_held : (word : List ℕ) (b : ℕ) (raw text : List ℕ) → is_ascii_alphanumeric b ≡ true → GoesOn (here (Some word)) (b ∷ raw) →
        Later (here (Some (word ++ b ∷ []))) raw text → Reaches (here (Some word)) (b ∷ raw) text
    letter_held word b raw text letter unrefused others =
        let is : consume (at_value (Within p word) content attribute) b ≡ moves (at_value (Within p (word ++ b ∷ [])) content attribute) [] =
        reads.references.within word b ∙ rw letter refl in
        reaches_byte [] open_here open_here is (others (goes_to _ b raw is unrefused))

    amp_read : (word : List ℕ) (b : ℕ) (raw text : List ℕ) → word ≡ codes "amp" → b ≡ semicolon → GoesOn (here (Some word)) (b ∷ raw) →
        Later (here None) raw text → Reaches (here (Some word)) (b ∷ raw) (ampersand ∷ text)
    amp_read word b raw text name ends unrefused others =
        let is : consume (at_value (Within p word) content attribute) b ≡ moves (at_value (In p) content attribute) (ValueByte ampersand ∷ []) =
        reads.references.within word b ∙ rw (name, ends, amp_named, amp_settled attribute, reads.reads) refl in
        reaches_byte (ampersand ∷ []) open_here open_here is (others (goes_to _ b raw is unrefused))

    -- a byte at which the word stands for itself, as it would be read without the word
    abbrev behind : List ℕ → Attribute
    behind word = behind_word word attribute

    behind_is : (word : List ℕ) → is_open listed (behind word) ≡ true
    behind_is word = behind_open listed word attribute ∙ url

    open_behind : (word : List ℕ) → is_url (behind word) ≡ true
    open_behind word = open_url_is listed (behind word) (behind_is word)

    pub flushed : (word : List ℕ) (b : ℕ) → are_letters word ≡ true → goes_on word b ≡ false → (b == semicolon) ≡ false →
        is_refused (consume (at_value (Within p word) content attribute) b).next.state ≡ false →
        consume (at_value (Within p word) content attribute) b ≡ flushes p word (value_byte p content (behind word) b)
    flushed word b letters ends no_end unrefused =
        reads.references.within word b
        ∙ word_flushed reads word b (value_byte p content (behind word) b) letters ends no_end
        (subst (λ (x : Transition). is_refused x.next.state ≡ false) (reads.references.within word b) unrefused)

    word_stands : (word : List ℕ) (b : ℕ) (raw text : List ℕ) → are_letters word ≡ true → goes_on word b ≡ false → (b == semicolon) ≡ false →
        closes_url listed p b ≡ false → (b == ampersand) ≡ false → GoesOn (here (Some word)) (b ∷ raw) →
        Later (held_at p content (behind word) None) raw text →
        Reaches (here (Some word)) (b ∷ raw) (ampersand ∷ word ++ b ∷ text)
    word_stands word b raw text letters ends no_end inner no_reference unrefused others =
        let next : Transition = value_byte p content (behind word) b in
        let later : ReadsUrl listed p content (behind word) = reads_url listed content (behind word) (behind_is word) p place in
        let first = flushed word b letters ends no_end (not_refused (consume (at_value (Within p word) content attribute) b).next raw unrefused) in
        let still : is_refused next.next.state ≡ false =
        not_refused next.next raw (subst (λ (x : Transition). is_refused (state_after x.next raw).state ≡ false) first unrefused) in
        let is : consume (at_value (Within p word) content attribute) b ≡ moves (at_value (In p) content (behind word)) (map ValueByte (ampersand ∷ word) ++ ValueByte b ∷ []) =
        first ∙ ap (flushes p word) (later.kept b inner no_reference still)
        ∙ ap (λ (f : ℕ → Action). moves (at_value (In p) content (behind word)) (map f (ampersand ∷ word) ++ ValueByte b ∷ [])) reads.reads in
        rw (← append_assoc word (b ∷ []) text)
        (reaches_byte (ampersand ∷ word ++ b ∷ []) open_here (open_behind word) (is ∙ ap (moves (at_value (In p) content (behind word))) (sym (map-append ValueByte (ampersand ∷ word) (b ∷ []))))
        (others (goes_to _ b raw is unrefused)))

    next_begun : (word : List ℕ) (b : ℕ) (raw text : List ℕ) → are_letters word ≡ true → b ≡ ampersand → GoesOn (here (Some word)) (b ∷ raw) →
        Later (held_at p content (behind word) (Some [])) raw text →
        Reaches (here (Some word)) (b ∷ raw) (ampersand ∷ word ++ text)
    next_begun word b raw text letters same unrefused others =
        let later : ReadsUrl listed p content (behind word) = reads_url listed content (behind word) (behind_is word) p place in
        let first = flushed word b letters (rw same refl) (rw same refl) (not_refused (consume (at_value (Within p word) content attribute) b).next raw unrefused) in
        let begins : value_byte p content (behind word) b ≡ moves (at_value (Within p []) content (behind word)) [] =
        ap (value_byte p content (behind word)) same ∙ sym (value_consumed p content (behind word) ampersand) ∙ later.references.begins in
        let is : consume (at_value (Within p word) content attribute) b ≡ moves (at_value (Within p []) content (behind word)) (map ValueByte (ampersand ∷ word)) =
        first ∙ ap (flushes p word) begins
        ∙ ap (λ (f : ℕ → Action). moves (at_value (Within p []) content (behind word)) (map f (ampersand ∷ word) ++ [])) reads.reads
        ∙ ap (moves (at_value (Within p []) content (behind word))) (append-nil (map ValueByte (ampersand ∷ word))) in
        reaches_byte (ampersand ∷ word) open_here (open_behind word) is (others (goes_to _ b raw is unrefused))

  reads_held : (attribute : Attribute) (held : Option (List ℕ)) (raw text : List ℕ) → is_open listed attribute ≡ true → letters_in held ≡ true →
      url_text_from is_ended held raw ≡ Some text → list_any (closes_url listed p) raw ≡ false → GoesOn (held_at p content attribute held) raw →
      Reaches (held_at p content attribute held) raw text
  reads_held attribute None [] text url letters is inner unrefused = let none : [] ≡ text = cc in rw (← none) (nothing_left attribute url)
  reads_held attribute (Some word) [] text url letters is inner unrefused = word_left attribute word text url letters is
  reads_held attribute None (b ∷ raw) text url letters is inner unrefused =
      let parts = or_parts (closes_url listed p b) (list_any (closes_url listed p) raw) inner in
      ⊎_elim
      (λ (reference : (b == ampersand) ≡ true).
      begun attribute url b raw text (eqb-true b ampersand reference) unrefused (reads_held attribute (Some []) raw text url refl (rw reference at is) parts.1))
      (λ (other : (b == ampersand) ≡ false).
      let more = mapped (λ text. b ∷ text) (url_text_from is_ended None raw) text (rw other at is) in
      rw (← more.whole) (kept_on attribute url b raw more.rest parts.0 other unrefused (reads_held attribute None raw more.rest url refl more.is parts.1)))
      (cases_Bool (b == ampersand))
  reads_held attribute (Some word) (b ∷ raw) text url letters is inner unrefused =
      let parts = or_parts (closes_url listed p b) (list_any (closes_url listed p) raw) inner in
      let behind = behind_word word attribute in
      let url_behind : is_open listed behind ≡ true = behind_open listed word attribute ∙ url in
      ⊎_elim
      (λ (letter : is_ascii_alphanumeric b ≡ true).
      letter_held attribute url word b raw text letter unrefused (reads_held attribute (Some (word ++ b ∷ [])) raw text url (letters_more word b letters letter) (rw letter at is) parts.1))
      (λ (no_letter : is_ascii_alphanumeric b ≡ false).
      ⊎_elim
      (λ (amp : (b == semicolon && bytes_eq word (codes "amp")) ≡ true).
      let both = and_parts (b == semicolon) (bytes_eq word (codes "amp")) amp in
      let ends : b ≡ semicolon = eqb-true b semicolon both.0 in
      let name : word ≡ codes "amp" = (bytes_eq-Decides word (codes "amp")).0 both.1 in
      let more = mapped (λ text. ampersand ∷ text) (url_text_from is_ended None raw) text (rw (no_letter, amp) at is) in
      rw (← more.whole) (amp_read attribute url word b raw more.rest name ends unrefused (reads_held attribute None raw more.rest url refl more.is parts.1)))
      (λ (no_amp : (b == semicolon && bytes_eq word (codes "amp")) ≡ false).
      ⊎_elim
      (λ (refused : (b == semicolon || goes_on word b) ≡ true). let never : None ≡ Some text = rw (no_letter, no_amp, (rw no_letter at refused)) at is in absurd (cc))
      (λ (stands : (b == semicolon || goes_on word b) ≡ false).
      let both = or_parts (b == semicolon) (goes_on word b) stands in
      ⊎_elim
      (λ (reference : (b == ampersand) ≡ true).
      let more = mapped (λ text. ampersand ∷ word ++ text) (url_text_from is_ended (Some []) raw) text (rw (no_letter, no_amp, (rw no_letter at stands), reference) at is) in
      rw (← more.whole) (next_begun attribute url word b raw more.rest letters (eqb-true b ampersand reference) unrefused (reads_held behind (Some []) raw more.rest url_behind refl more.is parts.1)))
      (λ (other : (b == ampersand) ≡ false).
      let more = mapped (λ text. ampersand ∷ word ++ b ∷ text) (url_text_from is_ended None raw) text (rw (no_letter, no_amp, (rw no_letter at stands), other) at is) in
      rw (← more.whole) (word_stands attribute url word b raw more.rest letters both.1 both.0 parts.0 other unrefused (reads_held behind None raw more.rest url_behind refl more.is parts.1)))
      (cases_Bool (b == ampersand)))
      (cases_Bool (b == semicolon || goes_on word b)))
      (cases_Bool (b == semicolon && bytes_eq word (codes "amp"))))
      (cases_Bool (is_ascii_alphanumeric b))

-- ---- markup behind which the URL goes on

pub record ReadsOn (listed : Bool) (p : SlotPlace) (content : Content) (start : Tokenizer) (raw text : List ℕ) : Type 0 where
  pub attribute : Attribute
  pub url_open : is_open listed attribute ≡ true
  pub stays : StaysUrl start raw text (at_value (In p) content attribute)

pub reads_on : (listed : Bool) (p : SlotPlace) (content : Content) (attribute : Attribute) (raw text : List ℕ) → is_value_place p ≡ true →
    is_open listed attribute ≡ true → list_any (closes_url listed p) raw ≡ false → url_text false raw ≡ Some text →
    is_refused (state_after (at_value (In p) content attribute) raw).state ≡ false → ReadsOn listed p content (at_value (In p) content attribute) raw text
reads_on listed p content attribute raw text place url_open inner is unrefused =
    let start : Tokenizer = at_value (In p) content attribute in
    let found = reads_held listed p content false place attribute None raw text url_open refl is inner unrefused in
    let none : found.held ≡ None = found.none refl in
    let all : text ≡ found.added = found.whole ∙ ap (λ h. found.added ++ held_text h) none ∙ append-nil found.added in
    record {
      attribute = found.attribute;
      url_open = found.url_open;
      stays = subst (λ (x : List ℕ). StaysUrl start raw x (at_value (In p) content found.attribute)) (sym all)
          (subst (λ h. StaysUrl start raw found.added (held_at p content found.attribute h)) none found.stays);
    }

-- ---- markup, and the byte that ends the URL

record NoWord (word : List ℕ) (b : ℕ) : Type 0 where
  ends : goes_on word b ≡ false
  no_end : (b == semicolon) ≡ false

mark_is_no_word : (word : List ℕ) (b : ℕ) → is_list_mark b ≡ true → NoWord word b
mark_is_no_word word b mark = record { ends = grind (arith, nat_tests); no_end = grind (arith, nat_tests) }

end_is_no_word : (p : SlotPlace) (word : List ℕ) (b : ℕ) → is_value_place p ≡ true → ends_value p b ≡ true → NoWord word b
end_is_no_word DoubleQuoted word b place ends = let is : b ≡ 34 = eqb-true b 34 ends in record { ends = rw is refl; no_end = rw is refl }
end_is_no_word SingleQuoted word b place ends = let is : b ≡ 39 = eqb-true b 39 ends in record { ends = rw is refl; no_end = rw is refl }
end_is_no_word Unquoted word b place ends = record { ends = grind (arith, nat_tests); no_end = grind (arith, nat_tests) }
end_is_no_word other word b place ends = absurd (false≢true place)

close_is_no_word : (listed : Bool) (p : SlotPlace) (word : List ℕ) (b : ℕ) → is_value_place p ≡ true → closes_url listed p b ≡ true → NoWord word b
close_is_no_word false p word b place ends = end_is_no_word p word b place ends
close_is_no_word true p word b place ends =
    ⊎_elim
    (λ (here : ends_value p b ≡ true). end_is_no_word p word b place here)
    (λ (inner : ends_value p b ≡ false). mark_is_no_word word b (rw inner at ends))
    (cases_Bool (ends_value p b))

-- letters and digits cut no list
letter_cuts_none : (b : ℕ) → is_ascii_alphanumeric b ≡ true → is_list_mark b ≡ false
letter_cuts_none b letter = grind (arith, nat_tests)

letters_cut_none : (word : List ℕ) → are_letters word ≡ true → list_any is_list_mark word ≡ false
letters_cut_none [] letters = refl
letters_cut_none (b ∷ word) letters =
    let parts = and_parts (is_ascii_alphanumeric b) (are_letters word) letters in
    rw (letter_cuts_none b parts.0) (letters_cut_none word parts.1)

-- a word that stands for itself leaves what the byte appends behind it
same_last : (listed : Bool) (attribute behind : Attribute) (bytes : List ℕ) → is_open listed attribute ≡ true → is_open listed behind ≡ true →
    last_bytes attribute bytes ≡ last_bytes behind bytes
same_last true (Listed part) (Listed other) bytes is behind = refl
same_last true (Listed part) other bytes is behind = absurd (false≢true behind)
same_last true other behind bytes is url_open = absurd (false≢true is)
same_last false (Listed part) behind bytes is url_open = absurd (false≢true is)
same_last false attribute (Listed part) bytes is url_open = absurd (false≢true url_open)
same_last false attribute behind bytes is url_open = refl

held_ends : (listed : Bool) (p : SlotPlace) (content : Content) (attribute : Attribute) (held : Option (List ℕ)) (b : ℕ) → is_value_place p ≡ true →
    is_open listed attribute ≡ true → letters_in held ≡ true → closes_url listed p b ≡ true →
    is_refused (consume (held_at p content attribute held) b).next.state ≡ false → Ends (held_at p content attribute held) b (held_text held)
held_ends listed p content attribute None b place url_open letters ends unrefused = ends_at listed p content attribute b place url_open ends
held_ends listed p content attribute (Some word) b place url_open letters ends unrefused =
    let none = close_is_no_word listed p word b place ends in
    let behind : Attribute = behind_word word attribute in
    let open_behind : is_open listed behind ≡ true = behind_open listed word attribute ∙ url_open in
    let later : ReadsUrl listed p content behind = reads_url listed content behind open_behind p place in
    let whole = ends_at listed p content behind b place open_behind ends in
    let last : List ℕ = value_bytes (consume (at_value (In p) content behind) b).actions in
    let is : consume (at_value (Within p word) content attribute) b ≡ flushes p word (consume (at_value (In p) content behind) b) =
    flushed listed p content false place attribute url_open word b letters none.ends none.no_end unrefused ∙ ap (flushes p word) (sym (value_consumed p content behind b)) in
    let appended : value_bytes (consume (at_value (Within p word) content attribute) b).actions ≡ (ampersand ∷ word) ++ last =
    ap (λ (x : Transition). value_bytes x.actions) is
    ∙ ap (λ (f : ℕ → Action). value_bytes (map f (ampersand ∷ word) ++ (consume (at_value (In p) content behind) b).actions)) later.reads
    ∙ value_bytes-append (map ValueByte (ampersand ∷ word)) (consume (at_value (In p) content behind) b).actions
    ∙ ap (λ x. x ++ last) (value_bytes-map (ampersand ∷ word)) in
    record {
      no_url = ap (λ (x : Transition). is_url x.next.attribute) is ∙ whole.no_url;
      adds = ap (last_bytes attribute) appended
          ∙ last_held attribute (ampersand ∷ word) last (letters_cut_none word letters)
          ∙ ap (λ x. (ampersand ∷ word) ++ x) (same_last listed attribute behind last url_open open_behind ∙ whole.adds)
          ∙ append-nil (ampersand ∷ word);
    }

pub record ReadsToEnd (start : Tokenizer) (raw text : List ℕ) (b : ℕ) : Type 0 where
  pub there : Tokenizer
  pub url : is_url there.attribute ≡ true
  pub first : List ℕ
  pub added : List ℕ
  pub whole : text ≡ first ++ added
  pub stays : StaysUrl start raw first there
  pub ends : Ends there b added

held_url : (p : SlotPlace) (content : Content) (attribute : Attribute) (held : Option (List ℕ)) → is_url attribute ≡ true → is_url (held_at p content attribute held).attribute ≡ true
held_url p content attribute None url = url
held_url p content attribute (Some word) url = url

pub reads_to_end : (listed : Bool) (p : SlotPlace) (content : Content) (attribute : Attribute) (raw text : List ℕ) (b : ℕ) → is_value_place p ≡ true →
    is_open listed attribute ≡ true → list_any (closes_url listed p) raw ≡ false → closes_url listed p b ≡ true → url_text true raw ≡ Some text →
    is_refused (consume (state_after (at_value (In p) content attribute) raw) b).next.state ≡ false →
    ReadsToEnd (at_value (In p) content attribute) raw text b
reads_to_end listed p content attribute raw text b place url_open inner ends is unrefused =
    let start : Tokenizer = at_value (In p) content attribute in
    let before : is_refused (state_after start raw).state ≡ false = not_refused (state_after start raw) (b ∷ []) unrefused in
    let found = reads_held listed p content true place attribute None raw text url_open refl is inner before in
    let there : Tokenizer = held_at p content found.attribute found.held in
    let still : is_refused (consume there b).next.state ≡ false =
    subst (λ (x : Tokenizer). is_refused (consume x b).next.state ≡ false) found.stays.passes.after unrefused in
    record {
      there = there;
      url = held_url p content found.attribute found.held (open_url_is listed found.attribute found.url_open);
      first = found.added;
      added = held_text found.held;
      whole = found.whole;
      stays = found.stays;
      ends = held_ends listed p content found.attribute found.held b place found.url_open found.letters ends still;
    }
