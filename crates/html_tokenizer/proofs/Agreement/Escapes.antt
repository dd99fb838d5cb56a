-- Strings of scripts and of styles: each escape that the grammar reads, the tokenizer reads, or gives the string up.
use Rattle.std.proofs.Common.{ℕ, ◌≡◌, false, List, ◌∷◌, ◌==◌, ◌⊎◌, inl, inr, encode_utf8, eq-eqb, arith, refl, sym, ◌∙◌, ap, zero, suc, ◌≤◌, ◌+◌, true, ◌&&◌, [], ◌++◌, length, take, nat_lt, subst, append_assoc, add-zero, length-append}
use Rattle.std.proofs.lemmas.Bool.{cases_Bool, and_parts, cond-true, eqb-true}
use Rattle.std.proofs.lemmas.Bool.Decides.{nat_tests}
use Rattle.hesc_specs.specs.Text.Ascii.{backslash, less_than}
use Rattle.hesc_specs.specs.declared.quotes.Quotes.{Quotes}
use Rattle.hesc_grammars.specs.declared.step.Mode.TheVariants.{Plain}
use Rattle.hesc_grammars.specs.declared.step.Step.TheVariants.{Byte, Nothing, Character}
use Rattle.hesc_grammars.specs.ScriptStrings.{begins_line_end, script_escape, script_string_step}
use Rattle.hesc_grammars.proofs.EscapedMarks.{mark_is_no_backslash}
use Rattle.hesc_grammars.proofs.Takes.{reads_character, Takes, takes_two}
use Rattle.html_tokenizer.specs.declared.slot_place.SlotPlace.{SlotPlace}
use Rattle.html_tokenizer.specs.declared.elements.Content.{Content}
use Rattle.html_tokenizer.specs.Tokenizer.Code.Comments.{ends_line}
use Rattle.html_tokenizer.proofs.Slots.Scripts.{Escape, ReadsScript, escape_of}
use Rattle.html_tokenizer.proofs.Agreement.Strings.{Escaped, StringPlace, reads_whole, Reads, reads_held}
use Rattle.std.specs.List.{list_all, take_while}
use Rattle.std.specs.Str.Parse.{digits_value}
use Rattle.std.proofs.Math.Seq.{drop-append_seam}
use Rattle.std.proofs.lemmas.List.Folds.{list_all-append}
use Rattle.std.proofs.lemmas.List.Sums.{take_while-cons}
use Rattle.hesc_grammars.specs.StyleStrings.{begins_white_space, digits_escape, escaped_character, is_newline_or_nul, style_escape, style_string_step, white_space_length}
use Rattle.html_tokenizer.specs.Tokenizer.Code.Strings.{gives_escape_up, is_escape_space}
use Rattle.html_tokenizer.specs.Tokenizer.States.{Tokenizer, In, Within, at}
use Rattle.html_tokenizer.specs.Tokenizer.Tokenization.{consume, state_after}
use Rattle.html_tokenizer.specs.Tokenizer.Transitions.{Transition, goes}
use Rattle.html_tokenizer.specs.Agreement.{is_given_up}
use Rattle.html_tokenizer.proofs.Slots.Styles.{Held, ReadsStyle, byte_stays, digits_stay, first_digit, is_hex, is_next_digit, next_digit}

module _ {p : SlotPlace} {mark : ℕ} {quotes : Quotes} {content : Content} (reads : ReadsScript p mark quotes content) where
  escaped : (bytes : List ℕ) → Escape p content bytes → Escaped p content mark (script_string_step mark) bytes
  unfolding script_string_step
  escaped bytes e = record {
    word = e.word;
    rest = e.rest;
    value = encode_utf8 e.character;
    parts = e.parts;
    takes = reads_character (script_string_step mark) {mode = Plain} e.word e.rest e.character
        (rw (mark_is_no_backslash quotes mark reads.string.quote) (ap script_escape (sym e.parts) ∙ e.is));
    reads = λ front more others rest_is read. reads_whole mark (backslash ∷ e.word) (encode_utf8 e.character) front more e.stays read;
  }

  script_escapes : (bytes : List ℕ) → (script_string_step mark Plain (backslash ∷ bytes) ≡ Nothing) ⊎ Escaped p content mark (script_string_step mark) bytes
  unfolding script_string_step
  script_escapes bytes =
      elim (escape_of reads bytes) [
        | inl none ↦ inl (rw (mark_is_no_backslash quotes mark reads.string.quote) none)
        | inr e ↦ inr (escaped bytes e)
      ]

  -- what ends no line by the grammar, ends none to the tokenizer
  script_others : (b : ℕ) (bytes : List ℕ) → (b == mark) ≡ false → (b == backslash) ≡ false →
      (script_string_step mark Plain (b ∷ bytes) ≡ Nothing) ⊎ ((script_string_step mark Plain (b ∷ bytes) ≡ Byte 0 b Plain) × (ends_line b ≡ false))
  unfolding script_string_step
  script_others b bytes no_mark no_backslash =
      elim (cases_Bool (begins_line_end (b ∷ bytes))) [
        | inl ends ↦ inl (rw (no_mark, no_backslash, ends) refl)
        | inr within ↦ inr (rw (no_mark, no_backslash, within) refl, grind (arith, nat_tests))
      ]

  pub script_place : StringPlace p content mark quotes ends_line (script_string_step mark)
  unfolding script_string_step
  script_place = record { string = reads.string; closes = λ bytes. rw (eq-eqb mark mark refl) refl; others = script_others; escapes = script_escapes }

-- ---- styles

lt-suc : (a b : ℕ) → nat_lt (suc a) (suc b) ≡ nat_lt a b
lt-suc a b = grind (arith, nat_tests)

-- digits that no other digit follows, up to so many
taken : (most : ℕ) (digits rest : List ℕ) → list_all is_hex digits ≡ true → length digits ≤ most →
    ((s : ℕ) (more : List ℕ) → rest ≡ s ∷ more → (is_hex s && nat_lt (length digits) most) ≡ false) → take_while is_hex (take most (digits ++ rest)) ≡ digits
taken zero [] rest all few stops = refl
taken (suc most) [] [] all few stops = refl
taken (suc most) [] (s ∷ rest) all few stops =
    let other : is_hex s ≡ false = (let h = stops s rest refl in grind (arith, nat_tests)) in
    take_while-cons is_hex s (take most rest) ∙ rw other refl
taken zero (d ∷ digits) rest all few stops = absurd (omega arith)
taken (suc most) (d ∷ digits) rest all few stops =
    let parts = and_parts (is_hex d) (list_all is_hex digits) all in
    take_while-cons is_hex d (take most (digits ++ rest))
    ∙ rw parts.0 (ap (λ x. d ∷ x) (taken most digits rest parts.1 (omega arith) (λ s more is. rw (← lt-suc (length digits) most) (stops s more is))))

module _ {p : SlotPlace} {mark : ℕ} {quotes : Quotes} {content : Content} (reads : ReadsStyle p mark quotes content) where
  abbrev EscapedAt : List ℕ → Type 0
  EscapedAt bytes = Escaped p content mark (style_string_step mark) bytes

  -- a `\` and a byte that is no digit: at a `<` the string is given up
  one_byte : (b : ℕ) (bytes : List ℕ) → is_hex b ≡ false → is_newline_or_nul b ≡ false →
      ((front more : List ℕ) → Reads p content mark front more → Reads p content mark (backslash ∷ b ∷ front) (b ∷ more)) → EscapedAt (b ∷ bytes)
  unfolding style_string_step
  one_byte b bytes no_digit no_newline read =
      let takes : Takes (style_string_step mark) Plain (backslash ∷ b ∷ []) (b ∷ []) Plain =
      takes_two (λ rest. rw (mark_is_no_backslash quotes mark reads.string.quote, no_digit, no_newline) refl) in
      record {
        word = b ∷ [];
        rest = bytes;
        value = b ∷ [];
        parts = refl;
        takes = takes.goes_on bytes;
        reads = λ front more others rest_is. read front more;
      }

  less_gives_up : (front more : List ℕ) → Reads p content mark (backslash ∷ less_than ∷ front) (less_than ∷ more)
  less_gives_up front more =
      let begins : consume (at (In p) content) backslash ≡ goes (Within p []) content [] =
      reads.string.bytes backslash ∙ rw (mark_is_no_backslash quotes mark reads.string.quote) refl in
      let up : consume (at (Within p []) content) less_than ≡ gives_escape_up content [] less_than = reads.within [] less_than ∙ refl in
      let first : state_after (at (In p) content) (backslash ∷ less_than ∷ []) ≡ (gives_escape_up content [] less_than).next =
      ap (λ (x : Transition). state_after x.next (less_than ∷ [])) begins ∙ ap (λ (x : Transition). x.next) up in
      inr (record {
        before = [];
        word = backslash ∷ less_than ∷ [];
        following = front;
        parts = refl;
        leaves = inl (record { markup = refl; after = ap (λ (x : Tokenizer). is_given_up x.state) first });
      })

  no_digit : (b : ℕ) (bytes : List ℕ) → is_hex b ≡ false → (style_escape (b ∷ bytes) ≡ Nothing) ⊎ EscapedAt (b ∷ bytes)
  no_digit b bytes other =
      elim (cases_Bool (is_newline_or_nul b)) [
        | inl newline ↦ inl (rw (other, newline) refl)
        | inr no_newline ↦
            elim (cases_Bool (b == less_than)) [
              | inl less ↦
                  inr (one_byte b bytes other no_newline (λ front more read. rw (eqb-true b less_than less) (less_gives_up front more)))
              | inr no_less ↦
                  inr (one_byte b bytes other no_newline
                  (λ front more read. reads_whole mark (backslash ∷ b ∷ []) (b ∷ []) front more (byte_stays reads b other no_newline no_less) read))
            ]
      ]

  module _ (d : ℕ) (digits : List ℕ) (all : list_all is_hex (d ∷ digits) ≡ true) (few : length (d ∷ digits) ≤ 6) (held : Held reads d digits) where
    abbrev character : ℕ
    character = escaped_character (digits_value 16 (d ∷ digits))

    stops_at : {s : ℕ} {rest : List ℕ} → is_next_digit (d ∷ digits) s ≡ false → (c : ℕ) (more : List ℕ) → s ∷ rest ≡ c ∷ more → is_next_digit (d ∷ digits) c ≡ false
    stops_at {s} stop c more is = let same : s ≡ c = cc in subst (λ x. is_next_digit (d ∷ digits) x ≡ false) same stop

    -- what the grammar finds at the `\`
    step_at : (rest : List ℕ) → ((s : ℕ) (more : List ℕ) → rest ≡ s ∷ more → is_next_digit (d ∷ digits) s ≡ false) →
        style_string_step mark Plain (backslash ∷ (d ∷ digits ++ rest)) ≡ Character (length (d ∷ digits) + white_space_length rest) character Plain
    unfolding style_string_step
    step_at rest stops =
        let bytes : List ℕ = d ∷ digits ++ rest in
        let escape : style_string_step mark Plain (backslash ∷ bytes) ≡ style_escape bytes = rw (mark_is_no_backslash quotes mark reads.string.quote) refl in
        escape ∙ cond-true (is_hex d) _ _ (and_parts (is_hex d) (list_all is_hex digits) all).0
        ∙ ap (λ ds. digits_escape ds bytes) (taken 6 (d ∷ digits) rest all few stops)
        ∙ ap (λ x. Character (length (d ∷ digits) + white_space_length x) character Plain) (drop-append_seam (d ∷ digits) rest)

    -- white space belongs to the escape
    white : (s : ℕ) (rest : List ℕ) → is_next_digit (d ∷ digits) s ≡ false → is_escape_space s ≡ true → EscapedAt (d ∷ digits ++ s ∷ rest)
    white s rest stop blank =
        let tail : List ℕ = d ∷ digits ++ s ∷ [] in
        let whole : d ∷ digits ++ s ∷ rest ≡ tail ++ rest = ap (λ x. d ∷ x) (sym (append_assoc digits (s ∷ []) rest)) in
        let one : white_space_length (s ∷ rest) ≡ 1 = rw blank refl in
        let long : length tail ≡ length (d ∷ digits) + 1 = length-append (d ∷ digits) (s ∷ []) in
        record {
          word = tail;
          rest = rest;
          value = encode_utf8 character;
          parts = whole;
          takes = reads_character (style_string_step mark) tail rest character
              (ap (λ x. style_string_step mark Plain (backslash ∷ x)) (sym whole) ∙ step_at (s ∷ rest) (stops_at stop)
              ∙ ap (λ n. Character n character Plain) (ap (λ n. length (d ∷ digits) + n) one ∙ sym long));
          reads = λ front more others rest_is. reads_whole mark (backslash ∷ tail) (encode_utf8 character) front more (digits_stay reads d s digits stop blank held);
        }

    -- what follows is read after the digits
    plain : (rest : List ℕ) → ((s : ℕ) (more : List ℕ) → rest ≡ s ∷ more → is_next_digit (d ∷ digits) s ≡ false) → begins_white_space rest ≡ false →
        ((front more others : List ℕ) → rest ≡ front ++ mark ∷ others → Reads p content mark front more →
        Reads p content mark ((backslash ∷ d ∷ digits) ++ front) (encode_utf8 character ++ more)) → EscapedAt (d ∷ digits ++ rest)
    plain rest stops no_blank read =
        let none : white_space_length rest ≡ 0 = rw no_blank refl in
        record {
          word = d ∷ digits;
          rest = rest;
          value = encode_utf8 character;
          parts = refl;
          takes = reads_character (style_string_step mark) (d ∷ digits) rest character
              (step_at rest stops ∙ ap (λ n. Character n character Plain) (ap (λ n. length (d ∷ digits) + n) none ∙ add-zero (length (d ∷ digits))));
          reads = read;
        }

  in_digits : (d : ℕ) (digits : List ℕ) → list_all is_hex (d ∷ digits) ≡ true → length (d ∷ digits) ≤ 6 → Held reads d digits →
      (rest : List ℕ) → EscapedAt (d ∷ digits ++ rest)
  in_digits d digits all few held [] =
      plain d digits all few held [] (λ s more is. cc) refl
      (λ front more others rest_is read. absurd (omega (arith, ap length rest_is, length-append front (mark ∷ others))))
  in_digits d digits all few held (s ∷ rest) =
      elim (cases_Bool (is_next_digit (d ∷ digits) s)) [
        | inl next ↦
            let parts = and_parts (is_hex s) (nat_lt (length (d ∷ digits)) 6) next in
            let longer : length (digits ++ s ∷ []) ≡ length digits + 1 = length-append digits (s ∷ []) in
            let hex : list_all is_hex (digits ++ s ∷ []) ≡ true = list_all-append is_hex digits (s ∷ []) ∙ rw ((and_parts (is_hex d) (list_all is_hex digits) all).1, parts.0) refl in
            subst (λ x. EscapedAt (d ∷ x)) (append_assoc digits (s ∷ []) rest)
            (in_digits d (digits ++ s ∷ []) (rw ((and_parts (is_hex d) (list_all is_hex digits) all).0, hex) refl)
            (let short = parts.1 in grind (arith, nat_tests)) (next_digit reads d s digits next held) rest)
        | inr stop ↦
            elim (cases_Bool (is_escape_space s)) [
              | inl blank ↦ white d digits all few held s rest stop blank
              | inr no_blank ↦
                  plain d digits all few held (s ∷ rest) (stops_at d digits all few held stop) no_blank
                  (reads_held mark (backslash ∷ d ∷ digits) (encode_utf8 (escaped_character (digits_value 16 (d ∷ digits)))) held s rest
                  (reads.within (d ∷ digits) s ∙ rw (stop, no_blank, reads.string.bytes s) refl))
            ]
      ]

  escapes : (bytes : List ℕ) → (style_escape bytes ≡ Nothing) ⊎ EscapedAt bytes
  escapes [] = inl refl
  escapes (b ∷ bytes) =
      elim (cases_Bool (is_hex b)) [
        | inl hex ↦ inr (in_digits b [] (rw hex refl) (omega arith) (first_digit reads b hex) bytes)
        | inr other ↦ no_digit b bytes other
      ]

  step_escapes : (bytes : List ℕ) → (style_string_step mark Plain (backslash ∷ bytes) ≡ Nothing) ⊎ EscapedAt bytes
  unfolding style_string_step
  step_escapes bytes =
      elim (escapes bytes) [
        | inl none ↦ inl (rw (mark_is_no_backslash quotes mark reads.string.quote) none)
        | inr e ↦ inr e
      ]

  others : (b : ℕ) (bytes : List ℕ) → (b == mark) ≡ false → (b == backslash) ≡ false →
      (style_string_step mark Plain (b ∷ bytes) ≡ Nothing) ⊎ ((style_string_step mark Plain (b ∷ bytes) ≡ Byte 0 b Plain) × (is_newline_or_nul b ≡ false))
  unfolding style_string_step
  others b bytes no_mark no_backslash =
      elim (cases_Bool (is_newline_or_nul b)) [
        | inl newline ↦ inl (rw (no_mark, no_backslash, newline) refl)
        | inr kept ↦ inr (rw (no_mark, no_backslash, kept) refl, kept)
      ]

  pub style_place : StringPlace p content mark quotes is_newline_or_nul (style_string_step mark)
  unfolding style_string_step
  style_place = record { string = reads.string; closes = λ bytes. rw (eq-eqb mark mark refl) refl; others = others; escapes = step_escapes }
