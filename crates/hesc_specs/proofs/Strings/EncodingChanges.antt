-- The changes of a string encoder: which comes first, when none is left, and that they make the encoding.
use Rattle.std.proofs.Common.{◌≡◌, ℕ, add-zero, ◌+◌, ◌-◌, ◌≤◌, ◌<◌, List, [], ◌∷◌, ◌++◌, Bool, true, false, Some, length, take, drop, flat_map, IsUtf8, refl, sym, ap, subst, ◌∙◌, append_assoc, length-append, arith, get_or, if◌then◌else◌, ◌==◌}
use Rattle.std.proofs.lemmas.Bool.Decides.{nat_tests}
use Rattle.std.specs.Prelude.{chars, slice_range, slice_index}
use Rattle.std.specs.Char.{len_utf8}
use Rattle.std.specs.Str.{IsCharBoundary}
use Rattle.std.proofs.lemmas.List.{drop-drop, drop_at, drop_more, get_or-drop, length-drop, length-take, take-append-drop}
use Rattle.std.proofs.lemmas.List.Folds.{drop_split}
use Rattle.std.proofs.lemmas.Str.{IsUtf8-drop, IsUtf8-take, IsCharBoundary-past_char, chars-append, chars-nil, chars_past_char, encode_ascii, encodes-chars, len_utf8_bounds, length-encode}
use Rattle.std.proofs.Math.Seq.{drop-length}
use Rattle.std.proofs.Math.Utf8.{encode, encodes}
use Rattle.hesc_specs.specs.Text.Changes.{applied}
use Rattle.hesc_specs.specs.Text.Classes.{separator_lead, string_class}
use Rattle.hesc_specs.specs.Text.EscapedPlaces.{begins_escaped, escapes_at}
use Rattle.hesc_specs.specs.Text.FirstPlace.{IsFirstAt}
use Rattle.hesc_specs.specs.Strings.Changes.{character_end, string_encoding_changes, string_encoding_changes_of}
use Rattle.hesc_specs.specs.Strings.Encoding.{is_escaped, line_separator, paragraph_separator, string_encoding, string_escape, string_image}
use Rattle.hesc_specs.specs.declared.classes.Class.{Class}
use Rattle.hesc_specs.specs.declared.elements.Element.{Element}
use Rattle.hesc_specs.specs.declared.elements.Element.TheVariants.{Script}
use Rattle.hesc_specs.specs.declared.quotes.Quotes.{Quotes}
use Rattle.hesc_specs.proofs.Strings.CharacterBytes.{begins_escaped-character, begins_escaped-lead, encode-line_separator, encode-paragraph_separator, is_escaped-cases}
use Rattle.hesc_specs.proofs.Text.SliceRanges.{slice_range-further, slice_range-nothing}

-- one character more, by whether it is replaced
applied-step : (element : Element) (quotes : Quotes) (source : List ℕ) (from at c : ℕ) (characters : List ℕ) (t : Bool) → is_escaped element quotes c ≡ t → from ≤ at
    → drop at source ≡ encodes (c ∷ characters)
    → applied source from (string_encoding_changes_of element quotes (character_end at c) characters) ≡ slice_range source from (character_end at c) ++ flat_map (string_image element quotes) characters
    → applied source (character_end at c) (string_encoding_changes_of element quotes (character_end at c) characters) ≡ slice_range source (character_end at c) (character_end at c) ++ flat_map (string_image element quotes) characters
    → applied source from (string_encoding_changes_of element quotes at (c ∷ characters)) ≡ slice_range source from at ++ flat_map (string_image element quotes) (c ∷ characters)
applied-step element quotes source from at c characters true replaced ordered is on next =
    let after : applied source (character_end at c) (string_encoding_changes_of element quotes (character_end at c) characters) ≡ flat_map (string_image element quotes) characters =
    rw (slice_range-nothing source (character_end at c)) at next in
    rw (replaced, after) refl
applied-step element quotes source from at c characters false kept ordered is on next =
    rw kept (on ∙ rw (slice_range-further source from at (encode c) (encodes characters) ordered is) (append_assoc (slice_range source from at) (encode c) (flat_map (string_image element quotes) characters)))

-- the changes made, from a place before the characters on
applied-changes_of : (element : Element) (quotes : Quotes) (source : List ℕ) (from at : ℕ) (characters : List ℕ) → from ≤ at → drop at source ≡ encodes characters
    → applied source from (string_encoding_changes_of element quotes at characters) ≡ slice_range source from at ++ flat_map (string_image element quotes) characters
applied-changes_of element quotes source from at [] ordered is = drop_split source from at ordered ∙ ap (λ rest. slice_range source from at ++ rest) is
applied-changes_of element quotes source from at (c ∷ characters) ordered is =
    let rest : drop (character_end at c) source ≡ encodes characters = sym (drop-drop (length (encode c)) at source) ∙ (ap (drop (length (encode c))) is ∙ drop_at (encode c) (encodes characters) (length (encode c)) refl) in
    applied-step element quotes source from at c characters (is_escaped element quotes c) refl ordered is
    (applied-changes_of element quotes source from (character_end at c) characters (omega arith) rest)
    (applied-changes_of element quotes source (character_end at c) (character_end at c) characters (omega arith) rest)

-- the changes of a string encoder, made, are its encoding
pub applied-string_encoding_changes : (element : Element) (quotes : Quotes) (source : List ℕ) → IsUtf8 source
    → applied source 0 (string_encoding_changes element quotes source 0) ≡ string_encoding element quotes source
applied-string_encoding_changes element quotes source text = applied-changes_of element quotes source 0 0 (chars source) (omega arith) (sym (encodes-chars source text))

-- the first replaced character from a place on: where it stands, and what becomes of it
pub record FirstEscaped (element : Element) (quotes : Quotes) (source : List ℕ) (from at : ℕ) : Type 0 where
  pub character : ℕ
  pub after : List ℕ
  pub bytes : drop at source ≡ encode character ++ after
  pub replaced : is_escaped element quotes character ≡ true
  pub within : character_end at character ≤ length source
  pub start_boundary : IsCharBoundary source at
  pub end_boundary : IsCharBoundary source (character_end at character)
  pub changes : string_encoding_changes element quotes source from ≡
      record { start = at; end = character_end at character; bytes = string_escape element character } ∷ string_encoding_changes element quotes source (character_end at character)

module _ (class : Class) (element : Element) (quotes : Quotes) (is : string_class class ≡ Some (element, quotes)) where
  -- no replaced character begins in the first characters
  kept-changes_of : (at : ℕ) (front rest : List ℕ) (bytes : List ℕ) → ((k : ℕ) → k < length (encodes front) → begins_escaped class (drop k (encodes front ++ bytes)) ≡ false)
      → string_encoding_changes_of element quotes at (front ++ rest) ≡ string_encoding_changes_of element quotes (at + length (encodes front)) rest
  kept-changes_of at [] rest bytes before = rw add-zero refl
  kept-changes_of at (c ∷ front) rest bytes before =
      let whole : length (encodes (c ∷ front)) ≡ length (encode c) + length (encodes front) = length-append (encode c) (encodes front) in
      let joined : encodes (c ∷ front) ++ bytes ≡ encode c ++ (encodes front ++ bytes) = append_assoc (encode c) (encodes front) bytes in
      let first : is_escaped element quotes c ≡ false =
      sym (begins_escaped-character class element quotes is c (encodes front ++ bytes)) ∙ (ap (λ all. begins_escaped class all) (sym joined) ∙ before 0 (omega (arith, whole, length-encode c, (len_utf8_bounds c).0))) in
      let later : (k : ℕ) → k < length (encodes front) → begins_escaped class (drop k (encodes front ++ bytes)) ≡ false = λ k below.
      ap (λ all. begins_escaped class all)
      (ap (drop k) (sym (drop_at (encode c) (encodes front ++ bytes) (length (encode c)) refl)) ∙ (drop-drop k (length (encode c)) (encode c ++ (encodes front ++ bytes)) ∙ ap (drop (length (encode c) + k)) (sym joined)))
      ∙ before (length (encode c) + k) (omega (arith, whole)) in
      let there : (at + length (encode c)) + length (encodes front) ≡ at + length (encodes (c ∷ front)) = omega (arith, whole) in
      rw first (kept-changes_of (character_end at c) front rest bytes later ∙ ap (λ place. string_encoding_changes_of element quotes place rest) there)

  module _ (source : List ℕ) (text : IsUtf8 source) (from at : ℕ) (first : IsFirstAt (escapes_at class source) from (length source) at) where
    -- a character begins where something is replaced, and at the end
    found_boundary : IsCharBoundary source at
    found_boundary = (first.in_range, λ within high. begins_escaped-lead class element quotes is (slice_index source at) (drop (at + 1) source) (rw (drop_more source at 0 within) at (first.found within)) high)

    -- the changes from a place on are those from the first replaced character on
    reached-changes : IsCharBoundary source from → string_encoding_changes element quotes source from ≡ string_encoding_changes element quotes source at
    reached-changes boundary =
        let count : ℕ = at - from in
        let there : from + count ≡ at = omega (arith, first.ordered) in
        let rest_length : length (drop from source) ≡ length source - from = length-drop from source in
        let rest_text : IsUtf8 (drop from source) = IsUtf8-drop source from text boundary in
        let same_byte : slice_index (drop from source) count ≡ slice_index source at = get_or-drop from source count 0 ∙ ap (λ place. slice_index source place) there in
        let rest_boundary : IsCharBoundary (drop from source) count =
        (omega (arith, rest_length, first.in_range, there), λ within high. rw same_byte (found_boundary.1 (omega (arith, rest_length, there)) (rw same_byte at high))) in
        let front : List ℕ = take count (drop from source) in
        let front_text : IsUtf8 front = IsUtf8-take (drop from source) count rest_text rest_boundary in
        let front_length : length front ≡ count = omega (arith, length-take count (drop from source), rest_length, first.in_range, there) in
        let spelt : encodes (chars front) ≡ front = encodes-chars front front_text in
        let after_front : drop count (drop from source) ≡ drop at source = drop-drop count from source ∙ ap (λ place. drop place source) there in
        let whole : front ++ drop at source ≡ drop from source = ap (λ rest. front ++ rest) (sym after_front) ∙ take-append-drop count (drop from source) in
        let before : (k : ℕ) → k < length (encodes (chars front)) → begins_escaped class (drop k (encodes (chars front) ++ drop at source)) ≡ false = λ k below.
        ap (λ all. begins_escaped class all) (ap (λ bytes. drop k (bytes ++ drop at source)) spelt ∙ (ap (drop k) whole ∙ drop-drop k from source))
        ∙ first.before (from + k) (omega arith) (omega (arith, ap length spelt, front_length, there)) in
        let ended : from + length (encodes (chars front)) ≡ at = omega (arith, ap length spelt, front_length, there) in
        ap (λ bytes. string_encoding_changes_of element quotes from (chars bytes)) (sym whole)
        ∙ (ap (string_encoding_changes_of element quotes from) (chars-append front (drop at source) front_text)
        ∙ (kept-changes_of from (chars front) (chars (drop at source)) (drop at source) before
        ∙ ap (λ place. string_encoding_changes_of element quotes place (chars (drop at source))) ended))

    -- none is left where no replaced character begins any more
    pub no-string_encoding_changes : IsCharBoundary source from → at ≡ length source → string_encoding_changes element quotes source from ≡ []
    no-string_encoding_changes boundary is_end = reached-changes boundary ∙ rw (is_end, drop-length source, chars-nil) refl

    -- the change of a replaced character
    escaped_character : IsCharBoundary source from → at < length source → (characters : List ℕ) → encodes characters ≡ drop at source → FirstEscaped element quotes source from at
    escaped_character boundary inside [] spelt = absurd (omega (arith, ap length spelt, length-drop at source))
    escaped_character boundary inside (c ∷ characters) spelt =
        let after : List ℕ = encodes characters in
        let rest_text : IsUtf8 (drop at source) = IsUtf8-drop source at text found_boundary in
        let whole : length (drop at source) ≡ length (encode c) + length after = ap length (sym spelt) ∙ length-append (encode c) after in
        let after_it : drop (character_end at c) source ≡ after = sym (drop-drop (length (encode c)) at source) ∙ (ap (drop (length (encode c))) (sym spelt) ∙ drop_at (encode c) after (length (encode c)) refl) in
        let replaced : is_escaped element quotes c ≡ true =
        sym (begins_escaped-character class element quotes is c after) ∙ (ap (λ all. begins_escaped class all) spelt ∙ first.found inside) in
        let same_end : at + len_utf8 c ≡ character_end at c = omega (arith, length-encode c) in
        let spelt_from : chars (drop at source) ≡ c ∷ chars (drop (character_end at c) source) =
        chars_past_char (drop at source) after c rest_text (sym spelt) ∙ ap (λ rest. c ∷ chars rest) (sym after_it) in
        record {
          character = c;
          after = after;
          bytes = sym spelt;
          replaced = replaced;
          within = omega (arith, whole, length-drop at source);
          start_boundary = found_boundary;
          end_boundary = subst (IsCharBoundary source) same_end (IsCharBoundary-past_char source after at c first.in_range rest_text (sym spelt));
          changes = reached-changes boundary ∙ rw (spelt_from, replaced) refl;
        }

    -- the first is that of the first replaced character
    pub next-string_encoding_changes : IsCharBoundary source from → at < length source → FirstEscaped element quotes source from at
    next-string_encoding_changes boundary inside =
        escaped_character boundary inside (chars (drop at source)) (encodes-chars (drop at source) (IsUtf8-drop source at text found_boundary))

-- the first byte determines the character, and where it is that of the separators, the third
module _ {element : Element} {quotes : Quotes} {source : List ℕ} {from at : ℕ} (first : FirstEscaped element quotes source from at) where
  byte_at : (k b : ℕ) (bytes : List ℕ) → encode first.character ≡ bytes → get_or (bytes ++ first.after) k 0 ≡ b → slice_index source (at + k) ≡ b
  byte_at k b bytes spelt there = grind (arith, nat_tests, get_or-drop)

  first_byte : (b : ℕ) (bytes : List ℕ) → encode first.character ≡ bytes → get_or (bytes ++ first.after) 0 0 ≡ b → slice_index source at ≡ b
  first_byte b bytes spelt there = ap (λ place. slice_index source place) (sym (add-zero at)) ∙ byte_at 0 b bytes spelt there

  abbrev IsAsciiCharacter : Type 0
  IsAsciiCharacter = (first.character ≡ slice_index source at) × (first.character < 128)

  abbrev IsSeparator : Type 0
  IsSeparator = (element ≡ Script) × ((first.character ≡ (if slice_index source (at + 2) == 0xA8 then line_separator else paragraph_separator)) × (character_end at first.character ≡ at + 3))

  of_line : element ≡ Script → first.character ≡ line_separator → (slice_index source at ≡ separator_lead) × IsSeparator
  of_line script is =
      let spelt : encode first.character ≡ separator_lead ∷ 0x80 ∷ 0xA8 ∷ [] = ap encode is ∙ encode-line_separator in (
        first_byte separator_lead (separator_lead ∷ 0x80 ∷ 0xA8 ∷ []) spelt refl,
        (script, (rw (byte_at 2 0xA8 (separator_lead ∷ 0x80 ∷ 0xA8 ∷ []) spelt refl) is, ap (λ bytes. at + length bytes) spelt)),
      )

  of_paragraph : element ≡ Script → first.character ≡ paragraph_separator → (slice_index source at ≡ separator_lead) × IsSeparator
  of_paragraph script is =
      let spelt : encode first.character ≡ separator_lead ∷ 0x80 ∷ 0xA9 ∷ [] = ap encode is ∙ encode-paragraph_separator in (
        first_byte separator_lead (separator_lead ∷ 0x80 ∷ 0xA9 ∷ []) spelt refl,
        (script, (rw (byte_at 2 0xA9 (separator_lead ∷ 0x80 ∷ 0xA9 ∷ []) spelt refl) is, ap (λ bytes. at + length bytes) spelt)),
      )

  of_ascii : first.character < 128 → slice_index source at ≡ first.character
  of_ascii small = first_byte first.character (first.character ∷ []) (encode_ascii first.character small) refl

  pub ascii_character : (slice_index source at ≡ separator_lead → ⊥) → IsAsciiCharacter
  ascii_character other = grind (arith, nat_tests, is_escaped-cases, of_ascii, of_line, of_paragraph)

  pub separator_character : slice_index source at ≡ separator_lead → IsSeparator
  separator_character lead = grind (arith, nat_tests, is_escaped-cases, of_ascii, of_line, of_paragraph)
