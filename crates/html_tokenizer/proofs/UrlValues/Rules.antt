-- What a byte does in the value of a URL, and where letters and digits after a `&` end.
use Rattle.std.proofs.Common.{ℕ, ◌≡◌, Bool, true, false, List, [], ◌∷◌, ◌++◌, ◌==◌, Some, if◌then◌else◌, codes, not, ◌&&◌, refl, ◌∙◌, subst, ⊎_elim, arith}
use Rattle.std.specs.Char.{is_ascii_alphanumeric}
use Rattle.std.specs.List.{list_all}
use Rattle.std.proofs.lemmas.Bool.{and_parts, cases_Bool, false≢true, or_parts, true≢false}
use Rattle.std.proofs.lemmas.Bool.Decides.{nat_tests}
use Rattle.std.proofs.lemmas.List.Folds.{list_all-append}
use Rattle.hesc_specs.specs.Text.Ascii.{ampersand, double_quote, equals_sign, greater_than, number_sign, semicolon, single_quote}
use Rattle.hesc_grammars.specs.Html.{is_unquoted_error}
use Rattle.html_entities.proofs.References.{same_value}
use Rattle.html_tokenizer.specs.declared.elements.Content.{Content}
use Rattle.html_tokenizer.specs.declared.slot_place.SlotPlace.{SlotPlace}
use Rattle.html_tokenizer.specs.declared.slot_place.SlotPlace.TheVariants.{DoubleQuoted, SingleQuoted, Unquoted}
use Rattle.html_tokenizer.specs.Standing.{is_refused}
use Rattle.html_tokenizer.specs.Tokenizer.Actions.{ValueByte, read_byte}
use Rattle.html_tokenizer.specs.Tokenizer.Attributes.{may_end_raw, reference_read, value_byte_read}
use Rattle.html_tokenizer.specs.Tokenizer.Attributes.ListParts.{is_list_mark}
use Rattle.html_tokenizer.specs.Tokenizer.States.{Attribute, In, at_value}
use Rattle.html_tokenizer.specs.Tokenizer.Tags.{is_space}
use Rattle.html_tokenizer.specs.Tokenizer.Tokenization.{value_byte}
use Rattle.html_tokenizer.specs.Tokenizer.Transitions.{Transition, moves, refuses}
use Rattle.html_tokenizer.specs.Tokenizer.Values.{quoted_byte}
use Rattle.html_tokenizer.specs.Tokenizer.Values.References.{begins_with_legacy, flushes, goes_on, is_legacy, legacy_end, named_characters, reference_byte, unnamed_end}
use Rattle.html_tokenizer.specs.UrlValues.{closes_url, ends_value}
use Rattle.html_tokenizer.proofs.Slots.Html.{ReadsReferences, double_references, single_references, unquoted_references}
use Rattle.html_tokenizer.proofs.UrlValues.Attributes.{byte_settled, is_open, reference_settled}
use Rattle.html_tokenizer.proofs.UrlValues.Places.{is_value_place}

abbrev pub are_letters : List ℕ → Bool
are_letters word = list_all is_ascii_alphanumeric word

pub letters_more : (word : List ℕ) (b : ℕ) → are_letters word ≡ true → is_ascii_alphanumeric b ≡ true → are_letters (word ++ b ∷ []) ≡ true
letters_more word b letters letter = rw (list_all-append is_ascii_alphanumeric word (b ∷ []), letters, letter) refl

no_number_sign : (b : ℕ) → is_ascii_alphanumeric b ≡ true → (b == number_sign) ≡ false
no_number_sign b letter = grind (arith, nat_tests)

pub amp_named : named_characters (codes "amp") ≡ Some (ampersand ∷ [])
unfolding named_characters lib.Utf8.encode
amp_named = same_value (codes "amp") (codes "&") refl

-- a byte that neither ends the value nor cuts a list
pub inner_parts : (listed : Bool) (p : SlotPlace) (b : ℕ) → closes_url listed p b ≡ false → (ends_value p b ≡ false) × ((listed && is_list_mark b) ≡ false)
inner_parts false p b inner = (inner, refl)
inner_parts true p b inner = or_parts (ends_value p b) (is_list_mark b) inner

quoted_kept : (mark : ℕ) (p : SlotPlace) (content : Content) (attribute : Attribute) (b : ℕ) → value_byte_read attribute b ≡ attribute →
    (b == mark) ≡ false → (b == ampersand) ≡ false → is_refused (quoted_byte mark p content attribute b).next.state ≡ false →
    quoted_byte mark p content attribute b ≡ moves (at_value (In p) content attribute) (read_byte p b ∷ [])
quoted_kept mark p content attribute b settled inner no_reference unrefused =
    ⊎_elim
    (λ (ends : may_end_raw attribute b ≡ true). absurd (true≢false (rw (inner, no_reference, ends) at unrefused)))
    (λ (none : may_end_raw attribute b ≡ false). rw (inner, no_reference, none, settled) refl)
    (cases_Bool (may_end_raw attribute b))

unquoted_kept : (content : Content) (attribute : Attribute) (b : ℕ) → value_byte_read attribute b ≡ attribute →
    ends_value Unquoted b ≡ false → (b == ampersand) ≡ false → is_refused (value_byte Unquoted content attribute b).next.state ≡ false →
    value_byte Unquoted content attribute b ≡ moves (at_value (In Unquoted) content attribute) (ValueByte b ∷ [])
unquoted_kept content attribute b settled inner no_reference unrefused =
    let parts = or_parts (is_space b) (b == greater_than) inner in
    ⊎_elim
    (λ (error : is_unquoted_error b ≡ true). absurd (true≢false (rw (parts.0, parts.1, no_reference, error) at unrefused)))
    (λ (none : is_unquoted_error b ≡ false). rw (parts.0, parts.1, no_reference, none, settled) refl)
    (cases_Bool (is_unquoted_error b))

-- what a URL is read by at this place
pub record ReadsUrl (listed : Bool) (p : SlotPlace) (content : Content) (attribute : Attribute) : Type 0 where
  pub references : ReadsReferences attribute (In p) p content
  pub kept : (b : ℕ) → closes_url listed p b ≡ false → (b == ampersand) ≡ false → is_refused (value_byte p content attribute b).next.state ≡ false →
      value_byte p content attribute b ≡ moves (at_value (In p) content attribute) (ValueByte b ∷ [])
  pub legacy : (word : List ℕ) (b : ℕ) (again : Transition) → legacy_end p word b again ≡ (if is_legacy word && not (b == equals_sign) then refuses else flushes p word again)
  pub reads : read_byte p ≡ ValueByte

module _ (listed : Bool) (content : Content) (attribute : Attribute) (is : is_open listed attribute ≡ true) where
  settled : reference_read attribute ≡ attribute
  settled = reference_settled listed attribute is

  kept_in_quotes : (mark : ℕ) (p : SlotPlace) (b : ℕ) → (listed && is_list_mark b) ≡ false → (b == mark) ≡ false → (b == ampersand) ≡ false →
      is_refused (quoted_byte mark p content attribute b).next.state ≡ false →
      quoted_byte mark p content attribute b ≡ moves (at_value (In p) content attribute) (read_byte p b ∷ [])
  kept_in_quotes mark p b uncut = quoted_kept mark p content attribute b (byte_settled listed attribute b is uncut)

  pub reads_url : (p : SlotPlace) → is_value_place p ≡ true → ReadsUrl listed p content attribute
  reads_url DoubleQuoted place = record {
    references = double_references settled content;
    kept = λ b inner. let parts = inner_parts listed DoubleQuoted b inner in kept_in_quotes double_quote DoubleQuoted b parts.1 parts.0;
    legacy = λ word b again. refl;
    reads = refl;
  }
  reads_url SingleQuoted place = record {
    references = single_references settled content;
    kept = λ b inner. let parts = inner_parts listed SingleQuoted b inner in kept_in_quotes single_quote SingleQuoted b parts.1 parts.0;
    legacy = λ word b again. refl;
    reads = refl;
  }
  reads_url Unquoted place = record {
    references = unquoted_references settled content;
    kept = λ b inner. let parts = inner_parts listed Unquoted b inner in unquoted_kept content attribute b (byte_settled listed attribute b is parts.1) parts.0;
    legacy = λ word b again. refl;
    reads = refl;
  }
  reads_url other place = absurd (false≢true place)

-- letters and digits, and a byte that goes on with no reference and ends none, stand for themselves
module _ {listed : Bool} {p : SlotPlace} {content : Content} {attribute : Attribute} (reads : ReadsUrl listed p content attribute) where
  named_flushed : (word : List ℕ) (b : ℕ) (again : Transition) → (b == semicolon) ≡ false → is_refused (unnamed_end p word b again).next.state ≡ false →
      unnamed_end p word b again ≡ flushes p word again
  named_flushed word b again no_end unrefused =
      ⊎_elim
      (λ (begins : begins_with_legacy word ≡ true).
      ⊎_elim
      (λ (error : (is_legacy word && not (b == equals_sign)) ≡ true). absurd (true≢false (rw (begins, reads.legacy word b again, error) at unrefused)))
      (λ (none : (is_legacy word && not (b == equals_sign)) ≡ false). rw (begins, reads.legacy word b again, none) refl)
      (cases_Bool (is_legacy word && not (b == equals_sign))))
      (λ (other : begins_with_legacy word ≡ false). rw (other, no_end) refl)
      (cases_Bool (begins_with_legacy word))

  pub word_flushed : (word : List ℕ) (b : ℕ) (again : Transition) → are_letters word ≡ true → goes_on word b ≡ false → (b == semicolon) ≡ false →
      is_refused (reference_byte p content attribute word b again).next.state ≡ false → reference_byte p content attribute word b again ≡ flushes p word again
  word_flushed [] b again letters ends no_end unrefused = rw ends refl
  word_flushed (first ∷ word) b again letters ends no_end unrefused =
      let parts = and_parts (is_ascii_alphanumeric first) (are_letters word) letters in
      let named : reference_byte p content attribute (first ∷ word) b again ≡ unnamed_end p (first ∷ word) b again =
      rw (ends, no_number_sign first parts.0, no_end) refl in
      named ∙ named_flushed (first ∷ word) b again no_end (subst (λ (x : Transition). is_refused x.next.state ≡ false) named unrefused)
