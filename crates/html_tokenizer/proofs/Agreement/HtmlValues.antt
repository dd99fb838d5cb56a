-- Text and values of attributes: the tokenizer and the places read the same, but at a carriage return of a value without quotes.
use Rattle.std.proofs.Common.{ℕ, ◌≡◌, Bool, true, false, List, ◌==◌, Some, length, refl, ⊎_elim, arith, ◌∷◌, ◌++◌, ◌⊎◌, inl, inr, subst}
use Rattle.std.proofs.lemmas.Bool.{cases_Bool, eqb-true, and_right, or_parts}
use Rattle.hesc_specs.specs.Text.Ascii.{ampersand, carriage_return, greater_than}
use Rattle.hesc_grammars.specs.declared.step.Mode.TheVariants.{Plain, Empty}
use Rattle.hesc_grammars.specs.Html.{marked_step, ends_unquoted, is_unquoted_error, unquoted_step}
use Rattle.hesc_grammars.specs.Reading.{reading_after}
use Rattle.html_tokenizer.specs.declared.slot_place.SlotPlace.{SlotPlace}
use Rattle.html_tokenizer.specs.declared.elements.Content.{Content}
use Rattle.html_tokenizer.specs.Agreement.{Agrees, Ends, AgreesUnquoted, HasReturn, StaysUnquoted}
use Rattle.html_tokenizer.specs.Tokenizer.States.{In, Ordinary, State, BeforeValue}
use Rattle.html_tokenizer.specs.Tokenizer.Stretches.{leaves_value}
use Rattle.hesc_grammars.specs.Words.{is_white_space}
use Rattle.html_tokenizer.proofs.Slots.Html.{ReadsMarked, Stays, ReadsUnquoted, unquoted_reads, first_reads}
use Rattle.html_tokenizer.proofs.Agreement.Values.{AtByte, closes, kept, Has, Reads, ReadsValue, both_read, nothing, differs, from_first}
use Rattle.hesc_grammars.specs.declared.step.Mode.{Mode}
use Rattle.hesc_grammars.specs.declared.place.End.{End}
use Rattle.hesc_grammars.specs.Places.{end_byte}
use Rattle.html_tokenizer.specs.declared.slot_place.SlotPlace.TheVariants.{Unquoted}

-- ---- text and values in quotes

-- the two differ at no byte
abbrev never : ℕ → Bool
never b = false

module _ {p : SlotPlace} {content : Content} {mark : ℕ} (value : ReadsMarked Ordinary p content mark) where
  at_byte : (b : ℕ) → (b == ampersand) ≡ false → AtByte (In p) p content mark never (marked_step mark Plain) b
  unfolding marked_step
  at_byte b no_reference =
      ⊎_elim
      (λ (is : (b == mark) ≡ true). closes (eqb-true b mark is) refl (λ bytes. rw is refl))
      (λ (no_mark : (b == mark) ≡ false). kept (λ bytes. rw (no_mark, no_reference) refl) (value.kept b no_mark no_reference refl))
      (cases_Bool (b == mark))

  marked : ReadsValue (In p) Plain p content mark never (marked_step mark)
  unfolding marked_step
  marked = record { tokenizer = value.references; grammar = λ bytes. rw value.no_reference refl; others = at_byte }

  pub marked_agrees : (bytes : List ℕ) (found : List ℕ × ℕ) → reading_after (marked_step mark) 0 Plain bytes ≡ Some found → Agrees p content mark bytes found
  marked_agrees bytes found is =
      let ends : Ends (Reads (In p) p content never) mark bytes found = both_read marked (length bytes) bytes found (omega arith) is in
      ⊎_elim
      (λ (stays : Stays Ordinary p (In p) content ends.front found.0).
      record { front = ends.front; rest = ends.rest; parts = ends.parts; end = ends.end; after = stays.after; actions = stays.actions })
      (λ (has : Has never ends.front). let no : false ≡ true = has.is in absurd (cc))
      ends.read

-- ---- values without quotes

abbrev is_return : ℕ → Bool
is_return b = b == carriage_return

-- a byte that ends no value, begins no reference, is no error and no carriage return
unquoted_remains : (b : ℕ) → ends_unquoted b ≡ false → (b == ampersand) ≡ false → is_unquoted_error b ≡ false → is_return b ≡ false → leaves_value Unquoted b ≡ false
unquoted_remains b inner no_reference no_error no_return =
    let parts = or_parts (is_white_space b) (b == greater_than) inner in
    rw (parts.0, no_return, parts.1, no_reference, no_error) refl

module _ (content : Content) (end : ℕ) where
  -- a byte that ends no value, after the `=` or after other bytes of the value
  inner_byte : {start : State} → ReadsUnquoted start content → (mode : Mode) (b : ℕ) → (b == ampersand) ≡ false → ends_unquoted b ≡ false →
      AtByte start Unquoted content end is_return (unquoted_step end mode) b
  unfolding unquoted_step
  inner_byte reads mode b no_reference inner =
      ⊎_elim
      (λ (error : is_unquoted_error b ≡ true). nothing (λ bytes. rw (inner, no_reference, error) refl))
      (λ (no_error : is_unquoted_error b ≡ false).
      ⊎_elim
      (λ (is : is_return b ≡ true). differs (λ bytes. rw (inner, no_reference, no_error) refl) is)
      (λ (no_return : is_return b ≡ false).
      kept (λ bytes. rw (inner, no_reference, no_error) refl)
      (reads.kept b (unquoted_remains b inner no_reference no_error no_return)))
      (cases_Bool (is_return b)))
      (cases_Bool (is_unquoted_error b))

  within_byte : (b : ℕ) → (b == ampersand) ≡ false → AtByte (In Unquoted) Unquoted content end is_return (unquoted_step end Plain) b
  unfolding unquoted_step
  within_byte b no_reference =
      ⊎_elim
      (λ (ends : ends_unquoted b ≡ true).
      ⊎_elim
      (λ (is : (b == end) ≡ true). closes (eqb-true b end is) refl (λ bytes. rw (ends, is) refl))
      (λ (other : (b == end) ≡ false). nothing (λ bytes. rw (ends, other) refl))
      (cases_Bool (b == end)))
      (inner_byte (unquoted_reads content) Plain b no_reference)
      (cases_Bool (ends_unquoted b))

  -- no value ends where it has no byte
  first_byte : (b : ℕ) → (b == ampersand) ≡ false → AtByte BeforeValue Unquoted content end is_return (unquoted_step end Empty) b
  unfolding unquoted_step
  first_byte b no_reference =
      ⊎_elim
      (λ (ends : ends_unquoted b ≡ true). nothing (λ bytes. rw (ends, and_right (b == end) false refl) refl))
      (inner_byte (first_reads content) Empty b no_reference)
      (cases_Bool (ends_unquoted b))

  within : ReadsValue (In Unquoted) Plain Unquoted content end is_return (unquoted_step end)
  unfolding unquoted_step
  within = record { tokenizer = (unquoted_reads content).references; grammar = λ bytes. refl; others = within_byte }

  first : ReadsValue BeforeValue Empty Unquoted content end is_return (unquoted_step end)
  unfolding unquoted_step
  first = record { tokenizer = (first_reads content).references; grammar = λ bytes. refl; others = first_byte }

agrees : (content : Content) (front value : List ℕ) → Reads BeforeValue Unquoted content is_return front value → StaysUnquoted content front value ⊎ HasReturn front
agrees content front value (inl stays) = inl (record { after = stays.after; actions = stays.actions })
agrees content front value (inr has) = inr (record {
  before = has.before;
  following = has.following;
  parts = subst (λ x. front ≡ has.before ++ x ∷ has.following) (eqb-true has.byte carriage_return has.is) has.parts;
})

pub unquoted_agrees : (content : Content) (end : End) (bytes : List ℕ) → AgreesUnquoted content end bytes
unquoted_agrees content end bytes found is =
    let ends : Ends (Reads BeforeValue Unquoted content is_return) (end_byte end) bytes found =
    from_first (first content (end_byte end)) (length bytes) (both_read (within content (end_byte end)) (length bytes)) bytes found (omega arith) is in
    record { front = ends.front; rest = ends.rest; parts = ends.parts; end = ends.end; read = agrees content ends.front found.0 ends.read }
