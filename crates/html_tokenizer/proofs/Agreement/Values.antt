-- Where a reading ends: at the mark, or after a piece where it ends after the bytes behind the piece. And values with references: where a
-- place has a reading, the tokenizer stays in the value up to its end, and its actions are at the same value, unless a byte stands there
-- that the two read in different ways.
use Rattle.std.proofs.Common.{ℕ, ◌≡◌, ◌+◌, List, [], ◌∷◌, ◌++◌, Option, Some, None, length, refl, sym, ap, ◌∙◌, append_assoc, length-append, subst, zero, suc, ◌≤◌, Bool, true, false, ◌==◌, ◌⊎◌, inl, inr, encode_utf8, ⊎_elim, arith}
use Rattle.hesc_grammars.specs.Reading.{after, reading_after}
use Rattle.html_tokenizer.specs.Agreement.{Ends}
use Rattle.std.specs.List.{position_from}
use Rattle.std.proofs.lemmas.Bool.{cases_Bool, eqb-true}
use Rattle.hesc_specs.specs.Text.Ascii.{ampersand, semicolon}
use Rattle.hesc_grammars.specs.declared.step.Mode.{Mode}
use Rattle.hesc_grammars.specs.declared.step.Mode.TheVariants.{Plain}
use Rattle.hesc_grammars.specs.declared.step.Step.{Step}
use Rattle.hesc_grammars.specs.declared.step.Step.TheVariants.{Close, Byte, Nothing}
use Rattle.hesc_grammars.specs.References.{body_character, reference}
use Rattle.hesc_grammars.proofs.HtmlPieces.{takes_reference}
use Rattle.hesc_grammars.proofs.ReferenceBodies.{HasNoSemicolon, reference-body}
use Rattle.html_tokenizer.specs.declared.elements.Content.{Content}
use Rattle.html_tokenizer.specs.declared.slot_place.SlotPlace.{SlotPlace}
use Rattle.html_tokenizer.specs.Tokenizer.Actions.{read_byte}
use Rattle.html_tokenizer.specs.Tokenizer.States.{State, In, Ordinary, at}
use Rattle.html_tokenizer.specs.Tokenizer.Tokenization.{consume}
use Rattle.html_tokenizer.specs.Tokenizer.Transitions.{keeps}
use Rattle.html_tokenizer.proofs.Passing.{passes_none, passes_one, passes_texts}
use Rattle.html_tokenizer.proofs.Slots.Html.{ReadsReferences, Stays, reference_stays}

pub ends_here : {Read : List ℕ → List ℕ → Type 0} {mark : ℕ} (bytes : List ℕ) (found : List ℕ × ℕ) →
    Some ([], 0) ≡ Some found → Read [] [] → Ends Read mark (mark ∷ bytes) found
ends_here {Read} {mark} bytes found closed read =
    let same : ([], 0) ≡ found = cc in
    subst (Ends Read mark (mark ∷ bytes)) same (record { front = []; rest = bytes; parts = refl; end = refl; read = read })

pub ends_after : {Old New : List ℕ → List ℕ → Type 0} {mark : ℕ} (piece value bytes : List ℕ) (found : List ℕ × ℕ) (reading : Option (List ℕ × ℕ)) →
    after value (length piece) reading ≡ Some found → ((f : List ℕ × ℕ) → reading ≡ Some f → Ends Old mark bytes f) →
    ((front more rest : List ℕ) → bytes ≡ front ++ mark ∷ rest → Old front more → New (piece ++ front) (value ++ more)) →
    Ends New mark (piece ++ bytes) found
ends_after piece value bytes found None is ends read = cc
ends_after {New = New} {mark = mark} piece value bytes found (Some f) is ends read =
    let same : (value ++ f.0, length piece + f.1) ≡ found = cc in
    let behind = ends f refl in
    subst (Ends New mark (piece ++ bytes)) same (record {
      front = piece ++ behind.front;
      rest = behind.rest;
      parts = ap (λ x. piece ++ x) behind.parts ∙ sym (append_assoc piece behind.front (mark ∷ behind.rest));
      end = length-append piece behind.front ∙ ap (λ n. length piece + n) behind.end;
      read = read behind.front f.0 behind.rest behind.parts behind.read;
    })

-- ---- values with references

-- bytes up to the first `;`
record Split (bytes : List ℕ) : Type 0 where
  body : List ℕ
  rest : List ℕ
  parts : bytes ≡ body ++ semicolon ∷ rest
  none : HasNoSemicolon body

split : (bytes : List ℕ) (start k : ℕ) → position_from (λ b. b == semicolon) start bytes ≡ Some k → Split bytes
split [] start k found = cc
split (b ∷ bytes) start k found =
    ⊎_elim
    (λ (is : (b == semicolon) ≡ true). record {
      body = [];
      rest = bytes;
      parts = ap (λ x. x ∷ bytes) (eqb-true b semicolon is);
      none = refl;
    })
    (λ (other : (b == semicolon) ≡ false).
    let more : Split bytes = split bytes (start + 1) k (rw other at found) in
    record { body = b ∷ more.body; rest = more.rest; parts = ap (λ x. b ∷ x) more.parts; none = rw other more.none })
    (cases_Bool (b == semicolon))

-- a byte that passes the test stands in the bytes
pub record Has (odd : ℕ → Bool) (bytes : List ℕ) : Type 0 where
  pub before : List ℕ
  pub byte : ℕ
  pub following : List ℕ
  pub parts : bytes ≡ before ++ byte ∷ following
  pub is : odd byte ≡ true

has_following : {odd : ℕ → Bool} (piece bytes : List ℕ) → Has odd bytes → Has odd (piece ++ bytes)
has_following piece bytes has = record {
  before = piece ++ has.before;
  byte = has.byte;
  following = has.following;
  parts = ap (λ x. piece ++ x) has.parts ∙ sym (append_assoc piece has.before (has.byte ∷ has.following));
  is = has.is;
}

-- a byte that begins no reference: the value ends, has no reading, goes on with the byte, or the two differ
pub data AtByte (start : State) (p : SlotPlace) (content : Content) (mark : ℕ) (odd : ℕ → Bool) (step : List ℕ → Step) (b : ℕ) : Type 0 where
  closes : b ≡ mark → start ≡ In p → ((bytes : List ℕ) → step (b ∷ bytes) ≡ Close) → AtByte start p content mark odd step b
  nothing : ((bytes : List ℕ) → step (b ∷ bytes) ≡ Nothing) → AtByte start p content mark odd step b
  kept : ((bytes : List ℕ) → step (b ∷ bytes) ≡ Byte 0 b Plain) → consume (at start content) b ≡ keeps p content Ordinary b →
      AtByte start p content mark odd step b
  differs : ((bytes : List ℕ) → step (b ∷ bytes) ≡ Byte 0 b Plain) → odd b ≡ true → AtByte start p content mark odd step b

-- the state and the mode in which a value begins or goes on
pub record ReadsValue (start : State) (mode : Mode) (p : SlotPlace) (content : Content) (mark : ℕ) (odd : ℕ → Bool)
    (step : Mode → List ℕ → Step) : Type 0 where
  pub tokenizer : ReadsReferences Ordinary start p content
  pub grammar : (bytes : List ℕ) → step mode (ampersand ∷ bytes) ≡ reference bytes
  pub others : (b : ℕ) → (b == ampersand) ≡ false → AtByte start p content mark odd (step mode) b

-- the tokenizer is in the value after the bytes, or one stands there at which the two differ
abbrev pub Reads : State → SlotPlace → Content → (ℕ → Bool) → List ℕ → List ℕ → Type 0
Reads start p content odd front value = Stays Ordinary p start content front value ⊎ Has odd front

module _ {start : State} {mode : Mode} {p : SlotPlace} {content : Content} {mark : ℕ} {odd : ℕ → Bool} {step : Mode → List ℕ → Step}
    (reads : ReadsValue start mode p content mark odd step) where
  -- what both read of the bytes after an item, they read of all
  abbrev GoesOn : ℕ → Type 0
  GoesOn n = (rest : List ℕ) (f : List ℕ × ℕ) → length rest ≤ n → reading_after step 0 Plain rest ≡ Some f → Ends (Reads (In p) p content odd) mark rest f

  -- a piece that both take
  goes_on : (n : ℕ) → GoesOn n → (piece value bytes : List ℕ) (found : List ℕ × ℕ) → length bytes ≤ n → Reads start p content odd piece value →
      after value (length piece) (reading_after step 0 Plain bytes) ≡ Some found → Ends (Reads start p content odd) mark (piece ++ bytes) found
  goes_on n go piece value bytes found enough (inl stays) is =
      ends_after piece value bytes found (reading_after step 0 Plain bytes) is (λ f rest_is. go bytes f enough rest_is)
      (λ front more rest parts read.
      ⊎_elim
      (λ (stays_more : Stays Ordinary p (In p) content front more). inl (passes_texts (read_byte p) value more stays stays_more))
      (λ (has : Has odd front). inr (has_following piece front has))
      read)
  goes_on n go piece value bytes found enough (inr has) is =
      ends_after piece value bytes found (reading_after step 0 Plain bytes) is (λ f rest_is. go bytes f enough rest_is)
      (λ front more rest parts read. inr (record {
        before = has.before;
        byte = has.byte;
        following = has.following ++ front;
        parts = ap (λ x. x ++ front) has.parts ∙ append_assoc has.before (has.byte ∷ has.following) front;
        is = has.is;
      }))

  by_character : (n : ℕ) → GoesOn n → (body rest : List ℕ) (found : List ℕ × ℕ) → length rest ≤ n → HasNoSemicolon body →
      reading_after step 0 mode (ampersand ∷ (body ++ semicolon ∷ rest)) ≡ Some found → (character : Option ℕ) → body_character body ≡ character →
      Ends (Reads start p content odd) mark (ampersand ∷ (body ++ semicolon ∷ rest)) found
  by_character n go body rest found enough none is None read =
      let never : None ≡ Some found = rw (reads.grammar (body ++ semicolon ∷ rest), reference-body body rest none, read) at is in cc
  by_character n go body rest found enough none is (Some c) read =
      let piece : List ℕ = ampersand ∷ (body ++ semicolon ∷ []) in
      let whole : piece ++ rest ≡ ampersand ∷ (body ++ semicolon ∷ rest) = ap (λ x. ampersand ∷ x) (append_assoc body (semicolon ∷ []) rest) in
      subst (λ x. Ends (Reads start p content odd) mark x found) whole
      (goes_on n go piece (encode_utf8 c) rest found enough (inl (reference_stays reads.tokenizer (λ word. refl) body c read))
      (sym ((takes_reference {step = step} {mode = mode} reads.grammar body c none read).goes_on rest) ∙ ap (reading_after step 0 mode) whole ∙ is))

  by_semicolon : (n : ℕ) → GoesOn n → (bytes : List ℕ) (found : List ℕ × ℕ) → length bytes ≤ n →
      reading_after step 0 mode (ampersand ∷ bytes) ≡ Some found → (place : Option ℕ) → position_from (λ b. b == semicolon) 0 bytes ≡ place →
      Ends (Reads start p content odd) mark (ampersand ∷ bytes) found
  by_semicolon n go bytes found enough is None none =
      let never : None ≡ Some found = rw (reads.grammar bytes, none) at is in cc
  by_semicolon n go bytes found enough is (Some k) first =
      let s : Split bytes = split bytes 0 k first in
      let long : length bytes ≡ length s.body + length (semicolon ∷ s.rest) = ap length s.parts ∙ length-append s.body (semicolon ∷ s.rest) in
      subst (λ x. Ends (Reads start p content odd) mark (ampersand ∷ x) found) (sym s.parts)
      (by_character n go s.body s.rest found (omega arith) s.none
      (subst (λ x. reading_after step 0 mode (ampersand ∷ x) ≡ Some found) s.parts is) (body_character s.body) refl)

  -- at a byte that begins no reference
  at_byte : (n : ℕ) → GoesOn n → (b : ℕ) (bytes : List ℕ) (found : List ℕ × ℕ) → length bytes ≤ n →
      reading_after step 0 mode (b ∷ bytes) ≡ Some found → AtByte start p content mark odd (step mode) b →
      Ends (Reads start p content odd) mark (b ∷ bytes) found
  at_byte n go b bytes found enough is (closes at_mark within close) =
      let closed : Some ([], 0) ≡ Some found = rw (close bytes) at is in
      rw (at_mark, within) (ends_here bytes found closed (inl passes_none))
  at_byte n go b bytes found enough is (nothing none) = let never : None ≡ Some found = rw (none bytes) at is in cc
  at_byte n go b bytes found enough is (kept takes keeps_it) =
      goes_on n go (b ∷ []) (b ∷ []) bytes found enough (inl (passes_one (read_byte p b ∷ []) keeps_it)) (rw (takes bytes) at is)
  at_byte n go b bytes found enough is (differs takes odd_is) =
      goes_on n go (b ∷ []) (b ∷ []) bytes found enough
      (inr (record { before = []; byte = b; following = []; parts = refl; is = odd_is })) (rw (takes bytes) at is)

  -- where what follows one item is read by both, so are all the bytes
  pub from_first : (n : ℕ) → GoesOn n → (bytes : List ℕ) (found : List ℕ × ℕ) → length bytes ≤ suc n →
      reading_after step 0 mode bytes ≡ Some found → Ends (Reads start p content odd) mark bytes found
  from_first n go [] found enough is = cc
  from_first n go (b ∷ bytes) found enough is =
      ⊎_elim
      (λ (begins : (b == ampersand) ≡ true).
      let first : b ≡ ampersand = eqb-true b ampersand begins in
      subst (λ x. Ends (Reads start p content odd) mark (x ∷ bytes) found) (sym first)
      (by_semicolon n go bytes found (omega arith) (rw first at is) (position_from (λ b. b == semicolon) 0 bytes) refl))
      (λ (other : (b == ampersand) ≡ false). at_byte n go b bytes found (omega arith) is (reads.others b other))
      (cases_Bool (b == ampersand))

module _ {p : SlotPlace} {content : Content} {mark : ℕ} {odd : ℕ → Bool} {step : Mode → List ℕ → Step}
    (reads : ReadsValue (In p) Plain p content mark odd step) where
  pub both_read : (n : ℕ) (bytes : List ℕ) (found : List ℕ × ℕ) → length bytes ≤ n →
      reading_after step 0 Plain bytes ≡ Some found → Ends (Reads (In p) p content odd) mark bytes found
  both_read n [] found enough is = cc
  both_read zero (b ∷ bytes) found enough is = absurd (omega arith)
  both_read (suc n) (b ∷ bytes) found enough is = from_first reads n (both_read n) (b ∷ bytes) found enough is
