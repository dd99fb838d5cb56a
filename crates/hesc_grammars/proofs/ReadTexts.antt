-- What is read from a text is a text: a reader may stand within a character, and then the rest of it comes next.
use Rattle.std.proofs.Common.{ℕ, ◌≡◌, zero, suc, ◌≢◌, ◌≤◌, ◌<◌, ◌+◌, inl, inr, true, List, [], ◌∷◌, ◌++◌, IsUtf8, length, take, drop, encode_utf8, refl, sym, ap, ◌∙◌, subst, arith, append_assoc, append-nil}
use Rattle.std.proofs.lemmas.Bool.Decides.{nat_tests}
use Rattle.std.proofs.Math.Utf8.{encodes, scalars}
use Rattle.std.proofs.lemmas.Bool.{and_parts, cases_lt}
use Rattle.std.proofs.lemmas.Str.{IsCharBoundary-after_ascii, IsUtf8-append, IsUtf8-drop, IsUtf8-nil, encode_ascii, len_utf8_bounds, length-encode}
use Rattle.std.specs.Prelude.{slice_index}
use Rattle.hesc_specs.proofs.Text.HighBytes.{AreHigh, encode-high}
use Rattle.hesc_grammars.specs.declared.step.Mode.{Mode}
use Rattle.hesc_grammars.specs.declared.step.Mode.TheVariants.{Plain}
use Rattle.hesc_grammars.specs.declared.step.Step.TheVariants.{Close, Byte, Character}
use Rattle.hesc_grammars.proofs.TextItems.{IsTextItem}

-- these bytes are what is left of a character that was begun, and the others are a text
pub record ReadsText (value rest : List ℕ) : Type 0 where
  pub left : List ℕ
  pub following : List ℕ
  pub is : rest ≡ left ++ following
  pub high : AreHigh left
  pub read : IsUtf8 (value ++ left)
  pub text : IsUtf8 following

-- between two characters
between : (value rest : List ℕ) → IsUtf8 value → IsUtf8 rest → ReadsText value rest
between value rest read text = record { left = []; following = rest; is = refl; high = tt; read = subst IsUtf8 (sym (append-nil value)) read; text = text }

pub begun : (rest : List ℕ) → IsUtf8 rest → ReadsText [] rest
begun rest text = between [] rest IsUtf8-nil text

-- where a byte of ASCII comes next, no character is begun
at_ascii_after : (left following value rest : List ℕ) → rest ≡ left ++ following → AreHigh left → IsUtf8 (value ++ left) → IsUtf8 following → slice_index rest 0 < 128 → IsUtf8 value × IsUtf8 rest
at_ascii_after [] following value rest is high read text ascii = (subst IsUtf8 (append-nil value) read, subst IsUtf8 (sym is) text)
at_ascii_after (b ∷ left) following value rest is high read text ascii =
    absurd (let first : slice_index (b ∷ (left ++ following)) 0 < 128 = rw is at ascii in omega (arith, high.0, first))

at_ascii : (value rest : List ℕ) → slice_index rest 0 < 128 → ReadsText value rest → IsUtf8 value × IsUtf8 rest
at_ascii value rest ascii reads = at_ascii_after reads.left reads.following value rest reads.is reads.high reads.read reads.text ascii

pub ended : (value rest : List ℕ) → IsTextItem Close rest → ReadsText value rest → IsUtf8 value
ended value rest item reads = (at_ascii value rest item reads).0

record BeginsText (b : ℕ) (bytes : List ℕ) : Type 0 where
  character : ℕ
  tail : List ℕ
  is : b ∷ bytes ≡ encode_utf8 character ++ tail
  first : IsUtf8 (encode_utf8 character)
  text : IsUtf8 tail

begins_text_of : (b : ℕ) (bytes cs : List ℕ) → scalars cs ≡ true → encodes cs ≡ b ∷ bytes → BeginsText b bytes
begins_text_of b bytes [] scalar is = absurd (cc)
begins_text_of b bytes (c ∷ cs) scalar is =
    let parts = and_parts _ (scalars cs) scalar in
    record {
      character = c;
      tail = encodes cs;
      is = sym is;
      first = (c ∷ [], (rw parts.0 refl, append-nil (encode_utf8 c)));
      text = (cs, (parts.1, refl));
    }

-- the bytes after the first of a character's
rest_of_first : (first tail : List ℕ) (b : ℕ) (bytes : List ℕ) → b ∷ bytes ≡ first ++ tail → length first ≢ 0 → (first ≡ b ∷ drop 1 first) × (bytes ≡ drop 1 first ++ tail)
rest_of_first first tail b bytes is some = grind (arith, nat_tests)

high_after : (c b : ℕ) (bytes : List ℕ) → encode_utf8 c ≡ b ∷ bytes → AreHigh bytes
high_after c b bytes is = grind (arith, nat_tests, cases_lt, encode_ascii, encode-high)

first_byte_of : (value : List ℕ) (b : ℕ) (bytes : List ℕ) → IsUtf8 value → BeginsText b bytes → ReadsText (value ++ b ∷ []) bytes
first_byte_of value b bytes read begins =
    let c = begins.character in
    let following : List ℕ = drop 1 (encode_utf8 c) in
    let some : length (encode_utf8 c) ≢ 0 = λ none. omega (arith, length-encode c, (len_utf8_bounds c).0, none) in
    let parts = rest_of_first (encode_utf8 c) begins.tail b bytes begins.is some in
    let same : value ++ encode_utf8 c ≡ (value ++ b ∷ []) ++ following = ap (λ x. value ++ x) parts.0 ∙ sym (append_assoc value (b ∷ []) following) in
    record {
      left = following;
      following = begins.tail;
      is = parts.1;
      high = high_after c b following parts.0;
      read = subst IsUtf8 same (IsUtf8-append value (encode_utf8 c) read begins.first);
      text = begins.text;
    }

first_byte : (value : List ℕ) (b : ℕ) (bytes : List ℕ) → IsUtf8 value → IsUtf8 (b ∷ bytes) → ReadsText (value ++ b ∷ []) bytes
first_byte value b bytes read (cs, both) = first_byte_of value b bytes read (begins_text_of b bytes cs both.0 both.1)

next_byte : (left following value : List ℕ) → AreHigh left → IsUtf8 (value ++ left) → IsUtf8 following → 0 < length (left ++ following)
    → ReadsText (value ++ slice_index (left ++ following) 0 ∷ []) (drop 1 (left ++ following))
next_byte [] [] value high read text some = absurd (omega arith)
next_byte [] (b ∷ following) value high read text some = first_byte value b following (subst IsUtf8 (append-nil value) read) text
next_byte (b ∷ left) following value high read text some =
    record { left = left; following = following; is = refl; high = high.1; read = subst IsUtf8 (sym (append_assoc value (b ∷ []) left)) read; text = text }

second_byte : (value rest : List ℕ) → 1 < length rest → IsUtf8 value → IsUtf8 (drop 1 rest) → ReadsText (value ++ slice_index rest 1 ∷ []) (drop 2 rest)
second_byte value rest some read text = grind (arith, nat_tests, first_byte)

pub takes_byte : (value rest items following : List ℕ) (more v : ℕ) (next : Mode) → more < length rest → IsTextItem (Byte more v next) rest → ReadsText value rest
    → items ≡ value ++ v ∷ [] → following ≡ drop (more + 1) rest → ReadsText items following
takes_byte value rest items following more v next within (inl item) reads added dropped =
    let some : 0 < length (reads.left ++ reads.following) = rw reads.is at (let l : 0 < length rest = omega (arith, within) in l) in
    rw (added, dropped, item.0, item.1, reads.is) (next_byte reads.left reads.following value reads.high reads.read reads.text some)
takes_byte value rest items following more v next within (inr item) reads added dropped =
    let at = at_ascii value rest item.1 reads in
    let some : 1 < length rest = omega (arith, within, item.0) in
    rw (added, dropped, item.0, item.2) (second_byte value rest some at.0 (IsUtf8-drop rest 1 at.1 (IsCharBoundary-after_ascii rest 0 at.1 (omega (arith, some)) item.1)))

pub takes_character : (value rest items following : List ℕ) (more c : ℕ) (next : Mode) → IsUtf8 (encode_utf8 c) → more < length rest → IsTextItem (Character more c next) rest → ReadsText value rest
    → items ≡ value ++ encode_utf8 c → following ≡ drop (more + 1) rest → ReadsText items following
takes_character value rest items following more c next character within item reads added dropped =
    let at = at_ascii value rest item.0 reads in
    rw (added, dropped)
    (between (value ++ encode_utf8 c) (drop (more + 1) rest) (IsUtf8-append value (encode_utf8 c) at.0 character)
    (IsUtf8-drop rest (more + 1) at.1 (IsCharBoundary-after_ascii rest more at.1 within item.1)))

takes_bytes : (count : ℕ) (value rest : List ℕ) → count ≤ length rest → ReadsText value rest → ReadsText (value ++ take count rest) (drop count rest)
takes_bytes zero value rest within reads = rw (append-nil value) reads
takes_bytes (suc count) value [] within reads = absurd (omega arith)
takes_bytes (suc count) value (b ∷ rest) within reads =
    let one : ReadsText (value ++ b ∷ []) rest = takes_byte value (b ∷ rest) (value ++ b ∷ []) rest 0 b Plain (omega arith) (inl (refl, refl)) reads refl refl in
    rw (← append_assoc value (b ∷ []) (take count rest)) (takes_bytes count (value ++ b ∷ []) rest (omega arith) one)

-- bytes as they stand, however many
pub takes_stretch : {value rest items plain following : List ℕ} {count : ℕ} → count ≤ length rest → ReadsText value rest
    → items ≡ value ++ plain → plain ≡ take count rest → following ≡ drop count rest → ReadsText items following
takes_stretch {value} {rest} {count = count} within reads added taken dropped = rw (added, taken, dropped) (takes_bytes count value rest within reads)
