-- What stands around the line of a tag.
use Rattle.std.proofs.Common.{ℕ, ◌≡◌, ◌≢◌, ◌+◌, ◌-◌, Bool, true, false, ◌&&◌, ◌||◌, ◌==◌, if◌then◌else◌, Bor, List, [], ◌∷◌, ◌++◌, length, take, drop, Option, Some, None, inl, inr, refl, sym, ap, ◌∙◌, append-nil, append_assoc, length-append, length-drop, arith, suc}
use Rattle.std.specs.Char.{IsScalar, char_set_contains, encode_utf8}
use Rattle.std.specs.List.{list_all}
use Rattle.std.specs.Option.{MatchOption, option_map}
use Rattle.std.specs.Str.Pattern.{CutsPrefixes, CutsSuffixes, FindsPrefixBy, FindsSuffixBy, HasPassingCharAt, IsFullyTrimmed, IsTrimEndMatches, IsTrimStartMatches}
use Rattle.std.proofs.lemmas.Bool.{and_from, and_parts, cases_Bool, eqb-true, ne_eqb, or_cases}
use Rattle.std.proofs.lemmas.List.{length-take, take-append-drop}
use Rattle.std.proofs.lemmas.List.Folds.{list_all-append}
use Rattle.hesc_specs.specs.Text.Ascii.{carriage_return, line_feed}
use Rattle.html_view.specs.Lines.{begins_behind, behind_end, is_blank, trim_end, trim_start}

-- ---- blanks

blank_scalar : (b : ℕ) → is_blank b ≡ true → IsScalar b
blank_scalar b is = elim (or_cases (32 == b) (9 == b) is) [
  | inl one ↦ rw (sym (eqb-true 32 b one)) refl
  | inr one ↦ rw (sym (eqb-true 9 b one)) refl
]

blank_encoded : (b : ℕ) → is_blank b ≡ true → encode_utf8 b ≡ b ∷ []
unfolding encode_utf8
blank_encoded b is = elim (or_cases (32 == b) (9 == b) is) [
  | inl one ↦ rw (sym (eqb-true 32 b one)) refl
  | inr one ↦ rw (sym (eqb-true 9 b one)) refl
]

drop-all : (bytes : List ℕ) → drop (length bytes) bytes ≡ []
drop-all [] = refl
drop-all (b ∷ bytes) = drop-all bytes

-- ---- at the end

-- the bytes end in no blank
abbrev EndsPlain : List ℕ → Type 0
EndsPlain bytes = (front : List ℕ) (b : ℕ) → bytes ≡ front ++ b ∷ [] → is_blank b ≡ false

blank_last : (b : ℕ) (bytes : List ℕ) → list_all is_blank (b ∷ bytes) ≡ true
    → (front : List ℕ) × (c : ℕ) × (b ∷ bytes ≡ front ++ c ∷ []) × (is_blank c ≡ true)
blank_last b [] all = ([], b, refl, (and_parts (is_blank b) true all).0)
blank_last b (c ∷ bytes) all =
    let more = blank_last c bytes (and_parts (is_blank b) (list_all is_blank (c ∷ bytes)) all).1 in
    (b ∷ more.0, more.1, ap (λ x. b ∷ x) more.2, more.3)

more_blank : (b : ℕ) (bytes blanks : List ℕ) → EndsPlain (b ∷ bytes) → list_all is_blank (b ∷ (bytes ++ blanks)) ≡ false
more_blank b bytes blanks plain = elim (cases_Bool (list_all is_blank (b ∷ (bytes ++ blanks)))) [
  | inr none ↦ none
  | inl all ↦
      let both : (list_all is_blank (b ∷ bytes) ≡ true) × (list_all is_blank blanks ≡ true) =
      and_parts (list_all is_blank (b ∷ bytes)) (list_all is_blank blanks) (sym (list_all-append is_blank (b ∷ bytes) blanks) ∙ all) in
      let last = blank_last b bytes both.0 in
      let clash : false ≡ true = sym (plain last.0 last.1 last.2) ∙ last.3 in
      cc
]

trim_end-blanks : (bytes blanks : List ℕ) → EndsPlain bytes → list_all is_blank blanks ≡ true → trim_end (bytes ++ blanks) ≡ bytes
trim_end-blanks [] [] plain all = refl
trim_end-blanks [] (b ∷ blanks) plain all = rw all refl
trim_end-blanks (b ∷ bytes) blanks plain all =
    rw (more_blank b bytes blanks plain)
    (ap (λ x. b ∷ x) (trim_end-blanks bytes blanks (λ front c is. plain (b ∷ front) c (ap (λ x. b ∷ x) is)) all))

-- ---- what a pattern of blanks finds

abbrev AreBlanks : (ℕ → Bool) → Type 0
AreBlanks test = (c : ℕ) → char_set_contains (32 ∷ 9 ∷ []) c ≡ test c

abbrev FindsLast : List ℕ → Option ℕ → Type 0
FindsLast bytes n = (test : ℕ → Bool) → AreBlanks test → FindsSuffixBy test bytes n

abbrev FindsFirst : List ℕ → Option ℕ → Type 0
FindsFirst bytes n = (test : ℕ → Bool) → AreBlanks test → FindsPrefixBy test bytes n

blanks : AreBlanks is_blank
blanks c = or_false (32 == c) (9 == c)
  where
    or_false : (x y : Bool) → (x || (y || false)) ≡ (x || y)
    or_false true y = refl
    or_false false true = refl
    or_false false false = refl

-- the last character was a blank
cut_last : (bytes : List ℕ) (n : ℕ) → HasPassingCharAt is_blank bytes (length bytes - n) (length bytes)
    → (c : ℕ) × (bytes ≡ take (length bytes - n) bytes ++ c ∷ []) × (is_blank c ≡ true)
cut_last bytes n has =
    let c : ℕ = has.0 in
    let split : drop (length bytes - n) bytes ≡ c ∷ [] =
    has.2.split ∙ ap (λ x. x ++ drop (length bytes) bytes) (blank_encoded c has.1) ∙ ap (λ x. c ∷ x) (drop-all bytes) in
    (c, sym (take-append-drop (length bytes - n) bytes) ∙ ap (λ x. take (length bytes - n) bytes ++ x) split, has.1)

cut_blanks : (ns bytes rest : List ℕ) → CutsSuffixes FindsLast bytes ns rest
    → (cut : List ℕ) × (bytes ≡ rest ++ cut) × (list_all is_blank cut ≡ true)
cut_blanks [] bytes rest cuts = ([], sym (append-nil bytes) ∙ ap (λ x. x ++ []) (sym cuts), refl)
cut_blanks (n ∷ ns) bytes rest cuts =
    let before = cut_blanks ns bytes cuts.0 cuts.1 in
    let last = cut_last cuts.0 n (cuts.2 is_blank blanks) in (
      last.0 ∷ before.0,
      before.1 ∙ ap (λ x. x ++ before.0) (last.1 ∙ ap (λ x. x ++ last.0 ∷ []) (sym cuts.3)) ∙ append_assoc rest (last.0 ∷ []) before.0,
      and_from (is_blank last.0) (list_all is_blank before.0) last.2 before.2,
    )

ends_plain : (bytes : List ℕ) → IsFullyTrimmed FindsLast bytes → EndsPlain bytes
ends_plain bytes (None, none, zero_width) front b is = elim (cases_Bool (is_blank b)) [
  | inr other ↦ other
  | inl same ↦ none is_blank blanks b front (blank_scalar b same) (is ∙ ap (λ x. front ++ x) (sym (blank_encoded b same)))
]
ends_plain bytes (Some n, some, zero_width) front b is =
    let last = cut_last bytes n (some is_blank blanks) in
    let long : length bytes ≡ length (take (length bytes - n) bytes) + 1 =
    ap length last.1 ∙ length-append (take (length bytes - n) bytes) (last.0 ∷ []) in
    absurd (omega (arith, length-take (length bytes - n) bytes))

pub trimmed_end : (bytes rest : List ℕ) → IsTrimEndMatches FindsLast bytes rest → rest ≡ trim_end bytes
trimmed_end bytes rest trimmed =
    let cut = cut_blanks trimmed.0.0 bytes rest trimmed.0.1 in
    sym (trim_end-blanks rest cut.0 (ends_plain rest trimmed.1) cut.2) ∙ ap trim_end (sym cut.1)

-- the first character was a blank
cut_first : (bytes rest : List ℕ) (n : ℕ) → HasPassingCharAt is_blank bytes 0 n → rest ≡ drop n bytes
    → (c : ℕ) × (bytes ≡ c ∷ rest) × (is_blank c ≡ true)
cut_first bytes rest n has is =
    let c : ℕ = has.0 in
    (c, has.2.split ∙ ap (λ x. x ++ drop n bytes) (blank_encoded c has.1) ∙ ap (λ x. c ∷ x) (sym is), has.1)

trim_start-blank : (bytes rest : List ℕ) (c : ℕ) → bytes ≡ c ∷ rest → is_blank c ≡ true → trim_start bytes ≡ trim_start rest
trim_start-blank bytes rest c is blank = ap trim_start is ∙ rw blank refl

first_blanks : (ns bytes rest : List ℕ) → CutsPrefixes FindsFirst bytes ns rest → trim_start bytes ≡ trim_start rest
first_blanks [] bytes rest cuts = ap trim_start (sym cuts)
first_blanks (n ∷ ns) bytes rest cuts =
    let first = cut_first cuts.0 rest n (cuts.2 is_blank blanks) cuts.3 in
    first_blanks ns bytes cuts.0 cuts.1 ∙ trim_start-blank cuts.0 rest first.0 first.1 first.2

begins_plain : (bytes : List ℕ) → IsFullyTrimmed FindsFirst bytes → trim_start bytes ≡ bytes
begins_plain [] trimmed = refl
begins_plain (b ∷ bytes) (None, none, zero_width) =
    rw (plain (is_blank b) (λ same. none is_blank blanks b bytes (blank_scalar b same) (ap (λ x. x ++ bytes) (sym (blank_encoded b same))))) refl
  where
    plain : (x : Bool) → (x ≡ true → x ≡ false) → x ≡ false
    plain true other = other refl
    plain false other = refl
begins_plain (b ∷ bytes) (Some n, some, zero_width) =
    let first = cut_first (b ∷ bytes) (drop n (b ∷ bytes)) n (some is_blank blanks) refl in
    let long : length (b ∷ bytes) ≡ suc (length (drop n (b ∷ bytes))) = ap length first.1 in
    absurd (omega (arith, length-drop n (b ∷ bytes)))

pub trimmed_start : (bytes rest : List ℕ) → IsTrimStartMatches FindsFirst bytes rest → rest ≡ trim_start bytes
trimmed_start bytes rest trimmed =
    sym (first_blanks trimmed.0.0 bytes rest trimmed.0.1 ∙ begins_plain rest trimmed.1)

-- ---- the end of a line

pub begins_line_feed : (begins : Bool) (front : List ℕ) → begins_behind begins (front ++ line_feed ∷ []) ≡ true
begins_line_feed begins [] = refl
begins_line_feed begins (b ∷ front) = begins_line_feed (b == line_feed) front

pub line_feed_last : (b : ℕ) (bytes : List ℕ) (begins : Bool) → begins_behind begins (b ∷ bytes) ≡ true → (front : List ℕ) × (b ∷ bytes ≡ front ++ line_feed ∷ [])
line_feed_last b [] begins is = ([], ap (λ x. x ∷ []) (eqb-true b line_feed is))
line_feed_last b (c ∷ bytes) begins is =
    let more = line_feed_last c bytes (b == line_feed) is in
    (b ∷ more.0, ap (λ x. b ∷ x) more.1)

-- a line begins behind bytes just where they end in a line feed
pub begins_ends : (begins ends : Bool) (bytes : List ℕ) → (length bytes == 0) ≡ false
    → (ends ≡ true → bytes ≡ take (length bytes - 1) bytes ++ line_feed ∷ [])
    × ((front : List ℕ) → bytes ≡ front ++ line_feed ∷ [] → ends ≡ true) → ends ≡ begins_behind begins bytes
begins_ends begins ends [] some told = cc
begins_ends begins true (b ∷ bytes) some told =
    sym (ap (begins_behind begins) (told.0 refl) ∙ begins_line_feed begins (take (length (b ∷ bytes) - 1) (b ∷ bytes)))
begins_ends begins false (b ∷ bytes) some told = elim (cases_Bool (begins_behind begins (b ∷ bytes))) [
  | inr none ↦ sym none
  | inl is ↦ let last = line_feed_last b bytes begins is in told.1 last.0 last.1 ∙ sym is
]

-- what is behind the end of a line, where the line ends in no carriage return
pub behind_line_feed : (bytes : List ℕ) (found : Option (Bor (List ℕ))) → (length bytes == 0) ≡ false
    → ((rest : List ℕ) → bytes ≢ carriage_return ∷ line_feed ∷ rest)
    → MatchOption found ((rest : List ℕ) → bytes ≢ line_feed ∷ rest) (λ x. bytes ≡ line_feed ∷ x.now)
    → option_map (λ behind. behind.now) found ≡ behind_end bytes
behind_line_feed [] found some two one = cc
behind_line_feed (b ∷ []) None some two one = rw (ne_eqb b line_feed (λ is. one [] (ap (λ x. x ∷ []) is))) refl
behind_line_feed (b ∷ []) (Some x) some two one =
    let is : b ≡ line_feed = cc in
    let none : [] ≡ x.now = cc in rw (is, ← none) refl
behind_line_feed (b ∷ c ∷ bytes) None some two one =
    rw (ne_eqb b line_feed (λ is. one (c ∷ bytes) (ap (λ x. x ∷ c ∷ bytes) is)))
    (sym (ap (λ x. if x then Some bytes else None) (not_two (b == carriage_return) (c == line_feed) (λ is also. two bytes (let first = eqb-true b carriage_return is in let second = eqb-true c line_feed also in cc)))))
  where
    not_two : (x y : Bool) → (x ≡ true → y ≡ true → ⊥) → (x && y) ≡ false
    not_two false y other = refl
    not_two true false other = refl
    not_two true true other = absurd (other refl refl)
behind_line_feed (b ∷ c ∷ bytes) (Some x) some two one =
    let is : b ≡ line_feed = cc in
    let rest : c ∷ bytes ≡ x.now = cc in rw is (ap (λ r. Some r) (sym rest))
