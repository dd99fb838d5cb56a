-- Markup whose last bytes are no part of an escape with what follows.
use Rattle.std.proofs.Common.{◌≡◌, ℕ, suc, ◌-◌, Bool, true, false, not, ◌&&◌, ◌||◌, ◌==◌, List, [], ◌∷◌, ◌++◌, get_or, length, All, refl, arith}
use Rattle.std.proofs.lemmas.Bool.Decides.{nat_tests}
use Rattle.std.specs.Char.{is_digit}
use Rattle.std.specs.List.{list_all}
use Rattle.std.proofs.lemmas.Bool.{and_parts}
use Rattle.url.proofs.InputLemmas.{All_from_list_all}
use Rattle.html_urls.specs.Slots.{Given, Markup, Slot, ends_in_escape, is_plain, is_plain_byte}

-- the same by the places of the last two bytes
abbrev by_places : List ℕ → Bool
by_places bytes = get_or bytes (length bytes - 1) 0 == 37 || (get_or bytes (length bytes - 2) 0 == 37 && is_digit (get_or bytes (length bytes - 1) 0) 16)

pub ends_by_places : (bytes : List ℕ) → ends_in_escape bytes ≡ by_places bytes
ends_by_places [] = refl
ends_by_places (b ∷ []) = one (b == 37) (is_digit b 16)
  where
    one : (x y : Bool) → x ≡ (x || (x && y))
    one x y = grind (arith, nat_tests)
ends_by_places (b ∷ c ∷ []) = refl
ends_by_places (b ∷ c ∷ d ∷ bytes) =
    let last : length (b ∷ c ∷ d ∷ bytes) - 1 ≡ suc (length (c ∷ d ∷ bytes) - 1) = omega arith in
    let second : length (b ∷ c ∷ d ∷ bytes) - 2 ≡ suc (length (c ∷ d ∷ bytes) - 2) = omega arith in
    rw (last, second) (ends_by_places (c ∷ d ∷ bytes))

-- the bytes of plain markup
pub plain_bytes : (markup : List ℕ) (is_last : Bool) → is_plain markup is_last ≡ true → All (λ b. is_plain_byte b ≡ true) markup
plain_bytes markup is_last plain = All_from_list_all is_plain_byte markup (and_parts (list_all is_plain_byte markup) (is_last || not (ends_in_escape markup)) plain).0

-- the last bytes alone leave no escape open, where all do not
pub later_closed : (b : ℕ) (bytes : List ℕ) → ends_in_escape (b ∷ bytes) ≡ false → ends_in_escape bytes ≡ false
later_closed b bytes closed = grind (arith, nat_tests)

pub end_closed : (front bytes : List ℕ) → ends_in_escape (front ++ bytes) ≡ false → ends_in_escape bytes ≡ false
end_closed [] bytes closed = closed
end_closed (b ∷ front) bytes closed = end_closed front bytes (later_closed b (front ++ bytes) closed)

-- and all do not, where two parts of them do not
pub both_closed : (front bytes : List ℕ) → ends_in_escape front ≡ false → ends_in_escape bytes ≡ false → ends_in_escape (front ++ bytes) ≡ false
both_closed [] bytes first last = last
both_closed (b ∷ []) [] first last = first
both_closed (b ∷ []) (c ∷ []) first last = rw (first, last) refl
both_closed (b ∷ []) (c ∷ d ∷ bytes) first last = last
both_closed (b ∷ c ∷ []) [] first last = first
both_closed (b ∷ c ∷ []) (d ∷ bytes) first last = both_closed (c ∷ []) (d ∷ bytes) (later_closed b (c ∷ []) first) last
both_closed (b ∷ c ∷ d ∷ front) bytes first last = both_closed (c ∷ d ∷ front) bytes first last

-- ---- parts

-- no escape is open at the end of markup, but of the last
abbrev pub closes_escapes : List Given → Bool
closes_escapes [] = true
closes_escapes (Markup bytes ∷ []) = true
closes_escapes (Markup bytes ∷ part ∷ parts) = not (ends_in_escape bytes) && closes_escapes (part ∷ parts)
closes_escapes (Slot at ∷ parts) = closes_escapes parts

abbrev pub ClosesEscapes : List Given → Type 0
ClosesEscapes parts = closes_escapes parts ≡ true

pub not_true : (x : Bool) → not x ≡ true → x ≡ false
not_true x is = grind (arith, nat_tests)

-- markup before parts, and parts behind markup
pub closed_before : (bytes : List ℕ) (parts : List Given) → ends_in_escape bytes ≡ false → ClosesEscapes parts → ClosesEscapes (Markup bytes ∷ parts)
closed_before bytes parts none closed = grind (arith, nat_tests)

pub closed_behind : (bytes : List ℕ) (parts : List Given) → ClosesEscapes (Markup bytes ∷ parts) → ClosesEscapes parts
closed_behind bytes parts closed = grind (arith, nat_tests)

pub closed_markup : (bytes : List ℕ) (part : Given) (parts : List Given) → ClosesEscapes (Markup bytes ∷ part ∷ parts) → ends_in_escape bytes ≡ false
closed_markup bytes part parts closed = not_true (ends_in_escape bytes) (and_parts (not (ends_in_escape bytes)) (closes_escapes (part ∷ parts)) closed).0
