-- The table of flags against the definitions: each of the 256 bytes, computed.
use Rattle.std.proofs.Common.{◌≡◌, ℕ, ◌<◌, Bool, true, not, ◌||◌, nat_eq, get_or, bit_and, bit_or, refl}
use Rattle.std.proofs.lemmas.Bool.{agree_below_at}
use Rattle.html_tokenizer.specs.declared.flags.TheConstants.{FLAGS}
use Rattle.html_tokenizer.specs.Tokenizer.Code.Words.{is_name_byte}
use Rattle.std.specs.Char.{to_ascii_lowercase}
use Rattle.html_tokenizer.specs.Tokenizer.Stretches.{begins_word, is_mark, is_name_letter}

-- whether none of these bits of the byte is set
abbrev pub lacks : ℕ → ℕ → Bool
lacks bits b = nat_eq (bit_and (get_or FLAGS b 0) bits) 0

-- the byte with its bit of a capital
abbrev pub small : ℕ → ℕ
small b = bit_or b (bit_and (get_or FLAGS b 0) 32)

pub name_tells : (b : ℕ) → b < 256 → not (lacks 1 b) ≡ is_name_letter b
name_tells b lt = agree_below_at (λ x. not (lacks 1 x)) is_name_letter 256 b refl lt

pub small_tells : (b : ℕ) → b < 256 → (lacks 1 b || nat_eq (small b) (to_ascii_lowercase b)) ≡ true
small_tells b lt = agree_below_at (λ x. lacks 1 x || nat_eq (small x) (to_ascii_lowercase x)) (λ x. true) 256 b refl lt

pub word_tells : (b : ℕ) → b < 256 → not (lacks 2 b) ≡ is_name_byte b
word_tells b lt = agree_below_at (λ x. not (lacks 2 x)) is_name_byte 256 b refl lt

pub mark_tells : (b : ℕ) → b < 256 → not (lacks 4 b) ≡ is_mark b
mark_tells b lt = agree_below_at (λ x. not (lacks 4 x)) is_mark 256 b refl lt

pub stop_tells : (b : ℕ) → b < 256 → lacks 12 b ≡ not (is_mark b || begins_word b)
stop_tells b lt = agree_below_at (lacks 12) (λ x. not (is_mark x || begins_word x)) 256 b refl lt
