-- Characters whose bytes a grammar reads as they stand.
use Rattle.std.proofs.Common.{ℕ, ◌≡◌, ◌≢◌, ◌≤◌, ◌<◌, ◌+◌, ◌/◌, ◌%◌, List, [], ◌∷◌, encode_utf8, arith}
use Rattle.std.proofs.lemmas.Bool.Decides.{nat_tests}
use Rattle.std.proofs.lemmas.Bool.{cases_lt}
use Rattle.std.proofs.lemmas.Str.{encode_ascii}
use Rattle.hesc_specs.proofs.Strings.CharacterBytes.{encode_two, encode_three, encode_four}
use Rattle.hesc_grammars.specs.declared.step.Mode.{Mode}
use Rattle.hesc_grammars.specs.declared.step.Mode.TheVariants.{Plain}
use Rattle.hesc_grammars.specs.declared.step.Step.{Step}
use Rattle.hesc_grammars.specs.declared.step.Step.TheVariants.{Byte}
use Rattle.hesc_grammars.proofs.Takes.{Takes, takes_byte, takes_byte_before}

-- six bits as a byte of a character after its first
abbrev pub next_byte : ℕ → ℕ
next_byte bits = 128 + bits % 64

-- a byte from 128 on is read as itself, whatever follows, but E2 hex only where this character's bytes follow
pub record KeepsHigh (step : Mode → List ℕ → Step) (c : ℕ) : Type 0 where
  pub others : (b : ℕ) → 128 ≤ b → b ≢ 0xE2 → (rest : List ℕ) → step Plain (b ∷ rest) ≡ Byte 0 b Plain
  pub first_of_three : (rest : List ℕ) →
      step Plain ((224 + c / 4096) ∷ next_byte (c / 64) ∷ next_byte c ∷ rest) ≡ Byte 0 (224 + c / 4096) Plain

module _ {step : Mode → List ℕ → Step} (c : ℕ) (keeps : KeepsHigh step c) where
  -- a byte of a character after its first is read as itself
  takes_next : (bits : ℕ) → Takes step Plain (next_byte bits ∷ []) (next_byte bits ∷ []) Plain
  takes_next bits = takes_byte (keeps.others (next_byte bits) (omega arith) (omega arith))

  takes_two_bytes : 128 ≤ c → c < 2048 → Takes step Plain (encode_utf8 c) (encode_utf8 c) Plain
  takes_two_bytes low high = grind (arith, nat_tests, encode_two, takes_byte_before, takes_next)

  takes_three_bytes : 2048 ≤ c → c < 65536 → Takes step Plain (encode_utf8 c) (encode_utf8 c) Plain
  takes_three_bytes low high = grind (arith, nat_tests, encode_three, takes_byte_before, takes_next)

  takes_four_bytes : 65536 ≤ c → Takes step Plain (encode_utf8 c) (encode_utf8 c) Plain
  takes_four_bytes low = grind (arith, nat_tests, encode_four, takes_byte_before, takes_next)

  pub takes_high : 128 ≤ c → Takes step Plain (encode_utf8 c) (encode_utf8 c) Plain
  takes_high low = grind (arith, nat_tests, takes_two_bytes, takes_three_bytes, takes_four_bytes, cases_lt)

  -- a character is read as itself, where an ASCII one is
  pub takes_kept : (c < 128 → (rest : List ℕ) → step Plain (c ∷ rest) ≡ Byte 0 c Plain) →
      Takes step Plain (encode_utf8 c) (encode_utf8 c) Plain
  takes_kept ascii = grind (arith, nat_tests, encode_ascii, takes_byte, takes_high, cases_lt)
