-- A text with each NUL replaced by U+FFFD, by its characters.
use Rattle.std.proofs.Common.{◌≡◌, ◌≢◌, ℕ, ◌==◌, List, [], ◌∷◌, ◌++◌, if◌then◌else◌, map, IsUtf8, refl, sym, ap, ap₂, ◌∙◌, append-nil, ne_eqb, arith, inl, inr}
use Rattle.std.proofs.lemmas.Bool.Decides.{nat_tests}
use Rattle.std.specs.Prelude.{chars}
use Rattle.std.proofs.Math.Utf8.{encode, encodes}
use Rattle.std.proofs.lemmas.Bool.{cases_eq, cases_lt}
use Rattle.std.proofs.lemmas.Grind.{flat_map-append}
use Rattle.std.proofs.lemmas.Str.{encode_ascii, encodes-chars}
use Rattle.hesc_specs.specs.Text.Nul.{nul, nul_image, replacement_character}
use Rattle.hesc_specs.proofs.Text.HighBytes.{AreHigh, encode-high}

-- U+FFFD for NUL, and any other character itself
abbrev pub nul_character : ℕ → ℕ
nul_character c = if c == 0 then replacement_character else c

nul-high : (bytes : List ℕ) → AreHigh bytes → nul bytes ≡ bytes
nul-high [] high = refl
nul-high (b ∷ bytes) high = rw (ne_eqb b 0 (omega (arith, high.0))) (ap (λ rest. b ∷ rest) (nul-high bytes high.1))

-- the bytes of a character other than NUL are kept
nul-encode : (c : ℕ) → c ≢ 0 → nul (encode c) ≡ encode c
nul-encode c other = grind (arith, nat_tests, cases_lt, encode_ascii, nul-high, encode, encode-high)

nul-character : (c : ℕ) → nul (encode c) ≡ encode (nul_character c)
nul-character c =
    elim (cases_eq c 0) [
      | inl is ↦ rw (is, encode_ascii 0 (omega arith)) (append-nil (encode replacement_character))
      | inr other ↦ rw (ne_eqb c 0 other) (nul-encode c other)
    ]

nul-encodes : (characters : List ℕ) → nul (encodes characters) ≡ encodes (map nul_character characters)
nul-encodes [] = refl
nul-encodes (c ∷ characters) =
    flat_map-append nul_image (encode c) (encodes characters) ∙ ap₂ (λ front rest. front ++ rest) (nul-character c) (nul-encodes characters)

-- replacing NUL by its byte is replacing it by its character
pub nul-chars : (text : List ℕ) → IsUtf8 text → nul text ≡ encodes (map nul_character (chars text))
nul-chars text utf8 = ap nul (sym (encodes-chars text utf8)) ∙ nul-encodes (chars text)
