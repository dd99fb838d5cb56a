-- Texts after texts are texts.
use Rattle.std.proofs.Common.{◌≡◌, List, ℕ, ◌++◌, ◌∙◌, ap, length, take}
use Rattle.std.proofs.lemmas.Str.{IsUtf8-append, IsUtf8-had}
use Rattle.std.specs.Int.{to_le_bytes, w64}
use Rattle.std.specs.Str.{IsUtf8}
use Rattle.hesc_sinks.specs.Text.{small_text_bytes}
use Rattle.hesc_sinks.specs.declared.small_text.SmallText.{SmallText}

pub text_more : (taken piece all : List ℕ) → all ≡ taken ++ piece → ∥ IsUtf8 taken ∥₁ → IsUtf8 piece → ∥ IsUtf8 all ∥₁
text_more taken piece all is before more = rw is (∣ IsUtf8-append taken piece (IsUtf8-had taken before) more ∣₁)

-- and two pieces
pub text_more2 : (taken first second one all : List ℕ) → one ≡ taken ++ first → all ≡ one ++ second → ∥ IsUtf8 taken ∥₁ → IsUtf8 first → IsUtf8 second → ∥ IsUtf8 all ∥₁
text_more2 taken first second one all is_one is before more last = text_more one second all is (text_more taken first one is_one before more) last

pub text_kept : (taken all : List ℕ) → all ≡ taken → ∥ IsUtf8 taken ∥₁ → ∥ IsUtf8 all ∥₁
text_kept taken all is before = rw is before

-- a short text, as a number and its length tell it
pub word_text : (text : SmallText) (word len : ℕ) → take (length (small_text_bytes text)) (to_le_bytes w64 word) ≡ small_text_bytes text → len ≡ length (small_text_bytes text) → take len (to_le_bytes w64 word) ≡ small_text_bytes text
word_text text word len is is_len = ap (λ n. take n (to_le_bytes w64 word)) is_len ∙ is
