-- Markup and texts of bytes.
use Rattle.std.proofs.Common.{◌≡◌, ℕ, true, List, [], ◌∷◌, All, arith}
use Rattle.std.proofs.lemmas.Bool.Decides.{nat_tests}
use Rattle.std.proofs.lemmas.List.Elements.{All-cons, All-nil, All-weaker}
use Rattle.percent_encoding.proofs.PercentLemmas.{IsByte}
use Rattle.html_urls.specs.Decoded.{AreBytes}
use Rattle.html_urls.specs.Slots.{Given, is_plain_byte, url_of}

abbrev pub AllBytes : List (List ℕ) → Type 0
AllBytes texts = All (All IsByte) texts

pub all_bytes : (texts : List (List ℕ)) → AreBytes texts → AllBytes texts
all_bytes [] bytes = All-nil (All IsByte)
all_bytes (text ∷ texts) bytes = All-cons (All IsByte) text texts bytes.0 (all_bytes texts bytes.1)

-- the bytes of the markup
abbrev pub IsOfBytes : List Given → Type 0
IsOfBytes parts = All IsByte (url_of parts [])

pub plain_is_of_bytes : (markup : List ℕ) → All (λ b. is_plain_byte b ≡ true) markup → All IsByte markup
plain_is_of_bytes markup plain = All-weaker (λ b. is_plain_byte b ≡ true) IsByte (λ b passes. grind (arith, nat_tests)) markup plain
