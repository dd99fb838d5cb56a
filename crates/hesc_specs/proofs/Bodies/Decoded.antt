-- A body decoder never lengthens a text, and leaves nothing of an empty text alone.
use Rattle.std.proofs.Common.{◌≡◌, ℕ, ◌+◌, ◌≤◌, Bool, List, [], ◌∷◌, length, refl, arith, if◌then◌else◌}
use Rattle.std.proofs.lemmas.Bool.Decides.{nat_tests}
use Rattle.hesc_specs.specs.Bodies.Encoding.{body_decoding, body_decoding_after, nothing_before}
use Rattle.hesc_specs.specs.Bodies.Openings.{is_escaped_opening}
use Rattle.hesc_specs.specs.declared.elements.Element.{Element}

one-more : (is_dropped : Bool) (b : ℕ) (bytes text : List ℕ) → length bytes ≤ length text → length (if is_dropped then bytes else b ∷ bytes) ≤ length text + 1
one-more is_dropped b bytes text shorter = grind (arith, nat_tests)

shorter-after : (element : Element) (before : ℕ) (text : List ℕ) → length (body_decoding_after element before text) ≤ length text
shorter-after element before [] = omega arith
shorter-after element before (b ∷ text) =
    omega (arith, one-more (is_escaped_opening element (before ∷ b ∷ text)) b (body_decoding_after element b text) text (shorter-after element b text))

pub body_decoding-shorter : (element : Element) (text : List ℕ) → length (body_decoding element text) ≤ length text
body_decoding-shorter element text = shorter-after element nothing_before text

-- the first byte stays
pub body_decoding-empty : (element : Element) (text : List ℕ) → body_decoding element text ≡ [] → text ≡ []
body_decoding-empty element [] is = refl
body_decoding-empty element (b ∷ text) is = cc
