-- Each reference that an HTML encoder writes is read as its byte, and that to NUL as U+FFFD.
use Rattle.std.proofs.Common.{ℕ, zero, suc, ◌≡◌, ◌-◌, ◌<◌, Bool, true, false, ◌&&◌, not, List, [], ◌∷◌, ◌++◌, ◌==◌, Option, Some, None, if◌then◌else◌, length, take, drop, bytes_eq, refl, ap}
use Rattle.std.specs.List.{list_all}
use Rattle.std.proofs.lemmas.Bool.{and_parts, eqb-true}
use Rattle.std.proofs.lemmas.Bool.Decides.{Decides-below_and}
use Rattle.std.proofs.lemmas.Slice.Eq.{bytes_eq-Decides}
use Rattle.hesc_specs.specs.Text.Ascii.{ampersand, semicolon}
use Rattle.hesc_specs.specs.Html.{reference_to}
use Rattle.hesc_specs.specs.Text.Nul.{replacement_character}
use Rattle.hesc_grammars.specs.References.{body_character}
use Rattle.hesc_grammars.proofs.ReferenceBodies.{HasNoSemicolon}

-- the body of the reference to a byte
abbrev pub body_to : ℕ → List ℕ
body_to b = take (length (reference_to b) - 2) (drop 1 (reference_to b))

-- the character that is found in the reference to a byte
abbrev pub character_to : ℕ → ℕ
character_to b = if b == 0 then replacement_character else b

-- the reference to a byte is `&`, a body without `;` that stands for the character, and `;`
pub record IsRead (b : ℕ) : Type 0 where
  pub parts : reference_to b ≡ ampersand ∷ (body_to b ++ semicolon ∷ [])
  pub whole : HasNoSemicolon (body_to b)
  pub character : body_character (body_to b) ≡ Some (character_to b)

is_character : Option ℕ → ℕ → Bool
is_character None c = false
is_character (Some d) c = d == c

character_from_test : (found : Option ℕ) (c : ℕ) → is_character found c ≡ true → found ≡ Some c
unfolding is_character
character_from_test None c h = cc
character_from_test (Some d) c h = ap Some (eqb-true d c h)

-- the three tests of `IsRead`
has_parts : ℕ → Bool
has_parts b = bytes_eq (reference_to b) (ampersand ∷ (body_to b ++ semicolon ∷ []))

is_whole : ℕ → Bool
is_whole b = list_all (λ d. not (d == semicolon)) (body_to b)

has_character : ℕ → Bool
has_character b = is_character (body_character (body_to b)) (character_to b)

is_read : ℕ → Bool
is_read b = has_parts b && (is_whole b && has_character b)

IsRead_from_test : (b : ℕ) → is_read b ≡ true → IsRead b
unfolding is_read has_parts is_whole has_character
IsRead_from_test b h =
    let first = and_parts (has_parts b) (is_whole b && has_character b) h in
    let others = and_parts (is_whole b) (has_character b) first.1 in
    record {
      parts = (bytes_eq-Decides (reference_to b) (ampersand ∷ (body_to b ++ semicolon ∷ []))).0 first.0;
      whole = others.0;
      character = character_from_test (body_character (body_to b)) (character_to b) others.1;
    }

-- each number below another passes
unfoldable pub passes_below : (ℕ → Bool) → ℕ → Bool
passes_below test zero = true
passes_below test (suc n) = test n && passes_below test n

pub passes_each : (test : ℕ → Bool) → passes_below test 128 ≡ true → (b : ℕ) → b < 128 → test b ≡ true
unfolding passes_below
passes_each test all b small =
    let each_passes = Decides-below_and test (λ k. test k ≡ true) (passes_below test) (λ k. (λ h. h, λ h. h)) refl (λ n. refl) 128 in
    each_passes.0 all b small

all_are_read : passes_below is_read 128 ≡ true
unfolding passes_below is_read has_parts is_whole has_character is_character
all_are_read = refl

pub reference_to_is_read : (b : ℕ) → b < 128 → IsRead b
reference_to_is_read b small = IsRead_from_test b (passes_each is_read all_are_read b small)
