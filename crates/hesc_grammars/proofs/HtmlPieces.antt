-- What the HTML encoders write, by its pieces: what reads references, and the bytes that an encoder keeps, reads the encoding of a
-- text. A grammar that reads references takes it.
use Rattle.std.proofs.Common.{ℕ, ◌≡◌, ◌<◌, true, false, List, [], ◌∷◌, ◌++◌, if◌then◌else◌, Some, flat_map, encode_utf8, refl, ◌∙◌, ⊎_elim, append_assoc, length-append, arith}
use Rattle.std.proofs.lemmas.Bool.Decides.{nat_tests}
use Rattle.std.proofs.lemmas.Bool.{cases_Bool}
use Rattle.std.proofs.lemmas.Str.{encode_ascii}
use Rattle.hesc_specs.specs.Text.Ascii.{ampersand, semicolon}
use Rattle.hesc_specs.specs.Text.Classes.{in_class, IsHtml}
use Rattle.hesc_specs.specs.Html.{encoding, image, reference_to}
use Rattle.hesc_specs.specs.Text.Nul.{nul_image}
use Rattle.hesc_specs.specs.declared.classes.Class.{Class}
use Rattle.hesc_specs.proofs.Html.Images.{in_class_is_ascii}
use Rattle.hesc_grammars.specs.declared.step.Mode.{Mode}
use Rattle.hesc_grammars.specs.declared.step.Mode.TheVariants.{Plain}
use Rattle.hesc_grammars.specs.declared.step.Step.{Step}
use Rattle.hesc_grammars.specs.declared.step.Step.TheVariants.{Byte}
use Rattle.hesc_grammars.specs.References.{body_character, reference}
use Rattle.hesc_grammars.proofs.Takes.{Takes, takes_nothing, takes_both, takes_byte, takes_character}
use Rattle.hesc_grammars.proofs.ReferenceBodies.{HasNoSemicolon, reference-body}
use Rattle.hesc_grammars.proofs.ReferenceImages.{IsRead, reference_to_is_read, body_to, character_to}

-- what an image is read as: the byte, but U+FFFD for a NUL that was replaced
abbrev pub read_image : Class → ℕ → List ℕ
read_image class b = if in_class class b then nul_image b else b ∷ []

encode_utf8-character_to : (b : ℕ) → b < 128 → encode_utf8 (character_to b) ≡ nul_image b
encode_utf8-character_to b small = grind (arith, nat_tests, encode_ascii)

-- the class is an HTML encoder's, and a reference is read as its character, and each byte that is not in the class as itself
pub record ReadsPieces (class : Class) (R : List ℕ → List ℕ → Type 0) : Type 0 where
  pub html : IsHtml class
  pub reference : (body : List ℕ) (c : ℕ) → HasNoSemicolon body → body_character body ≡ Some c → R (ampersand ∷ (body ++ semicolon ∷ [])) (encode_utf8 c)
  pub kept : (b : ℕ) → in_class class b ≡ false → R (b ∷ []) (b ∷ [])

module _ {class : Class} {R : List ℕ → List ℕ → Type 0} (reads : ReadsPieces class R) where
  reference_reads : (b : ℕ) → b < 128 → R (reference_to b) (nul_image b)
  reference_reads b small =
      let is : IsRead b = reference_to_is_read b small in
      rw (is.parts, ← encode_utf8-character_to b small) (reads.reference (body_to b) (character_to b) is.whole is.character)

  pub image_reads : (b : ℕ) → R (image class b) (read_image class b)
  image_reads b =
      ⊎_elim
      (λ (replaced : in_class class b ≡ true). rw replaced (reference_reads b (in_class_is_ascii class b reads.html replaced)))
      (λ (kept : in_class class b ≡ false). rw kept (reads.kept b kept))
      (cases_Bool (in_class class b))

  pub encoding_reads : R [] [] → ((p v q w : List ℕ) → R p v → R q w → R (p ++ q) (v ++ w)) →
      (text : List ℕ) → R (encoding class text) (flat_map (read_image class) text)
  encoding_reads none both [] = none
  encoding_reads none both (b ∷ text) = both _ _ _ _ (image_reads b) (encoding_reads none both text)

-- the same of a grammar
pub record ReadsImages (step : Mode → List ℕ → Step) (class : Class) : Type 0 where
  pub html : IsHtml class
  pub references : (mode : Mode) (bytes : List ℕ) → step mode (ampersand ∷ bytes) ≡ reference bytes
  pub others : (mode : Mode) (b : ℕ) (bytes : List ℕ) →
      in_class class b ≡ false → step mode (b ∷ bytes) ≡ Byte 0 b Plain

pub takes_reference : {step : Mode → List ℕ → Step} {mode : Mode} → ((bytes : List ℕ) → step mode (ampersand ∷ bytes) ≡ reference bytes) →
    (body : List ℕ) (c : ℕ) → HasNoSemicolon body → body_character body ≡ Some c →
    Takes step mode (ampersand ∷ (body ++ semicolon ∷ [])) (encode_utf8 c) Plain
takes_reference references body c none is =
    takes_character c (λ rest. references ((body ++ semicolon ∷ []) ++ rest)
    ∙ rw (append_assoc body (semicolon ∷ []) rest, reference-body body rest none, is, length-append body (semicolon ∷ [])) refl)

module _ {step : Mode → List ℕ → Step} {class : Class} (reads : ReadsImages step class) where
  takes_pieces : (mode : Mode) → ReadsPieces class (λ piece value. Takes step mode piece value Plain)
  takes_pieces mode = grind (arith, nat_tests, takes_reference, takes_byte)

  pub takes_image : (mode : Mode) (b : ℕ) → Takes step mode (image class b) (read_image class b) Plain
  takes_image mode b = image_reads (takes_pieces mode) b

  pub takes_encoding : (text : List ℕ) → Takes step Plain (encoding class text) (flat_map (read_image class) text) Plain
  takes_encoding text = encoding_reads (takes_pieces Plain) takes_nothing (λ p v q w. takes_both) text
