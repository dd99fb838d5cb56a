-- Text and quoted values: the encoding of a class that has the mark is read up to the mark.
use Rattle.std.proofs.Common.{ℕ, ◌≡◌, true, false, List, [], ◌∷◌, ◌++◌, ◌==◌, Some, length, flat_map, refl, eq-eqb, ne_eqb}
use Rattle.hesc_specs.specs.Text.Ascii.{ampersand}
use Rattle.hesc_specs.specs.Text.Classes.{in_class, IsHtml}
use Rattle.hesc_specs.specs.Html.{encoding}
use Rattle.hesc_specs.specs.Text.Nul.{nul}
use Rattle.hesc_specs.specs.declared.classes.Class.{Class}
use Rattle.hesc_specs.proofs.Html.Images.{in_class-ampersand, kept_is_other}
use Rattle.hesc_grammars.specs.declared.step.Mode.TheVariants.{Plain}
use Rattle.hesc_grammars.specs.Html.{marked_step}
use Rattle.hesc_grammars.specs.Reading.{reading_after}
use Rattle.hesc_grammars.proofs.Takes.{takes_to_end}
use Rattle.hesc_grammars.proofs.HtmlPieces.{ReadsImages, read_image, takes_encoding}
use Rattle.hesc_grammars.proofs.ReadBacks.{read_back-text, read_back-nul}

-- the class is an HTML encoder's and has the mark, which is no `&`
abbrev pub HasMark : Class → ℕ → Type 0
HasMark class mark = IsHtml class × ((in_class class mark ≡ true) × ((ampersand == mark) ≡ false))

marked_reads : (class : Class) (mark : ℕ) → HasMark class mark → ReadsImages (marked_step mark) class
unfolding marked_step
marked_reads class mark has = record {
  html = has.0;
  references = λ mode bytes. rw has.1.1 refl;
  others = λ mode b bytes kept.
      rw (
        ne_eqb b mark (kept_is_other class b mark kept has.1.0),
        ne_eqb b ampersand (kept_is_other class b ampersand kept (in_class-ampersand class has.0)),
      ) refl;
}

marked_closes : (mark : ℕ) (rest : List ℕ) → reading_after (marked_step mark) 0 Plain (mark ∷ rest) ≡ Some ([], 0)
unfolding marked_step
marked_closes mark rest = rw (eq-eqb mark mark refl) refl

marked_reading : (class : Class) (mark : ℕ) → HasMark class mark → (text rest : List ℕ) →
    reading_after (marked_step mark) 0 Plain (encoding class text ++ (mark ∷ rest)) ≡
    Some (flat_map (read_image class) text, length (encoding class text))
marked_reading class mark has text rest =
    takes_to_end (mark ∷ rest) (takes_encoding (marked_reads class mark has) text) (marked_closes mark rest)

-- a class without NUL is read as the text
pub marked_text : (class : Class) (mark : ℕ) → HasMark class mark → in_class class 0 ≡ false → (text rest : List ℕ) →
    reading_after (marked_step mark) 0 Plain (encoding class text ++ (mark ∷ rest)) ≡
    Some (text, length (encoding class text))
marked_text class mark has keeps text rest =
    rw (marked_reading class mark has text rest, read_back-text class keeps text) refl

-- a class with NUL is read as the text with U+FFFD for it
pub marked_nul : (class : Class) (mark : ℕ) → HasMark class mark → in_class class 0 ≡ true → (text rest : List ℕ) →
    reading_after (marked_step mark) 0 Plain (encoding class text ++ (mark ∷ rest)) ≡
    Some (nul text, length (encoding class text))
marked_nul class mark has replaces text rest =
    rw (marked_reading class mark has text rest, read_back-nul class replaces text) refl
