-- Unquoted values: the encoding of a text that is not empty is read up to the ending.
use Rattle.std.proofs.Common.{ℕ, ◌≡◌, ◌≢◌, true, false, List, [], ◌∷◌, ◌++◌, ◌==◌, Some, length, flat_map, refl, ⊎_elim, arith, ne_eqb}
use Rattle.std.proofs.lemmas.Bool.{cases_Bool}
use Rattle.hesc_specs.specs.Text.Ascii.{tab, line_feed, form_feed, space, double_quote, ampersand, single_quote, less_than, equals_sign, greater_than, backtick}
use Rattle.hesc_specs.specs.Text.Classes.{in_class}
use Rattle.hesc_specs.specs.Html.{encoding}
use Rattle.hesc_specs.specs.Text.Nul.{nul}
use Rattle.hesc_specs.specs.declared.classes.Class.TheVariants.{UnquotedAttribute}
use Rattle.hesc_specs.proofs.Html.Images.{in_class_is_ascii, kept_is_other}
use Rattle.hesc_grammars.specs.declared.step.Mode.TheVariants.{Empty, Plain}
use Rattle.hesc_grammars.specs.declared.place.End.{End}
use Rattle.hesc_grammars.specs.declared.place.End.TheVariants.{Tab}
use Rattle.hesc_grammars.specs.Html.{unquoted_step}
use Rattle.hesc_grammars.specs.Places.{end_byte}
use Rattle.hesc_grammars.specs.Reading.{reading_after}
use Rattle.hesc_grammars.proofs.Takes.{Takes, takes_both, takes_to_end}
use Rattle.hesc_grammars.proofs.HtmlPieces.{ReadsImages, read_image, takes_image, takes_encoding}
use Rattle.hesc_grammars.proofs.ReadBacks.{read_back-nul}
use Rattle.hesc_grammars.proofs.ReferenceImages.{reference_to_is_read}

-- a byte that the encoder keeps is none that it replaces
differs : (b : ℕ) → in_class UnquotedAttribute b ≡ false →
    (c : ℕ) → in_class UnquotedAttribute c ≡ true → (b == c) ≡ false
differs b kept c replaced = ne_eqb b c (kept_is_other UnquotedAttribute b c kept replaced)

unquoted_reads : (end : ℕ) → ReadsImages (unquoted_step end) UnquotedAttribute
unfolding unquoted_step
unquoted_reads end = record {
  html = refl;
  references = λ mode bytes. refl;
  others = λ mode b bytes kept.
      rw (
        differs b kept tab refl,
        differs b kept line_feed refl,
        differs b kept form_feed refl,
        differs b kept space refl,
        differs b kept greater_than refl,
        differs b kept ampersand refl,
        differs b kept double_quote refl,
        differs b kept single_quote refl,
        differs b kept less_than refl,
        differs b kept equals_sign refl,
        differs b kept backtick refl,
      ) refl;
}

unquoted_closes : (end : End) (rest : List ℕ) →
    reading_after (unquoted_step (end_byte end)) 0 Plain (end_byte end ∷ rest) ≡ Some ([], 0)
unfolding unquoted_step
unquoted_closes Tab rest = refl
unquoted_closes other rest = refl

-- the first image is the item that stands before the ending
unquoted_takes : (end : ℕ) (text : List ℕ) → length text ≢ 0 →
    Takes (unquoted_step end) Empty (encoding UnquotedAttribute text) (flat_map (read_image UnquotedAttribute) text) Plain
unquoted_takes end [] full = absurd (full refl)
unquoted_takes end (b ∷ text) full =
    takes_both (takes_image (unquoted_reads end) Empty b) (takes_encoding (unquoted_reads end) text)

pub unquoted_nul : (end : End) (text rest : List ℕ) → length text ≢ 0 →
    reading_after (unquoted_step (end_byte end)) 0 Empty (encoding UnquotedAttribute text ++ (end_byte end ∷ rest)) ≡
    Some (nul text, length (encoding UnquotedAttribute text))
unquoted_nul end text rest full =
    rw (
      takes_to_end (end_byte end ∷ rest) (unquoted_takes (end_byte end) text full) (unquoted_closes end rest),
      read_back-nul UnquotedAttribute refl text,
    ) refl

-- the encoding of a text that is not empty is not empty
pub encoding-full : (text : List ℕ) → length text ≢ 0 → length (encoding UnquotedAttribute text) ≢ 0
encoding-full [] full = absurd (full refl)
encoding-full (b ∷ text) full =
    ⊎_elim
    (λ (replaced : in_class UnquotedAttribute b ≡ true).
    let is = reference_to_is_read b (in_class_is_ascii UnquotedAttribute b refl replaced) in
    rw (replaced, is.parts) (omega arith))
    (λ (kept : in_class UnquotedAttribute b ≡ false). rw kept (omega arith))
    (cases_Bool (in_class UnquotedAttribute b))
