-- The encoding of an unquoted value holds no ending and no quote mark.
use Rattle.std.proofs.Common.{ℕ, ◌≡◌, Bool, true, false, ◌||◌, not, List, [], ◌∷◌, ◌++◌, ◌==◌, None, refl, ◌∙◌, ⊎_elim, arith}
use Rattle.std.specs.List.{list_all}
use Rattle.std.proofs.lemmas.Bool.{and_parts, cases_Bool}
use Rattle.std.proofs.lemmas.Bool.Decides.{nat_tests}
use Rattle.std.proofs.lemmas.List.Folds.{list_all-append}
use Rattle.hesc_specs.specs.Text.Ascii.{tab, line_feed, form_feed, space, double_quote, single_quote, greater_than}
use Rattle.hesc_specs.specs.Text.Classes.{in_class}
use Rattle.hesc_specs.specs.Html.{encoding, image, reference_to}
use Rattle.hesc_specs.specs.declared.classes.Class.TheVariants.{UnquotedAttribute}
use Rattle.hesc_specs.proofs.Html.Images.{in_class_is_ascii}
use Rattle.hesc_places.specs.Pages.AttributeReadings.{ending, first_ending}
use Rattle.hesc_grammars.specs.Html.{ends_unquoted}
use Rattle.hesc_grammars.proofs.ReferenceImages.{passes_below, passes_each}

-- neither an ending nor a quote mark
abbrev pub is_inner : ℕ → Bool
is_inner b = not (ends_unquoted b || b == double_quote || b == single_quote)

are_inner_to : ℕ → Bool
are_inner_to b = list_all is_inner (reference_to b)

all_are_inner : passes_below are_inner_to 128 ≡ true
unfolding passes_below are_inner_to
all_are_inner = refl

inner-image : (b : ℕ) → list_all is_inner (image UnquotedAttribute b) ≡ true
unfolding are_inner_to
inner-image b =
    ⊎_elim
    (λ (replaced : in_class UnquotedAttribute b ≡ true).
    rw replaced (passes_each are_inner_to all_are_inner b (in_class_is_ascii UnquotedAttribute b refl replaced)))
    (λ (kept : in_class UnquotedAttribute b ≡ false).
    let inner : is_inner b ≡ true = grind (arith, nat_tests) in
    rw (kept, inner) refl)
    (cases_Bool (in_class UnquotedAttribute b))

pub inner-encoding : (text : List ℕ) → list_all is_inner (encoding UnquotedAttribute text) ≡ true
inner-encoding [] = refl
inner-encoding (b ∷ text) =
    list_all-append is_inner (image UnquotedAttribute b) (encoding UnquotedAttribute text)
    ∙ rw (inner-image b, inner-encoding text) refl

no_ending : (b : ℕ) → is_inner b ≡ true → ending b ≡ None
no_ending b inner =
    let no_tab : (b == tab) ≡ false = grind (arith, nat_tests) in
    let no_line_feed : (b == line_feed) ≡ false = grind (arith, nat_tests) in
    let no_form_feed : (b == form_feed) ≡ false = grind (arith, nat_tests) in
    let no_space : (b == space) ≡ false = grind (arith, nat_tests) in
    let no_greater : (b == greater_than) ≡ false = grind (arith, nat_tests) in
    rw (no_tab, no_line_feed, no_form_feed, no_space, no_greater) refl

-- the first ending is after bytes that are none
pub first_ending-after : (bytes rest : List ℕ) → list_all is_inner bytes ≡ true →
    first_ending (bytes ++ rest) ≡ first_ending rest
first_ending-after [] rest inner = refl
first_ending-after (b ∷ bytes) rest inner =
    let parts = and_parts (is_inner b) (list_all is_inner bytes) inner in
    rw (no_ending b parts.0) (first_ending-after bytes rest parts.1)
