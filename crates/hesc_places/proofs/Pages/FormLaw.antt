-- The law of forms: a form's text is read back, whatever follows it.
use Rattle.std.proofs.Common.{ℕ, ◌≡◌, ◌≤◌, ◌-◌, List, [], ◌∷◌, ◌++◌, Some, None, IsUtf8, length, flat_map, map, refl, ap, ◌∙◌, arith, append_assoc, length-append, ◌≢◌, codes, sym, append-nil}
use Rattle.hesc_places.specs.declared.markup.types.Quoting.{Quoting}
use Rattle.hesc_places.specs.declared.markup.types.Quoting.TheVariants.{Unquoted, Single, Double}
use Rattle.hesc_places.specs.Pages.AttributeReadings.{Entry, attribute_at, attributes_at}
use Rattle.hesc_places.specs.Pages.FormReadings.{form_reading, with_attributes}
use Rattle.hesc_places.specs.Pages.FormTexts.{AreGood, attribute_text, entry_back, form_back, form_text, gap, gap_after, script_text}
use Rattle.hesc_places.proofs.Pages.AttributeLaws.{MayEnd, MayFollow, attributes_again}
use Rattle.hesc_places.proofs.Pages.ScriptTexts.{tail_again}
use Rattle.hesc_specs.specs.Text.Nul.{nul}
use Rattle.html_escape.specs.declared.encoder.Encoder.TheVariants.{UnquotedAttribute}
use Rattle.html_escape.specs.Encoders.{encoded}
use Rattle.hesc_places.specs.Pages.PageReadings.{page_of, page_reading}
use Rattle.hesc_places.specs.Pages.PageTexts.{page_back, page_text, placeholder_part}

-- the quoting of the last attribute; a form without attributes has no gap, as after a quoted one
last_quoting : List Entry → Quoting
last_quoting [] = Double
last_quoting (a ∷ []) = a.quoting
last_quoting (a ∷ b ∷ others) = last_quoting (b ∷ others)

gap-last : (attributes : List Entry) → gap attributes ≡ gap_after (last_quoting attributes)
unfolding last_quoting
gap-last [] = refl
gap-last (a ∷ []) = refl
gap-last (a ∷ b ∷ others) = gap-last (b ∷ others)

gap_follows : (quoting : Quoting) (rest : List ℕ) → MayFollow quoting (gap_after quoting ++ rest)
gap_follows Unquoted rest = (rest, refl)
gap_follows Single rest = tt
gap_follows Double rest = tt

gap_ends : (attributes : List Entry) (rest : List ℕ) → MayEnd attributes (gap_after (last_quoting attributes) ++ rest)
unfolding last_quoting
gap_ends [] rest = tt
gap_ends (a ∷ []) rest = gap_follows a.quoting rest
gap_ends (a ∷ b ∷ others) rest = gap_ends (b ∷ others) rest

-- the end of the tag is no attribute
no_attribute : (quoting : Quoting) (script rest : List ℕ) → attribute_at (gap_after quoting ++ (script_text script ++ rest)) ≡ None
unfolding attribute_at
no_attribute Unquoted script rest = refl
no_attribute Single script rest = refl
no_attribute Double script rest = refl

-- each attribute has bytes
enough : (attributes : List Entry) → length attributes ≤ length (flat_map attribute_text attributes)
enough [] = omega arith
enough (a ∷ others) =
    omega (arith, enough others, length-append (attribute_text a) (flat_map attribute_text others))

-- the names are read back
names_again : (attributes : List Entry) → map (λ a. a.name) (map entry_back attributes) ≡ map (λ a. a.name) attributes
names_again [] = refl
names_again (a ∷ others) = ap (λ names. a.name ∷ names) (names_again others)

pub form_again : (attributes : List Entry) (script rest : List ℕ) → AreGood attributes → IsUtf8 script →
    form_reading (form_text attributes script ++ rest) ≡ Some (form_back attributes script)
unfolding form_reading with_attributes
form_again attributes script rest good utf8 =
    let quoting : Quoting = last_quoting attributes in
    let written : List ℕ = flat_map attribute_text attributes in
    let tail : List ℕ = gap_after quoting ++ (script_text script ++ rest) in
    let inside : List ℕ = (written ++ (gap attributes ++ script_text script)) ++ rest in
    let regrouped : inside ≡ written ++ tail =
    append_assoc written (gap attributes ++ script_text script) rest
    ∙ ap (λ bytes. written ++ bytes) (append_assoc (gap attributes) (script_text script) rest ∙ ap (λ front. front ++ (script_text script ++ rest)) (gap-last attributes)) in
    let within : length attributes ≤ length inside =
    omega (arith, enough attributes, ap length regrouped, length-append written tail) in
    let read : attributes_at (length inside) inside ≡ (map entry_back attributes, tail) =
    ap (attributes_at (length inside)) regrouped
    ∙ attributes_again attributes (length inside) tail within good.names good.filled (gap_ends attributes (script_text script ++ rest)) (no_attribute quoting script rest) in
    let whole : length (form_text attributes script ++ rest) - length rest ≡ length (form_text attributes script) =
    omega (arith, length-append (form_text attributes script) rest) in
    ap (with_attributes (length (form_text attributes script ++ rest))) read
    ∙ rw (tail_again script utf8 quoting rest, names_again attributes, good.differ)
    (ap (λ end. Some (record { attributes = map entry_back attributes; script = script; end = end })) whole)

-- ---- pages

-- the two attributes of a page
abbrev pub page_attributes : List ℕ → List ℕ → List Entry
page_attributes a b =
    record { name = codes "value"; quoting = Unquoted; value = a }
    ∷ record { name = codes "placeholder"; quoting = Double; value = b } ∷ []

pages_are_good : (a b : List ℕ) → length a ≢ 0 → AreGood (page_attributes a b)
pages_are_good a b filled = record {
  names = (refl, (refl, tt));
  differ = refl;
  filled = (filled, (tt, tt));
}

-- a page's text is that of a form
pub page_is_form : (a b c : List ℕ) → form_text (page_attributes a b) c ≡ page_text a b c
page_is_form a b c =
    let first : List ℕ = encoded UnquotedAttribute a in
    let second : List ℕ = placeholder_part b in
    ap (λ bytes. codes "<input value=" ++ bytes) (
    append_assoc first (second ++ []) (script_text c)
    ∙ ap (λ bytes. first ++ (bytes ++ script_text c)) (append-nil second)
    )

pub page_again : (a b c rest : List ℕ) → length a ≢ 0 → IsUtf8 c →
    page_reading (page_text a b c ++ rest) ≡ Some (page_back a b c)
unfolding page_reading
page_again a b c rest filled utf8 =
    let read : form_reading (page_text a b c ++ rest) ≡ Some (form_back (page_attributes a b) c) =
    ap (λ text. form_reading (text ++ rest)) (sym (page_is_form a b c))
    ∙ form_again (page_attributes a b) c rest (pages_are_good a b filled) utf8 in
    rw read
    (ap (λ text. Some (record { first = nul a; second = b; third = c; end = length text })) (page_is_form a b c))

-- a page has two attributes
pub no_page : {X : Type 0} (attributes : List X) (view : X → Entry) (literal : List ℕ) (end : ℕ) → length attributes ≢ 2 →
    None ≡ page_of (map view attributes) literal end
no_page [] view literal end other = refl
no_page (a ∷ []) view literal end other = refl
no_page (a ∷ b ∷ []) view literal end other = absurd (other refl)
no_page (a ∷ b ∷ c ∷ others) view literal end other = refl
