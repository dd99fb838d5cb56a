-- The source of one part more.
use Rattle.std.proofs.Common.{ℕ, ◌≡◌, ◌+◌, ◌-◌, true, List, [], ◌∷◌, ◌++◌, length, map, take, refl, sym, ap, ◌∙◌, subst, append_assoc, append-nil, length-append, arith}
use Rattle.std.proofs.lemmas.Bool.Decides.{nat_tests}
use Rattle.std.proofs.Math.Seq.{take-append-add}
use Rattle.std.proofs.lemmas.List.{map-append}
use Rattle.std.proofs.lemmas.Str.{IsCharBoundary-at_seam}
use Rattle.std.specs.Borrow.{Bor}
use Rattle.std.specs.List.{slice_range}
use Rattle.std.specs.Str.{IsCharBoundary, IsUtf8}
use Rattle.html_template.specs.declared.parts.Part.{Part}
use Rattle.html_template.specs.declared.parts.Part.TheVariants as part
use Rattle.html_template.specs.Templates.{Given, GivenMarkup, GivenSlot, given, texts_of}
use Rattle.html_template_source.specs.SourceFaults.{OpensAt}
use Rattle.html_template_source.specs.Sources.{IsSourceOf, Lacks, LeadOn, TakeTurns, closing, is_name, opening, quoted_opening, slot_text, written}

-- the bytes may be put together otherwise
source_at : (parts : List Given) (names : List (List ℕ)) (bytes others : List ℕ) → bytes ≡ others → IsSourceOf parts names bytes → IsSourceOf parts names others
source_at parts names bytes others same is = subst (IsSourceOf parts names) same is

-- markup and a slot before a source
slot_before : (markup name : List ℕ) (more : List Given) (others : List (List ℕ)) (rest : List ℕ) → Lacks opening markup → is_name name ≡ true →
    IsSourceOf more others rest → IsSourceOf (GivenMarkup markup ∷ GivenSlot ∷ more) (name ∷ others) (markup ++ (slot_text name ++ rest))
slot_before markup name more others rest plain named is = grind (arith, nat_tests)

-- markup that ends in the mark before a source, which begins with markup
opening_before : (markup : List ℕ) (more : List Given) (others : List (List ℕ)) (rest : List ℕ) → Lacks opening markup → TakeTurns more →
    IsSourceOf more others rest →
    IsSourceOf (GivenMarkup (markup ++ opening) ∷ more) others (markup ++ (slot_text quoted_opening ++ rest)) × TakeTurns (GivenMarkup (markup ++ opening) ∷ more)
opening_before markup [] others rest plain turns is = absurd turns
opening_before markup (GivenSlot ∷ parts) others rest plain turns is = absurd turns
opening_before markup (GivenMarkup bytes ∷ parts) others rest plain turns is = (
  record {
    whole = append_assoc markup opening ((quoted_opening ++ closing) ++ written (GivenMarkup bytes ∷ parts) others)
        ∙ ap (λ x. markup ++ (slot_text quoted_opening ++ x)) is.whole;
    plain = (record { front = markup; is = refl; first = plain }, is.plain);
    named = is.named;
  },
  turns,
)

-- nothing leads on
pub nothing_leads : LeadOn [] [] []
nothing_leads more others rest turns is = (is, turns)

-- markup and a slot more
pub slot_more : (parts : List Part) (names : List (Bor (List ℕ))) (markup name : Bor (List ℕ)) {longer : List Part} {others : List (Bor (List ℕ))} →
    longer ≡ (parts ++ part.Markup markup ∷ []) ++ part.Slot ∷ [] → others ≡ names ++ name ∷ [] →
    Lacks opening markup.now → is_name name.now ≡ true → (front : List ℕ) → LeadOn (map given parts) (texts_of names) front →
    LeadOn (map given longer) (texts_of others) (front ++ (markup.now ++ slot_text name.now))
slot_more parts names markup name {longer} {others} longer_is others_is plain named front leads more more_names rest turns is =
    let parts_are : map given longer ++ more ≡ map given parts ++ (GivenMarkup markup.now ∷ GivenSlot ∷ more) =
    rw (longer_is, append_assoc parts (part.Markup markup ∷ []) (part.Slot ∷ []), map-append given parts (part.Markup markup ∷ part.Slot ∷ []))
    (append_assoc (map given parts) (GivenMarkup markup.now ∷ GivenSlot ∷ []) more) in
    let names_are : texts_of others ++ more_names ≡ texts_of names ++ (name.now ∷ more_names) =
    rw (others_is, map-append (λ (text : Bor (List ℕ)). text.now) names (name ∷ [])) (append_assoc (texts_of names) (name.now ∷ []) more_names) in
    let bytes_are : front ++ (markup.now ++ (slot_text name.now ++ rest)) ≡ (front ++ (markup.now ++ slot_text name.now)) ++ rest =
    ap (λ x. front ++ x) (sym (append_assoc markup.now (slot_text name.now) rest)) ∙ sym (append_assoc front (markup.now ++ slot_text name.now) rest) in
    let both = leads (GivenMarkup markup.now ∷ GivenSlot ∷ more) (name.now ∷ more_names) (markup.now ++ (slot_text name.now ++ rest)) turns
    (slot_before markup.now name.now more more_names rest plain named is) in (
      rw (parts_are, names_are) (source_at _ _ _ _ bytes_are both.0),
      rw parts_are both.1,
    )

-- markup that ends in the mark more
pub opening_more : (parts : List Part) (names : List (List ℕ)) (markup : List ℕ) (taken : Bor (List ℕ)) {longer : List Part} →
    longer ≡ parts ++ part.Markup taken ∷ [] → taken.now ≡ markup ++ opening → Lacks opening markup →
    (front : List ℕ) → LeadOn (map given parts) names front → LeadOn (map given longer) names (front ++ (markup ++ slot_text quoted_opening))
opening_more parts names markup taken {longer} longer_is taken_is plain front leads more others rest turns is =
    let parts_are : map given longer ++ more ≡ map given parts ++ (GivenMarkup (markup ++ opening) ∷ more) =
    rw (longer_is, map-append given parts (part.Markup taken ∷ []), taken_is) (append_assoc (map given parts) (GivenMarkup (markup ++ opening) ∷ []) more) in
    let bytes_are : front ++ (markup ++ (slot_text quoted_opening ++ rest)) ≡ (front ++ (markup ++ slot_text quoted_opening)) ++ rest =
    ap (λ x. front ++ x) (sym (append_assoc markup (slot_text quoted_opening) rest)) ∙ sym (append_assoc front (markup ++ slot_text quoted_opening) rest) in
    let one = opening_before markup more others rest plain turns is in
    let both = leads (GivenMarkup (markup ++ opening) ∷ more) others (markup ++ (slot_text quoted_opening ++ rest)) one.1 one.0 in (
      rw parts_are (source_at _ _ _ _ bytes_are both.0),
      rw parts_are both.1,
    )

-- the last markup
pub markup_last : (parts : List Given) (names : List (List ℕ)) (front markup : List ℕ) → LeadOn parts names front → Lacks opening markup →
    IsSourceOf (parts ++ GivenMarkup markup ∷ []) names (front ++ markup) × TakeTurns (parts ++ GivenMarkup markup ∷ [])
markup_last parts names front markup leads plain =
    let last : IsSourceOf (GivenMarkup markup ∷ []) [] markup = record {
      whole = append-nil markup;
      plain = (plain, tt);
      named = tt;
    } in
    let both = leads (GivenMarkup markup ∷ []) [] markup tt last in
    (rw (append-nil names) at both.0, both.1)

pub source_whole : (parts : List Part) (names : List (Bor (List ℕ))) (markup : Bor (List ℕ)) (source front : List ℕ) {longer : List Part} →
    longer ≡ parts ++ part.Markup markup ∷ [] → Lacks opening markup.now → LeadOn (map given parts) (texts_of names) front →
    front ++ markup.now ≡ source → IsSourceOf (map given longer) (texts_of names) source × TakeTurns (map given longer)
source_whole parts names markup source front {longer} longer_is plain leads whole =
    let parts_are : map given longer ≡ map given parts ++ GivenMarkup markup.now ∷ [] = rw longer_is (map-append given parts (part.Markup markup ∷ [])) in
    let both = markup_last (map given parts) (texts_of names) front markup.now leads plain in
    (rw (parts_are, sym whole) both.0, rw parts_are both.1)

-- the source goes on after what stands between two marks
pub goes_on : (front rest markup following name more source : List ℕ) → rest ≡ markup ++ (opening ++ following) →
    following ≡ name ++ (closing ++ more) → front ++ rest ≡ source → (front ++ (markup ++ slot_text name)) ++ more ≡ source
goes_on front rest markup following name more source first second whole =
    append_assoc front (markup ++ slot_text name) more
    ∙ ap (λ x. front ++ x) (append_assoc markup (slot_text name) more
    ∙ ap (λ x. markup ++ (opening ++ x)) (append_assoc name closing more ∙ sym second) ∙ sym first)
    ∙ whole

lacks_nil : Lacks opening []
lacks_nil [] rest is = cc
lacks_nil (b ∷ front) rest is = cc

-- what was read is a source, and behind it and markup stands the mark
pub opens_at : (parts : List Given) (names : List (List ℕ)) (front rest markup following source : List ℕ) → LeadOn parts names front →
    front ++ rest ≡ source → rest ≡ markup ++ (opening ++ following) → Lacks opening markup →
    OpensAt source (length source - length rest + length markup) following
opens_at parts names front rest markup following source leads whole rest_is plain =
    let read = markup_last parts names front [] leads lacks_nil in
    let long : length source ≡ length front + length rest = ap length (sym whole) ∙ length-append front rest in
    record {
      parts = parts ++ GivenMarkup [] ∷ [];
      names = names;
      front = front;
      markup = markup;
      before = source_at _ _ _ _ (append-nil front) read.0;
      plain = plain;
      whole = sym whole ∙ ap (λ x. front ++ x) rest_is;
      place_is = omega (arith, long);
    }

-- nothing was read
pub starts : (parts : List Part) (names : List (Bor (List ℕ))) → parts ≡ [] → names ≡ [] → LeadOn (map given parts) (texts_of names) []
starts parts names no_parts no_names = rw (no_parts, no_names) nothing_leads

-- ---- markup and the mark behind it

pub opening_boundary : (text markup following : List ℕ) → text ≡ markup ++ (opening ++ following) → IsUtf8 following → IsCharBoundary text (length markup + 2)
opening_boundary text markup following whole utf8 =
    let seam : IsCharBoundary text (length (markup ++ opening)) =
    IsCharBoundary-at_seam text (markup ++ opening) following (whole ∙ sym (append_assoc markup opening following)) utf8 in
    subst (IsCharBoundary text) (length-append markup opening) seam

pub opening_taken : (text markup following taken : List ℕ) → text ≡ markup ++ (opening ++ following) →
    taken ≡ slice_range text 0 (length markup + 2) → taken ≡ markup ++ opening
opening_taken text markup following taken whole is =
    let count : length markup + 2 - 0 ≡ length markup + 2 = omega arith in
    is ∙ ap (λ n. take n text) count ∙ ap (take (length markup + 2)) whole ∙ take-append-add markup (opening ++ following) 2
