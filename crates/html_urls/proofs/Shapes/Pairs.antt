-- The pairs of a query of markup and slots.
use Rattle.std.proofs.Common.{◌≡◌, ℕ, ◌<◌, List, [], ◌∷◌, length, map, filter, Option, option_map, unwrap_or, All, sym, refl, ap, ◌∙◌, length-append, arith, inl, inr}
use Rattle.std.proofs.lemmas.Bool.Decides.{nat_tests}
use Rattle.std.proofs.lemmas.Bool.{cases_eq, cond-true, eq-eqb, lt-ltb, ne_eqb}
use Rattle.std.proofs.lemmas.List.Elements.{All-head, All-tail}
use Rattle.form_urlencoded.specs.Form.{decode, is_nonempty, parse, raw_pairs, split_pair}
use Rattle.form_urlencoded.specs.Form as form
use Rattle.form_urlencoded.proofs.FormLemmas.{split_once_after_other, split_once_after_same, split_once_before_other, split_once_before_same}
use Rattle.percent_encoding.proofs.PercentLemmas.{IsByte}
use Rattle.url.specs.Input.{split_once}
use Rattle.html_urls.specs.Components.{component_at}
use Rattle.html_urls.specs.Decoded.{pair_of, pairs_of}
use Rattle.html_urls.specs.Pieces.{HasMarkup, filled_pieces, pieces}
use Rattle.html_urls.specs.Shapes.{split_parts, texts_after}
use Rattle.html_urls.specs.Slots.{Given, Markup, Slot, url_of}
use Rattle.html_urls.proofs.Bytes.{AllBytes}
use Rattle.html_urls.proofs.OpenEscapes.{ClosesEscapes}
use Rattle.html_urls.proofs.Shapes.Closing.{halves_close}
use Rattle.html_urls.proofs.Shapes.Decoding.{form_law}
use Rattle.html_urls.proofs.Shapes.FormSlots.{FormSlots, halves_form}
use Rattle.html_urls.proofs.Shapes.Fills.{split_filled}
use Rattle.html_urls.proofs.Shapes.Pieces.{pieces_law}

-- ---- one pair

-- the two definitions of a split, by a number and by recursion
pub form_split : (mark : ℕ) (xs : List ℕ) → form.split_once mark xs ≡ ((split_once mark xs).0, unwrap_or (split_once mark xs).1 [])
unfolding split_once
form_split mark [] = refl
form_split mark (x ∷ xs) =
    let later = form_split mark xs in
    elim (cases_eq x mark) [
      | inl here ↦ let same = eq-eqb x mark here in
          let front = ap (λ m. (form.split_once m (x ∷ xs)).0) (sym here) ∙ split_once_before_same x xs in
          let back = ap (λ m. (form.split_once m (x ∷ xs)).1) (sym here) ∙ split_once_after_same x xs in
          (λ i. (front i, back i)) ∙ rw same refl
      | inr other ↦ let front = split_once_before_other mark x xs other ∙ ap (λ l. x ∷ l) (ap (λ r. r.0) later) in
          let back = split_once_after_other mark x xs other ∙ ap (λ r. r.1) later in
          (λ i. (front i, back i)) ∙ rw (ne_eqb x mark other) refl
    ]

pub bytes_after : (parts : List Given) (texts : List (List ℕ)) → AllBytes texts → AllBytes (texts_after parts texts)
bytes_after [] texts bytes = bytes
bytes_after (Markup markup ∷ parts) texts bytes = bytes_after parts texts bytes
bytes_after (Slot at ∷ parts) [] bytes = bytes_after parts [] bytes
bytes_after (Slot at ∷ parts) (text ∷ texts) bytes = bytes_after parts texts (All-tail (All IsByte) text texts bytes)

or_nothing : (o : Option (List Given)) (texts : List (List ℕ)) → unwrap_or (option_map (λ parts. url_of parts texts) o) [] ≡ url_of (unwrap_or o []) texts
or_nothing o texts = grind (arith, nat_tests)

pair_filled : (string : List Given) (texts : List (List ℕ)) → AllBytes texts → FormSlots string → ClosesEscapes string → (decode (split_pair (url_of string texts)).0, decode (split_pair (url_of string texts)).1) ≡ pair_of string texts
pair_filled string texts bytes form closed =
    let halves = split_parts 61 string in
    let left = texts_after halves.0 texts in
    let both = halves_close 61 string closed in
    let forms = halves_form 61 string form in
    let splits = form_split 61 (url_of string texts) ∙ ap (λ r. (r.0, unwrap_or r.1 [])) (split_filled 61 refl string texts) in
    let name = ap (λ r. decode r.0) splits ∙ form_law halves.0 texts bytes forms.0 both.0 in
    let value = ap (λ r. decode r.1) splits ∙ ap decode (or_nothing halves.1 left) ∙ form_law (unwrap_or halves.1 []) left (bytes_after halves.0 texts bytes) forms.1 both.1 in
    λ i. (name i, value i)

-- ---- all pairs

pub some_bytes : (piece : List Given) (texts : List (List ℕ)) → HasMarkup piece → 0 < length (url_of piece texts)
some_bytes [] texts has = cc
some_bytes (Markup [] ∷ parts) texts has = some_bytes parts texts has
some_bytes (Markup (b ∷ bytes) ∷ parts) texts has = omega arith
some_bytes (Slot at ∷ parts) [] has = some_bytes parts [] has
some_bytes (Slot at ∷ parts) (text ∷ texts) has = omega (arith, some_bytes parts texts has, length-append (component_at at text) (url_of parts texts))

pub none_empty : (l : List (List Given)) (texts : List (List ℕ)) → All HasMarkup l → filter is_nonempty (filled_pieces l texts) ≡ filled_pieces l texts
none_empty [] texts has = refl
none_empty (piece ∷ more) texts has =
    cond-true _ _ _ (lt-ltb 0 (length (url_of piece texts)) (some_bytes piece texts (All-head HasMarkup piece more has)))
    ∙ ap (λ l. url_of piece texts ∷ l) (none_empty more (texts_after piece texts) (All-tail HasMarkup piece more has))

pairs_filled : (l : List (List Given)) (texts : List (List ℕ)) → AllBytes texts → All FormSlots l → All ClosesEscapes l → map (λ pair. (decode pair.0, decode pair.1)) (map split_pair (filled_pieces l texts)) ≡ pairs_of l texts
pairs_filled [] texts bytes form closed = refl
pairs_filled (string ∷ more) texts bytes form closed =
    let first = pair_filled string texts bytes (All-head FormSlots string more form) (All-head ClosesEscapes string more closed) in
    let later = pairs_filled more (texts_after string texts) (bytes_after string texts bytes) (All-tail FormSlots string more form) (All-tail ClosesEscapes string more closed) in
    λ i. first i ∷ later i

raw_filled : (query : List Given) (texts : List (List ℕ)) → All HasMarkup (pieces 38 query) → raw_pairs (url_of query texts) ≡ map split_pair (filled_pieces (pieces 38 query) texts)
unfolding raw_pairs
raw_filled query texts has = grind (arith, nat_tests, map, filter, pieces_law, none_empty)

-- THE PAIRS LAW
pub pairs_law : (query : List Given) (texts : List (List ℕ)) → AllBytes texts → All HasMarkup (pieces 38 query) → All FormSlots (pieces 38 query) → All ClosesEscapes (pieces 38 query) → parse (url_of query texts) ≡ pairs_of (pieces 38 query) texts
pairs_law query texts bytes has form closed =
    ap (map (λ pair. (decode pair.0, decode pair.1))) (raw_filled query texts has) ∙ pairs_filled (pieces 38 query) texts bytes form closed
