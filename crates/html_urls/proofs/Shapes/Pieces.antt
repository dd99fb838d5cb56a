-- No text divides a segment or a string: the pieces of the URL of the texts are those of the markup.
use Rattle.std.proofs.Common.{◌≡◌, ℕ, ◌<◌, false, ◌==◌, List, [], ◌∷◌, ◌++◌, length, All, sym, refl, ap, ◌∙◌, append-nil, arith, inl, inr}
use Rattle.std.proofs.lemmas.Bool.Decides.{nat_tests}
use Rattle.std.proofs.lemmas.Bool.{cases_Bool, cond-false, ne_eqb}
use Rattle.std.proofs.lemmas.List.Elements.{All-head, All-tail}
use Rattle.form_urlencoded.specs.Form.{onto_first, split}
use Rattle.html_urls.specs.Components.{component_at, is_written_byte}
use Rattle.html_urls.specs.declared.place.UrlPlace.{UrlPlace}
use Rattle.html_urls.specs.Inputs.{IsNot}
use Rattle.html_urls.specs.Pieces.{filled_pieces, markup_pieces, onto_markup, onto_piece, pieces}
use Rattle.html_urls.specs.Slots.{Given, Markup, Slot, url_of}
use Rattle.html_urls.proofs.Components.{written_without}
use Rattle.html_urls.proofs.Splits.{split_some}

-- ---- pieces of bytes

abbrev pub onto_front : List ℕ → List (List ℕ) → List (List ℕ)
onto_front front [] = front ∷ []
onto_front front (piece ∷ more) = (front ++ piece) ∷ more

abbrev joined : List (List ℕ) → List (List ℕ) → List (List ℕ)
joined [] later = later
joined (piece ∷ []) later = onto_front piece later
joined (piece ∷ next ∷ more) later = piece ∷ joined (next ∷ more) later

pub onto_nothing : (later : List (List ℕ)) → 0 < length later → onto_front [] later ≡ later
onto_nothing later some = grind (arith, nat_tests)

onto_once_more : (b : ℕ) (front : List ℕ) (later : List (List ℕ)) → onto_first b (onto_front front later) ≡ onto_front (b ∷ front) later
onto_once_more b front later = grind (arith, nat_tests)

pub split_front : (mark : ℕ) (xs ys : List ℕ) → All (IsNot mark) xs → split mark (xs ++ ys) ≡ onto_front xs (split mark ys)
unfolding split
split_front mark [] ys none = sym (onto_nothing (split mark ys) (split_some mark ys))
split_front mark (x ∷ xs) ys none =
    cond-false _ _ _ (ne_eqb x mark (All-head (IsNot mark) x xs none))
    ∙ ap (onto_first x) (split_front mark xs ys (All-tail (IsNot mark) x xs none))
    ∙ onto_once_more x xs (split mark ys)

empty_first : (pieces later : List (List ℕ)) → 0 < length pieces → [] ∷ joined pieces later ≡ joined ([] ∷ pieces) later
empty_first pieces later some = grind (arith, nat_tests)

onto_joined : (b : ℕ) (pieces later : List (List ℕ)) → 0 < length pieces → onto_first b (joined pieces later) ≡ joined (onto_first b pieces) later
onto_joined b pieces later some = grind (arith, nat_tests)

split_joins : (mark : ℕ) (xs ys : List ℕ) → split mark (xs ++ ys) ≡ joined (split mark xs) (split mark ys)
unfolding split
split_joins mark [] ys = sym (onto_nothing (split mark ys) (split_some mark ys))
split_joins mark (x ∷ xs) ys =
    let later = split_joins mark xs ys in
    elim (cases_Bool (x == mark)) [
      | inl here ↦ rw here (ap (λ l. [] ∷ l) later ∙ empty_first (split mark xs) (split mark ys) (split_some mark xs))
      | inr other ↦ rw other (ap (onto_first x) later ∙ onto_joined x (split mark xs) (split mark ys) (split_some mark xs))
    ]

-- ---- pieces of parts

-- pieces of markup, of which the last goes on in the first of the others
abbrev pub onto_pieces : List (List ℕ) → List (List Given) → List (List Given)
onto_pieces [] later = later
onto_pieces (bytes ∷ []) later = onto_piece (Markup bytes) later
onto_pieces (bytes ∷ next ∷ more) later = (Markup bytes ∷ []) ∷ onto_pieces (next ∷ more) later

empty_before : (l : List (List ℕ)) (later : List (List Given)) → 0 < length l → (Markup [] ∷ []) ∷ onto_pieces l later ≡ onto_pieces ([] ∷ l) later
empty_before l later some = grind (arith, nat_tests)

one_before : (b : ℕ) (l : List (List ℕ)) (later : List (List Given)) → 0 < length l → onto_markup b (onto_pieces l later) ≡ onto_pieces (onto_first b l) later
one_before b l later some = grind (arith, nat_tests)

pub pieces_are : (mark : ℕ) (bytes : List ℕ) (later : List (List Given)) → markup_pieces mark bytes later ≡ onto_pieces (split mark bytes) later
unfolding split
pieces_are mark [] later = refl
pieces_are mark (b ∷ bytes) later =
    let more = pieces_are mark bytes later in
    elim (cases_Bool (b == mark)) [
      | inl here ↦ rw here (ap (λ l. (Markup [] ∷ []) ∷ l) more ∙ empty_before (split mark bytes) later (split_some mark bytes))
      | inr other ↦ rw other (ap (onto_markup b) more ∙ one_before b (split mark bytes) later (split_some mark bytes))
    ]

onto_piece_some : (part : Given) (l : List (List Given)) → 0 < length (onto_piece part l)
onto_piece_some part l = grind (arith, nat_tests)

onto_pieces_some : (l : List (List ℕ)) (later : List (List Given)) → 0 < length later → 0 < length (onto_pieces l later)
onto_pieces_some [] later some = some
onto_pieces_some (bytes ∷ []) later some = onto_piece_some (Markup bytes) later
onto_pieces_some (bytes ∷ next ∷ more) later some = omega arith

pub pieces_some : (mark : ℕ) (parts : List Given) → 0 < length (pieces mark parts)
pieces_some mark [] = omega arith
pieces_some mark (Markup bytes ∷ parts) = rw (pieces_are mark bytes (pieces mark parts)) (onto_pieces_some (split mark bytes) (pieces mark parts) (pieces_some mark parts))
pieces_some mark (Slot at ∷ parts) = onto_piece_some (Slot at) (pieces mark parts)

markup_filled : (bytes : List ℕ) (l : List (List Given)) (texts : List (List ℕ)) → 0 < length l → onto_front bytes (filled_pieces l texts) ≡ filled_pieces (onto_piece (Markup bytes) l) texts
markup_filled bytes l texts some = grind (arith, nat_tests)

all_filled : (strings : List (List ℕ)) (l : List (List Given)) (texts : List (List ℕ)) → 0 < length l → joined strings (filled_pieces l texts) ≡ filled_pieces (onto_pieces strings l) texts
all_filled [] l texts some = refl
all_filled (bytes ∷ []) l texts some = markup_filled bytes l texts some
all_filled (bytes ∷ next ∷ more) l texts some =
    let later = all_filled (next ∷ more) l texts some in
    let alone = sym (append-nil bytes) in
    λ i. alone i ∷ later i

no_text : (at : UrlPlace) (l : List (List Given)) → 0 < length l → filled_pieces l [] ≡ filled_pieces (onto_piece (Slot at) l) []
no_text at l some = grind (arith, nat_tests)

one_text : (at : UrlPlace) (text : List ℕ) (l : List (List Given)) (texts : List (List ℕ)) → 0 < length l → onto_front (component_at at text) (filled_pieces l texts) ≡ filled_pieces (onto_piece (Slot at) l) (text ∷ texts)
one_text at text l texts some = grind (arith, nat_tests)

-- THE PIECES LAW
pub pieces_law : (mark : ℕ) → is_written_byte mark ≡ false → (parts : List Given) (texts : List (List ℕ)) → split mark (url_of parts texts) ≡ filled_pieces (pieces mark parts) texts
unfolding split
pieces_law mark other [] texts = refl
pieces_law mark other (Markup bytes ∷ parts) texts =
    split_joins mark bytes (url_of parts texts) ∙ ap (joined (split mark bytes)) (pieces_law mark other parts texts)
    ∙ all_filled (split mark bytes) (pieces mark parts) texts (pieces_some mark parts)
    ∙ sym (ap (λ l. filled_pieces l texts) (pieces_are mark bytes (pieces mark parts)))
pieces_law mark other (Slot at ∷ parts) [] = pieces_law mark other parts [] ∙ no_text at (pieces mark parts) (pieces_some mark parts)
pieces_law mark other (Slot at ∷ parts) (text ∷ texts) =
    split_front mark (component_at at text) (url_of parts texts) (written_without mark other at text)
    ∙ ap (onto_front (component_at at text)) (pieces_law mark other parts texts)
    ∙ one_text at text (pieces mark parts) texts (pieces_some mark parts)
