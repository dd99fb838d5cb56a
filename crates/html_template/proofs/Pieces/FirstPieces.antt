-- The page of pieces, by the first of them.
use Rattle.std.proofs.Common.{ℕ, ◌≡◌, ◌≤◌, List, ◌∷◌, ◌++◌, drop, length, map, get_or, ap, ◌∙◌, arith}
use Rattle.std.proofs.lemmas.Bool.Decides.{nat_tests}
use Rattle.html_template.specs.Templates.{chunk_of, page, written}
use Rattle.html_template.specs.declared.stored.Stored.{Stored}
use Rattle.html_template.specs.declared.stored.Stored.TheVariants as stored
use Rattle.html_template.specs.declared.stored.StoredMarkup.{StoredMarkup}
use Rattle.html_template.specs.declared.stored.StoredSlot.{StoredSlot}

first_of : (rest : List Stored) (piece : Stored) → 1 ≤ length rest → piece ≡ get_or rest 0 piece → rest ≡ piece ∷ drop 1 rest
first_of rest piece some is = grind (arith, nat_tests)

pub markup_first : (rest : List Stored) (piece : Stored) (markup : StoredMarkup) (texts : List (List ℕ)) → 1 ≤ length rest → piece ≡ get_or rest 0 piece →
    piece ≡ stored.Markup markup → page (map chunk_of rest) texts ≡ markup.text.now ++ page (map chunk_of (drop 1 rest)) texts
markup_first rest piece markup texts some first is =
    ap (λ l. page (map chunk_of l) texts) (first_of rest piece some first ∙ ap (λ p. p ∷ drop 1 rest) is)

pub slot_first : (rest : List Stored) (piece : Stored) (slot : StoredSlot) (texts more : List (List ℕ)) (text : List ℕ) → 1 ≤ length rest → piece ≡ get_or rest 0 piece →
    piece ≡ stored.Slot slot → texts ≡ text ∷ more →
    page (map chunk_of rest) texts ≡ written slot.place slot.kind text ++ page (map chunk_of (drop 1 rest)) more
slot_first rest piece slot texts more text some first is texts_are =
    ap (λ l. page (map chunk_of l) texts) (first_of rest piece some first ∙ ap (λ p. p ∷ drop 1 rest) is)
    ∙ ap (λ t. page (chunk_of (stored.Slot slot) ∷ map chunk_of (drop 1 rest)) t) texts_are
