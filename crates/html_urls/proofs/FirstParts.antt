-- The URL of parts, by the first of them.
use Rattle.std.proofs.Common.{ℕ, ◌≡◌, ◌≤◌, ◌-◌, ◌==◌, List, [], ◌∷◌, ◌++◌, if◌then◌else◌, drop, length, map, get_or, refl, sym, ap, ◌∙◌, arith}
use Rattle.std.proofs.lemmas.Bool.Decides.{nat_tests}
use Rattle.std.specs.Borrow.{Bor}
use Rattle.html_urls.specs.Components.{component_at}
use Rattle.html_urls.specs.Slots.{bare, in_opaque, texts_of, url_of}
use Rattle.html_urls.specs.declared.parts.UrlPart.{UrlPart}
use Rattle.html_urls.specs.declared.parts.UrlPart.TheVariants as part
use Rattle.html_urls.specs.declared.place.UrlPlace.{UrlPlace}
use Rattle.html_urls.specs.declared.place.UrlPlace.TheVariants.{Path, OpaquePath}

first_of : (rest : List UrlPart) (first : UrlPart) → 1 ≤ length rest → first ≡ get_or rest 0 first → rest ≡ first ∷ drop 1 rest
first_of rest first some is = grind (arith, nat_tests)

pub markup_first : (opaque : ℕ) (rest : List UrlPart) (first : UrlPart) (markup : Bor (List ℕ)) (texts : List (List ℕ)) → 1 ≤ length rest → first ≡ get_or rest 0 first → first ≡ part.Markup markup →
    url_of (in_opaque opaque (map bare rest)) texts ≡ markup.now ++ url_of (in_opaque opaque (map bare (drop 1 rest))) texts
markup_first opaque rest first markup texts some there is =
    ap (λ l. url_of (in_opaque opaque (map bare l)) texts) (first_of rest first some there ∙ ap (λ p. p ∷ drop 1 rest) is)

pub slot_first : (opaque : ℕ) (rest : List UrlPart) (first : UrlPart) (texts more : List (List ℕ)) (text : List ℕ) → 1 ≤ length rest → first ≡ get_or rest 0 first → first ≡ part.Slot → texts ≡ text ∷ more →
    url_of (in_opaque opaque (map bare rest)) texts ≡ component_at (if opaque == 0 then Path else OpaquePath) text ++ url_of (in_opaque (opaque - 1) (map bare (drop 1 rest))) more
slot_first opaque rest first texts more text some there is texts_are =
    ap (λ l. url_of (in_opaque opaque (map bare l)) texts) (first_of rest first some there ∙ ap (λ p. p ∷ drop 1 rest) is)
    ∙ ap (λ t. url_of (in_opaque opaque (map bare (part.Slot ∷ drop 1 rest))) t) texts_are

pub slot_alone : (opaque : ℕ) (rest : List UrlPart) (first : UrlPart) → 1 ≤ length rest → first ≡ get_or rest 0 first → first ≡ part.Slot →
    url_of (in_opaque opaque (map bare rest)) [] ≡ url_of (in_opaque (opaque - 1) (map bare (drop 1 rest))) []
slot_alone opaque rest first some there is = ap (λ l. url_of (in_opaque opaque (map bare l)) []) (first_of rest first some there ∙ ap (λ p. p ∷ drop 1 rest) is)

pub first_again : (rest : List UrlPart) (other : UrlPart) → 1 ≤ length rest → get_or rest 0 other ≡ get_or rest 0 (get_or rest 0 other)
first_again [] other some = absurd (omega arith)
first_again (first ∷ rest) other some = refl

pub text_first : (texts : List (Bor (List ℕ))) (other : Bor (List ℕ)) → 1 ≤ length texts → texts_of texts ≡ (get_or texts 0 other).now ∷ texts_of (drop 1 texts)
text_first [] other some = absurd (omega arith)
text_first (first ∷ texts) other some = refl

-- of a slot and a text, where it is told in which place the slot stands
pub filled_first : (opaque : ℕ) (rest : List UrlPart) (first : UrlPart) (texts : List (Bor (List ℕ))) (other : Bor (List ℕ)) (place : UrlPlace) → 1 ≤ length rest →
    first ≡ get_or rest 0 first → first ≡ part.Slot → 1 ≤ length texts → place ≡ (if opaque == 0 then Path else OpaquePath) →
    url_of (in_opaque opaque (map bare rest)) (texts_of texts)
    ≡ component_at place (get_or texts 0 other).now ++ url_of (in_opaque (opaque - 1) (map bare (drop 1 rest))) (texts_of (drop 1 texts))
filled_first opaque rest first texts other place some there is text_there told =
    slot_first opaque rest first (texts_of texts) (texts_of (drop 1 texts)) (get_or texts 0 other).now some there is (text_first texts other text_there)
    ∙ ap (λ p. component_at p (get_or texts 0 other).now ++ url_of (in_opaque (opaque - 1) (map bare (drop 1 rest))) (texts_of (drop 1 texts))) (sym told)
