-- Parts are split and percent-encoded as the URL of any texts is.
use Rattle.std.proofs.Common.{◌≡◌, ℕ, true, false, not, ◌==◌, List, [], ◌∷◌, ◌++◌, Option, Some, None, option_map, unwrap_or, is_some, sym, refl, ap, ◌∙◌, append-nil, arith, inl, inr}
use Rattle.std.proofs.lemmas.Bool.Decides.{nat_tests}
use Rattle.std.proofs.lemmas.Bool.{cases_Bool}
use Rattle.percent_encoding.specs.declared.ascii_set.AsciiSet.{AsciiSet}
use Rattle.percent_encoding.specs.AsciiSet.{contains}
use Rattle.percent_encoding.specs.Percent.{percent_encode}
use Rattle.percent_encoding.proofs.PercentLemmas.{percent_encode-append, percent_encode-nil, percent_encode_unchanged}
use Rattle.url.specs.declared.sets.TheConstants.{FRAGMENT, OPAQUE_PATH, PATH, QUERY, SPECIAL_QUERY}
use Rattle.url.specs.declared.scheme.SchemeType.{SchemeType}
use Rattle.url.specs.declared.scheme.SchemeType.TheVariants.{File, SpecialNotFile, NotSpecial}
use Rattle.url.specs.Input.{split_once}
use Rattle.url.specs.Parts.{query_set}
use Rattle.url.proofs.SetLemmas.{encoded_is_kept, is_escape_byte, outside_pass, passing_outside}
use Rattle.html_urls.specs.declared.component.TheConstants.{ADDRESS, COMPONENT}
use Rattle.html_urls.specs.declared.place.UrlPlace.{UrlPlace}
use Rattle.html_urls.specs.declared.place.UrlPlace.TheVariants.{Path, OpaquePath, Query, Fragment}
use Rattle.html_urls.specs.Components.{component_at, is_written_byte}
use Rattle.html_urls.specs.Shapes.{encoded, path_set, from_slot, onto_halves, split_markup, split_parts, texts_after}
use Rattle.html_urls.specs.Slots.{Given, Markup, Slot, url_of}
use Rattle.html_urls.proofs.Components.{written_without}
use Rattle.html_urls.proofs.Splits.{split_clear, split_found, split_whole}

-- ---- splitting

abbrev pub Halves : Type 0
Halves = List Given × Option (List Given)

-- the same by the bytes, split
abbrev pub split_by : List ℕ → List ℕ × Option (List ℕ) → List Given → Halves → Halves
split_by bytes (before, Some after) parts halves = (Markup before ∷ [], Some (Markup after ∷ parts))
split_by bytes (before, None) parts halves = (Markup bytes ∷ halves.0, halves.1)

pub split_is : (mark : ℕ) (bytes : List ℕ) (parts : List Given) (halves : Halves) → split_markup mark bytes parts halves ≡ split_by bytes (split_once mark bytes) parts halves
unfolding split_once
split_is mark [] parts halves = refl
split_is mark (b ∷ bytes) parts halves =
    elim (cases_Bool (b == mark)) [ inl here ↦ rw here refl | inr other ↦ rw other (ap (onto_halves b) (split_is mark bytes parts halves) ∙ one_more (split_once mark bytes)) ]
  where
    one_more : (split : List ℕ × Option (List ℕ)) → onto_halves b (split_by bytes split parts halves) ≡ split_by (b ∷ bytes) (b ∷ split.0, split.1) parts halves
    one_more split = grind (arith, nat_tests)

-- markup in which the mark stands, and in which it does not
pub data MarkupSplit (mark : ℕ) (bytes : List ℕ) (parts : List Given) : Type 0 where
  found : (before after : List ℕ) → (split_once mark bytes).1 ≡ Some after → split_parts mark (Markup bytes ∷ parts) ≡ (Markup before ∷ [], Some (Markup after ∷ parts)) → ((ys : List ℕ) → split_once mark (bytes ++ ys) ≡ (before, Some (after ++ ys))) → MarkupSplit mark bytes parts
  clear : split_parts mark (Markup bytes ∷ parts) ≡ (Markup bytes ∷ (split_parts mark parts).0, (split_parts mark parts).1) → ((ys : List ℕ) → split_once mark (bytes ++ ys) ≡ (bytes ++ (split_once mark ys).0, (split_once mark ys).1)) → MarkupSplit mark bytes parts

pub markup_split : (mark : ℕ) (bytes : List ℕ) (parts : List Given) → MarkupSplit mark bytes parts
markup_split mark bytes parts = by_mark (split_once mark bytes).1 refl
  where
    halves_are : (o : Option (List ℕ)) → (split_once mark bytes).1 ≡ o → split_parts mark (Markup bytes ∷ parts) ≡ split_by bytes ((split_once mark bytes).0, o) parts (split_parts mark parts)
    halves_are o is = split_is mark bytes parts (split_parts mark parts) ∙ ap (λ o. split_by bytes ((split_once mark bytes).0, o) parts (split_parts mark parts)) is

    by_mark : (o : Option (List ℕ)) → (split_once mark bytes).1 ≡ o → MarkupSplit mark bytes parts
    by_mark (Some after) is = found (split_once mark bytes).0 after is (halves_are (Some after) is) (λ ys. split_found mark bytes ys after is)
    by_mark None is = clear (halves_are None is) (λ ys. split_whole mark bytes ys (ap is_some is))

abbrev pub halves_of : Halves → List (List ℕ) → List ℕ × Option (List ℕ)
halves_of halves texts = (url_of halves.0 texts, option_map (λ parts. url_of parts (texts_after halves.0 texts)) halves.1)

pub split_filled : (mark : ℕ) → is_written_byte mark ≡ false → (parts : List Given) (texts : List (List ℕ)) → split_once mark (url_of parts texts) ≡ halves_of (split_parts mark parts) texts
unfolding split_once
split_filled mark other [] texts = refl
split_filled mark other (Markup bytes ∷ parts) texts =
    elim (markup_split mark bytes parts) [
      | found before after is halves whole ↦ rw (whole (url_of parts texts), halves) (ap (λ l. (l, Some (after ++ url_of parts texts))) (sym (append-nil before)))
      | clear halves whole ↦ rw (whole (url_of parts texts), halves, split_filled mark other parts texts) refl
    ]
split_filled mark other (Slot at ∷ parts) [] = split_filled mark other parts []
split_filled mark other (Slot at ∷ parts) (text ∷ texts) =
    split_clear mark (component_at at text) (url_of parts texts) (written_without mark other at text) ∙ ap (λ r. (component_at at text ++ r.0, r.1)) (split_filled mark other parts texts)

-- ---- percent-encoding

-- the set escapes no byte that a text is written with
abbrev pub Keeps : AsciiSet → Type 0
Keeps set = (at : UrlPlace) (text : List ℕ) → percent_encode set (component_at at text) ≡ component_at at text

keeps : (set : AsciiSet) → outside_pass COMPONENT (λ b. not (contains set b)) ≡ true → outside_pass ADDRESS (λ b. not (contains set b)) ≡ true → passing_outside is_escape_byte set ≡ true → Keeps set
keeps set within address_within escapes at text = by_place at
  where
    of_component : percent_encode set (component_at Path text) ≡ component_at Path text
    of_component = percent_encode_unchanged set (component_at Path text) (encoded_is_kept COMPONENT set within escapes text)

    by_place : (at : UrlPlace) → percent_encode set (component_at at text) ≡ component_at at text
    by_place Path = of_component
    by_place OpaquePath = percent_encode_unchanged set (component_at OpaquePath text) (encoded_is_kept ADDRESS set address_within escapes text)
    by_place Query = of_component
    by_place Fragment = of_component

pub path_keeps : (kind : SchemeType) → Keeps (path_set kind)
path_keeps File = keeps PATH refl refl refl
path_keeps SpecialNotFile = keeps PATH refl refl refl
path_keeps NotSpecial = keeps OPAQUE_PATH refl refl refl

pub fragment_keeps : Keeps FRAGMENT
fragment_keeps = keeps FRAGMENT refl refl refl

pub query_keeps : (kind : SchemeType) → Keeps (query_set kind)
query_keeps File = keeps SPECIAL_QUERY refl refl refl
query_keeps SpecialNotFile = keeps SPECIAL_QUERY refl refl refl
query_keeps NotSpecial = keeps QUERY refl refl refl

pub encode_filled : (set : AsciiSet) → Keeps set → (parts : List Given) (texts : List (List ℕ)) → percent_encode set (url_of parts texts) ≡ url_of (encoded set parts) texts
encode_filled set kept [] texts = percent_encode-nil set
encode_filled set kept (Markup bytes ∷ parts) texts = percent_encode-append set bytes (url_of parts texts) ∙ ap (λ l. percent_encode set bytes ++ l) (encode_filled set kept parts texts)
encode_filled set kept (Slot at ∷ parts) [] = encode_filled set kept parts []
encode_filled set kept (Slot at ∷ parts) (text ∷ texts) =
    percent_encode-append set (component_at at text) (url_of parts texts)
    ∙ ap (λ l. l ++ percent_encode set (url_of parts texts)) (kept at text)
    ∙ ap (λ l. component_at at text ++ l) (encode_filled set kept parts texts)

-- ---- the texts that are left

pub texts_encoded : (set : AsciiSet) (parts : List Given) (texts : List (List ℕ)) → texts_after (encoded set parts) texts ≡ texts_after parts texts
texts_encoded set [] texts = refl
texts_encoded set (Markup bytes ∷ parts) texts = texts_encoded set parts texts
texts_encoded set (Slot at ∷ parts) [] = texts_encoded set parts []
texts_encoded set (Slot at ∷ parts) (text ∷ texts) = texts_encoded set parts texts

pub texts_from_slot : (parts : List Given) (texts : List (List ℕ)) → texts_after (from_slot parts) texts ≡ texts_after parts texts
texts_from_slot [] texts = refl
texts_from_slot (Markup bytes ∷ parts) texts = texts_from_slot parts texts
texts_from_slot (Slot at ∷ parts) texts = refl

-- those behind the two halves are those behind the whole
pub texts_split : (mark : ℕ) (parts : List Given) (texts : List (List ℕ)) → texts_after (unwrap_or (split_parts mark parts).1 []) (texts_after (split_parts mark parts).0 texts) ≡ texts_after parts texts
texts_split mark [] texts = refl
texts_split mark (Markup bytes ∷ parts) texts = elim (markup_split mark bytes parts) [ found before after is halves whole ↦ rw halves refl | clear halves whole ↦ rw halves (texts_split mark parts texts) ]
texts_split mark (Slot at ∷ parts) [] = texts_split mark parts []
texts_split mark (Slot at ∷ parts) (text ∷ texts) = texts_split mark parts texts
