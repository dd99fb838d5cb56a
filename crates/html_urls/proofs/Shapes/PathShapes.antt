-- The shape of parts whose first slot stands in the path.
use Rattle.std.proofs.Common.{◌≡◌, ℕ, false, List, [], ◌∷◌, ◌++◌, Option, None, Ok, Err, IfOk, is_some, option_map, sym, refl, ap, ◌∙◌, append_assoc, append-nil, arith}
use Rattle.std.proofs.lemmas.Bool.Decides.{nat_tests}
use Rattle.percent_encoding.specs.Percent.{percent_encode}
use Rattle.percent_encoding.proofs.PercentLemmas.{percent_encode-append}
use Rattle.percent_encoding.specs.declared.ascii_set.AsciiSet.{AsciiSet}
use Rattle.url.specs.declared.sets.TheConstants.{FRAGMENT}
use Rattle.url.specs.Head.{without_tail}
use Rattle.url.specs.declared.scheme.SchemeType.{SchemeType}
use Rattle.url.specs.Input.{split_once}
use Rattle.url.specs.Parts.{Parts, kind_of, query_set}
use Rattle.url.specs.Parser.{Parsed, and_then, parse_url}
use Rattle.html_urls.specs.Components.{component_at}
use Rattle.html_urls.specs.declared.place.UrlPlace.{UrlPlace}
use Rattle.html_urls.specs.Heads.{on_ok}
use Rattle.html_urls.specs.Inputs.{kept_rest}
use Rattle.html_urls.specs.Parts.Rests.{fragment_of, path_of, query_of}
use Rattle.html_urls.specs.Shapes.{before_fragment_parts, fill, from_slot, front_of, path_parts, path_set, shape_from, split_parts}
use Rattle.html_urls.specs.Slots.{Given, Slot, url_of}
use Rattle.html_urls.proofs.Components.{written_without}
use Rattle.html_urls.proofs.Splits.{kept_nothing, kept_visible, split_clear, split_whole}
use Rattle.html_urls.proofs.Shapes.Fills.{Keeps, split_filled}
use Rattle.html_urls.proofs.Shapes.Filling.{filled_is, fragment_bytes, grown, query_bytes}
use Rattle.html_urls.proofs.Shapes.Fronts.{front_of_split, from_slot_split, url_of_front}
use Rattle.html_urls.proofs.Shapes.PlainParts.{ArePlain, url_visible}
use Rattle.html_urls.proofs.Tails.{query_or}
use Rattle.html_urls.proofs.Shapes.TailShapes.{HasThatShape, fragment_bytes_are, front_fragment, front_query, query_bytes_are}

pub split_none : (mark : ℕ) (xs : List ℕ) → is_some (split_once mark xs).1 ≡ false → (split_once mark xs).0 ≡ xs
unfolding split_once
split_none mark xs none = ap (λ l. (split_once mark l).0) (sym (append-nil xs)) ∙ ap (λ r. r.0) (split_whole mark xs [] none) ∙ append-nil xs

query_or_none : (kind : SchemeType) (query : Option (List ℕ)) → query_or kind query None ≡ option_map (percent_encode (query_set kind)) query
query_or_none kind query = grind (arith, nat_tests)

-- the rest behind the first slot is kept and split as its parts are
rest_split : (parts : List Given) (texts : List (List ℕ)) → ArePlain parts →
    (path_of (url_of parts texts) ≡ url_of (path_parts parts) texts) × (query_of (url_of parts texts) ≡ (split_once 63 (split_once 35 (url_of parts texts)).0).1) × (fragment_of (url_of parts texts) ≡ (split_once 35 (url_of parts texts)).1)
rest_split parts texts plain =
    let kept_is : kept_rest (url_of parts texts) ≡ url_of parts texts =
    ap kept_rest (sym (append-nil (url_of parts texts))) ∙ kept_visible (url_of parts texts) [] (url_visible parts texts plain) ∙ ap (λ l. url_of parts texts ++ l) kept_nothing ∙ append-nil (url_of parts texts) in (
      ap (λ k. (split_once 63 (split_once 35 k).0).0) kept_is ∙ ap (λ r. (split_once 63 r.0).0) (split_filled 35 refl parts texts) ∙ ap (λ r. r.0) (split_filled 63 refl (before_fragment_parts parts) texts),
      ap (λ k. (split_once 63 (split_once 35 k).0).1) kept_is,
      ap (λ k. (split_once 35 k).1) kept_is,
    )

-- what a URL becomes whose path goes on with a text and a rest, of which this set escapes the bytes
abbrev pub path_grown : AsciiSet → UrlPlace → List ℕ → List ℕ → Parts → Parts
path_grown set at text rest url = record url {
  path = url.path ++ component_at at text ++ percent_encode set (path_of rest);
  query = option_map (percent_encode (query_set (kind_of url))) (query_of rest);
  fragment = option_map (percent_encode FRAGMENT) (fragment_of rest);
}

-- the set is that of the URL, where there is one
abbrev pub HasSet : AsciiSet → Parsed Parts → Type 0
HasSet set parsed = IfOk parsed (λ url. path_set (kind_of url) ≡ set)

pub path_shape : (set : AsciiSet) (at : UrlPlace) (base : Option Parts) (parts later : List Given) (text : List ℕ) (texts : List (List ℕ)) → Keeps set → ArePlain later → from_slot parts ≡ Slot at ∷ later →
    is_some (front_fragment parts) ≡ false → is_some (front_query parts) ≡ false → parse_url base (front_of parts) ≡ on_ok without_tail (parse_url base (front_of parts)) → HasSet set (parse_url base (front_of parts)) →
    parse_url base (front_of parts ++ (component_at at text ++ url_of later texts)) ≡ on_ok (path_grown set at text (url_of later texts)) (parse_url base (front_of parts)) → HasThatShape base parts (text ∷ texts)
path_shape set at base parts later text texts kept later_plain from no_fragment no_query bare has goes =
    ap (parse_url base) whole ∙ goes ∙ by_front (parse_url base front) bare has
  where
    front : List ℕ
    front = front_of parts

    rest : List ℕ
    rest = url_of later texts

    before : List Given
    before = before_fragment_parts parts

    c : List ℕ
    c = component_at at text

    whole : url_of parts (text ∷ texts) ≡ front ++ (c ++ rest)
    whole = url_of_front parts (text ∷ texts) ∙ ap (λ l. front ++ url_of l (text ∷ texts)) from

    alone : (split_once 35 front).0 ≡ front
    alone = split_none 35 front no_fragment

    no_mark : is_some (split_once 63 front).1 ≡ false
    no_mark = ap (λ l. is_some (split_once 63 l).1) (sym alone) ∙ no_query

    from_is : from_slot (path_parts parts) ≡ Slot at ∷ path_parts later
    from_is =
        from_slot_split 63 before (ap (λ l. is_some (split_once 63 l).1) (front_of_split 35 parts) ∙ no_query)
        ∙ ap (λ l. (split_parts 63 l).0) (from_slot_split 35 parts no_fragment ∙ ap (λ l. (split_parts 35 l).0) from)

    path_is : c ++ percent_encode set (path_of rest) ≡ percent_encode set (url_of (from_slot (path_parts parts)) (text ∷ texts))
    path_is =
        ap (λ l. c ++ percent_encode set l) (rest_split later texts later_plain).0
        ∙ ap (λ l. l ++ percent_encode set (url_of (path_parts later) texts)) (sym (kept at text))
        ∙ sym (percent_encode-append set c (url_of (path_parts later) texts))
        ∙ ap (λ l. percent_encode set (url_of l (text ∷ texts))) (sym from_is)

    fragment_is : fragment_bytes parts (text ∷ texts) ≡ fragment_of rest
    fragment_is =
        fragment_bytes_are parts (text ∷ texts) ∙ ap (λ l. (split_once 35 l).1) whole
        ∙ ap (λ r. r.1) (split_whole 35 front (c ++ rest) no_fragment)
        ∙ ap (λ r. r.1) (split_clear 35 c rest (written_without 35 refl at text))
        ∙ sym (rest_split later texts later_plain).2

    before_is : url_of before (text ∷ texts) ≡ front ++ (c ++ (split_once 35 rest).0)
    before_is =
        ap (λ r. r.0) (sym (split_filled 35 refl parts (text ∷ texts))) ∙ ap (λ l. (split_once 35 l).0) whole
        ∙ ap (λ r. r.0) (split_whole 35 front (c ++ rest) no_fragment)
        ∙ ap (λ r. front ++ r.0) (split_clear 35 c rest (written_without 35 refl at text))

    query_is : query_bytes parts (text ∷ texts) ≡ query_of rest
    query_is =
        query_bytes_are parts (text ∷ texts) ∙ ap (λ l. (split_once 63 l).1) before_is
        ∙ ap (λ r. r.1) (split_whole 63 front (c ++ (split_once 35 rest).0) no_mark)
        ∙ ap (λ r. r.1) (split_clear 63 c (split_once 35 rest).0 (written_without 63 refl at text))
        ∙ sym (rest_split later texts later_plain).1

    goes_on_is : (url : Parts) → url.query ≡ None → path_set (kind_of url) ≡ set → path_grown set at text rest url ≡ grown parts (text ∷ texts) url
    goes_on_is url none own =
        let path =
        append_assoc url.path c (percent_encode set (path_of rest)) ∙ ap (λ l. url.path ++ l) path_is
        ∙ ap (λ s. url.path ++ percent_encode s (url_of (from_slot (path_parts parts)) (text ∷ texts))) (sym own) in
        let query =
        ap (option_map (percent_encode (query_set (kind_of url)))) (sym query_is)
        ∙ sym (query_or_none (kind_of url) (query_bytes parts (text ∷ texts)))
        ∙ ap (query_or (kind_of url) (query_bytes parts (text ∷ texts))) (sym none) in
        let fragment = ap (option_map (percent_encode FRAGMENT)) (sym fragment_is) in
        λ i. record url { path = path i; query = query i; fragment = fragment i }

    by_front : (parsed : Parsed Parts) → parsed ≡ on_ok without_tail parsed → HasSet set parsed → on_ok (path_grown set at text rest) parsed ≡ fill (and_then parsed (λ url. Ok (shape_from parts url))) (text ∷ texts)
    by_front (Ok url) bare own =
        let same : url ≡ without_tail url = cc in
        ap Ok (goes_on_is url (ap (λ u. u.query) same) own ∙ sym (filled_is parts (text ∷ texts) url))
    by_front (Err e) bare own = refl
