-- A text in the query.
use Rattle.std.proofs.Common.{◌≡◌, ℕ, List, [], ◌++◌, Option, Some, None, option_map, sym, refl, ap, ◌∙◌, append_assoc, append-nil}
use Rattle.percent_encoding.specs.Percent.{percent_encode}
use Rattle.url.specs.declared.sets.TheConstants.{FRAGMENT, QUERY, SPECIAL_QUERY}
use Rattle.url.specs.declared.scheme.SchemeType.{SchemeType}
use Rattle.url.specs.declared.scheme.SchemeType.TheVariants.{File, SpecialNotFile, NotSpecial}
use Rattle.url.specs.Input.{split_once}
use Rattle.url.specs.Parts.{Parts, kind_of, query_set}
use Rattle.url.specs.Parser.{parse_by_scheme, split_scheme, parse_url}
use Rattle.html_urls.specs.declared.component.TheConstants.{COMPONENT}
use Rattle.html_urls.specs.Components.{component}
use Rattle.html_urls.specs.Heads.{on_ok}
use Rattle.html_urls.specs.Inputs.{kept, kept_rest}
use Rattle.html_urls.specs.Parts.Queries.{EndsInQuery, query_goes_on}
use Rattle.html_urls.proofs.Components.{component_without, encode_around}
use Rattle.html_urls.proofs.Tails.{tails_go_on, with_tails}
use Rattle.html_urls.proofs.Splits.{kept_around, split_found, split_clear, split_whole, some_value}

encode_query : (kind : SchemeType) (before text after : List ℕ) → percent_encode (query_set kind) (before ++ component text ++ after) ≡ percent_encode (query_set kind) before ++ component text ++ percent_encode (query_set kind) after
encode_query File = encode_around COMPONENT SPECIAL_QUERY refl refl
encode_query SpecialNotFile = encode_around COMPONENT SPECIAL_QUERY refl refl
encode_query NotSpecial = encode_around COMPONENT QUERY refl refl

-- THE QUERY LAW: the URL is that of the front, with a query that goes on, and the fragment of the rest
pub query_law : (base : Option Parts) (front text rest : List ℕ) → EndsInQuery front →
    parse_url base (front ++ component text ++ rest) ≡ on_ok (query_goes_on text rest) (parse_url base front)
unfolding parse_url split_once
query_law base front text rest place =
    let c = component text in
    let before = kept front in
    let tail = split_once 35 (kept_rest rest) in
    let whole_hash =
    ap (split_once 35) (kept_around front text rest place.ends)
    ∙ split_whole 35 before (c ++ kept_rest rest) place.no_fragment
    ∙ ap (λ r. (before ++ r.0, r.1)) (split_clear 35 c (kept_rest rest) (component_without 35 refl text)) in
    let front_hash : split_once 35 before ≡ (before, None) =
    ap (split_once 35) (sym (append-nil before)) ∙ split_whole 35 before [] place.no_fragment ∙ ap (λ x. (x, None)) (append-nil before) in
    let (q, found) = some_value (split_once 63 before).1 place.query in
    let path = (split_once 63 before).0 in
    let whole_question = split_found 63 before (c ++ tail.0) q found in
    let front_question : split_once 63 before ≡ (path, Some q) = λ i. (path, found i) in
    let read = λ (r : List ℕ × Option (List ℕ)) (fragment : Option (List ℕ)). parse_by_scheme (split_scheme r.0) base r.0 r.1 fragment in
    let read_hash = λ (r : List ℕ × Option (List ℕ)). read (split_once 63 r.0) r.1 in
    let whole = ap read_hash whole_hash ∙ ap (λ r. read r tail.1) whole_question in
    let alone = ap read_hash front_hash ∙ ap (λ r. read r None) front_question in
    let goes_on : (url : Parts) → query_goes_on text rest (with_tails (Some q) None url) ≡ with_tails (Some (q ++ (c ++ tail.0))) tail.1 url =
    λ url. ap (λ x. record url { query = Some x; fragment = option_map (percent_encode FRAGMENT) tail.1 })
    (sym (encode_query (kind_of url) q text tail.0) ∙ ap (percent_encode (query_set (kind_of url))) (append_assoc q c tail.0)) in
    whole
    ∙ tails_go_on (split_scheme path) base path (Some q) (Some (q ++ (c ++ tail.0))) None tail.1 (query_goes_on text rest) (refl, λ none. absurd (cc)) goes_on
    ∙ sym (ap (on_ok (query_goes_on text rest)) alone)
