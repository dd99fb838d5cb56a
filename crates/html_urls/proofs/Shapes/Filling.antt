-- A shape with texts, from the URL of its front and the bytes of its parts.
use Rattle.std.proofs.Common.{◌≡◌, ℕ, List, [], ◌∷◌, ◌++◌, Option, Some, None, unwrap_or, option_map, sym, refl, ap, ◌∙◌, append-nil, arith}
use Rattle.std.proofs.lemmas.Bool.Decides.{nat_tests}
use Rattle.percent_encoding.specs.Percent.{percent_encode}
use Rattle.url.specs.declared.sets.TheConstants.{FRAGMENT}
use Rattle.url.specs.Parts.{Parts, kind_of, query_set}
use Rattle.html_urls.specs.Shapes.{before_fragment_parts, encoded, filled, fragment_parts, from_slot, path_parts, path_set, query_parts, query_shape, shape_from, texts_after}
use Rattle.html_urls.specs.Slots.{Given, Markup, url_of}
use Rattle.html_urls.proofs.Shapes.Fills.{encode_filled, fragment_keeps, path_keeps, query_keeps, texts_encoded, texts_from_slot, texts_split}
use Rattle.html_urls.proofs.Tails.{query_or}

-- the bytes of the query and of the fragment that the parts have
abbrev pub query_bytes : List Given → List (List ℕ) → Option (List ℕ)
query_bytes parts texts = option_map (λ own. url_of own (texts_after (path_parts parts) texts)) (query_parts parts)

abbrev pub fragment_bytes : List Given → List (List ℕ) → Option (List ℕ)
fragment_bytes parts texts = option_map (λ own. url_of own (texts_after (before_fragment_parts parts) texts)) (fragment_parts parts)

-- what the URL of the front becomes
abbrev pub grown : List Given → List (List ℕ) → Parts → Parts
grown parts texts url = record url {
  path = url.path ++ percent_encode (path_set (kind_of url)) (url_of (from_slot (path_parts parts)) texts);
  query = query_or (kind_of url) (query_bytes parts texts) url.query;
  fragment = option_map (percent_encode FRAGMENT) (fragment_bytes parts texts);
}

pub filled_is : (parts : List Given) (texts : List (List ℕ)) (url : Parts) → filled (shape_from parts url) texts ≡ grown parts texts url
filled_is parts texts url =
    let own = query_parts parts in
    let left = texts_after (shape_from parts url).path texts in
    let same : left ≡ texts_after (path_parts parts) texts = texts_encoded (path_set (kind_of url)) (from_slot (path_parts parts)) texts ∙ texts_from_slot (path_parts parts) texts in
    let last : texts_after (unwrap_or (query_shape url own) []) left ≡ texts_after (before_fragment_parts parts) texts =
    of_query own left ∙ ap (texts_after (unwrap_or own [])) same ∙ texts_split 63 (before_fragment_parts parts) texts in
    let path = ap (λ l. url.path ++ l) (sym (encode_filled (path_set (kind_of url)) (path_keeps (kind_of url)) (from_slot (path_parts parts)) texts)) in
    let query = ap (λ t. option_map (λ q. url_of q t) (query_shape url own)) same ∙ query_is own (texts_after (path_parts parts) texts) in
    let fragment = ap (λ t. option_map (λ f. url_of f t) (option_map (encoded FRAGMENT) (fragment_parts parts))) last ∙ fragment_is (fragment_parts parts) (texts_after (before_fragment_parts parts) texts) in
    λ i. record url { path = path i; query = query i; fragment = fragment i }
  where
    its_own : (old : Option (List ℕ)) (texts : List (List ℕ)) → option_map (λ q. url_of q texts) (option_map (λ query. Markup query ∷ []) old) ≡ old
    its_own (Some query) texts = ap Some (append-nil query)
    its_own None texts = refl

    query_is : (own : Option (List Given)) (texts : List (List ℕ)) → option_map (λ q. url_of q texts) (query_shape url own) ≡ query_or (kind_of url) (option_map (λ q. url_of q texts) own) url.query
    query_is (Some own) texts = ap Some (sym (encode_filled (query_set (kind_of url)) (query_keeps (kind_of url)) own texts))
    query_is None texts = its_own url.query texts

    of_query : (own : Option (List Given)) (texts : List (List ℕ)) → texts_after (unwrap_or (query_shape url own) []) texts ≡ texts_after (unwrap_or own []) texts
    of_query own texts = grind (arith, nat_tests, texts_encoded)

    fragment_is : (own : Option (List Given)) (texts : List (List ℕ)) → option_map (λ f. url_of f texts) (option_map (encoded FRAGMENT) own) ≡ option_map (percent_encode FRAGMENT) (option_map (λ f. url_of f texts) own)
    fragment_is own texts = grind (arith, nat_tests, encode_filled, fragment_keeps)
