-- The pairs of a URL with slots are those of the query that its parts have.
use Rattle.std.proofs.Common.{◌≡◌, ℕ, true, ◌&&◌, List, [], ◌∷◌, Option, Some, is_some, IfOk, unwrap_or, option_map, All, sym, refl, ap, ◌∙◌, subst, arith}
use Rattle.std.specs.List.{list_all}
use Rattle.std.proofs.lemmas.Bool.{and_parts}
use Rattle.std.proofs.lemmas.Bool.Decides.{nat_tests}
use Rattle.std.proofs.lemmas.List.Elements.{All-append, All-cons, All-nil, All-weaker}
use Rattle.form_urlencoded.specs.Form.{parse}
use Rattle.percent_encoding.specs.Percent.{percent_encode}
use Rattle.percent_encoding.proofs.PercentLemmas.{IsByte}
use Rattle.url.specs.Parts.{Parts, kind_of, query_set}
use Rattle.url.specs.Parser.{Parsed, parse_url}
use Rattle.html_urls.specs.Components.{component_at, is_written_byte}
use Rattle.html_urls.specs.declared.place.UrlPlace.{UrlPlace}
use Rattle.html_urls.specs.Decoded.{has_pairs, pairs_of, query_pairs}
use Rattle.html_urls.specs.Hosts.{IsWebBase}
use Rattle.html_urls.specs.Pieces.{HasMarkup, has_markup, pieces}
use Rattle.html_urls.specs.Shapes.{before_fragment_parts, path_parts, query_parts, texts_after}
use Rattle.html_urls.specs.Slots.{FillUrl, Given, Markup, Slot, url_of}
use Rattle.html_urls.proofs.Bytes.{AllBytes, IsOfBytes}
use Rattle.html_urls.proofs.Components.{written_bytes}
use Rattle.html_urls.proofs.Paths.Opening.{all_left, all_right}
use Rattle.html_urls.proofs.Shapes.Encoded.Pairs.{parse_encoded, query_keeps_form}
use Rattle.html_urls.proofs.Shapes.Encoded.Splits.{all_halves}
use Rattle.html_urls.proofs.Shapes.Closing.{query_closes}
use Rattle.html_urls.proofs.Shapes.FormSlots.{query_form}
use Rattle.html_urls.proofs.Shapes.Fills.{split_filled}
use Rattle.html_urls.proofs.Shapes.Filling.{filled_is}
use Rattle.html_urls.proofs.Shapes.Pairs.{bytes_after, pairs_law}
use Rattle.html_urls.proofs.Shapes.PlainParts.{plain_bytes_only, plain_closes}
use Rattle.html_urls.proofs.Shapes.ShapeLaw.{filled_plain, shape_law}
use Rattle.html_urls.proofs.Tails.{query_or}

-- the URL has the query of its parts with its texts, percent-encoded
abbrev OwnQuery : List ℕ → Parts → Type 0
OwnQuery query url = url.query ≡ Some (percent_encode (query_set (kind_of url)) query)

own_query : (base : Option Parts) (parts : List Given) (texts : List (List ℕ)) (own : List Given) → IsWebBase base → FillUrl parts texts → query_parts parts ≡ Some own → IfOk (parse_url base (url_of parts texts)) (OwnQuery (url_of own (texts_after (path_parts parts) texts)))
own_query base parts texts own web fills is = grind (arith, nat_tests, shape_law, filled_is, query_or, option_map)

pub where_ok : (parsed : Parsed Parts) (P Q : Parts → Type 0) → ((url : Parts) → P url → Q url) → IfOk parsed P → IfOk parsed Q
where_ok parsed P Q more is = grind (arith, nat_tests)

-- what is written is of bytes, and so are markup of bytes and texts
small_text : (at : UrlPlace) (text : List ℕ) → All IsByte (component_at at text)
small_text at text = All-weaker (λ b. is_written_byte b ≡ true) IsByte (λ b passes. grind (arith, nat_tests)) (component_at at text) (written_bytes at text)

pub filled_bytes : (parts : List Given) (texts : List (List ℕ)) → IsOfBytes parts → All IsByte (url_of parts texts)
filled_bytes [] texts bytes = bytes
filled_bytes (Markup markup ∷ parts) texts bytes =
    All-append IsByte markup (url_of parts texts) (all_left IsByte markup (url_of parts []) bytes) (filled_bytes parts texts (all_right IsByte markup (url_of parts []) bytes))
filled_bytes (Slot at ∷ parts) [] bytes = filled_bytes parts [] bytes
filled_bytes (Slot at ∷ parts) (text ∷ texts) bytes = All-append IsByte (component_at at text) (url_of parts texts) (small_text at text) (filled_bytes parts texts bytes)

no_texts : (parts : List Given) → texts_after parts [] ≡ []
no_texts [] = refl
no_texts (Markup bytes ∷ parts) = no_texts parts
no_texts (Slot at ∷ parts) = no_texts parts

-- the path and the query of markup of bytes
before_bytes : (parts : List Given) → IsOfBytes parts → IsOfBytes (before_fragment_parts parts)
before_bytes parts bytes = subst (λ (r : List ℕ × Option (List ℕ)). All IsByte r.0) (split_filled 35 refl parts []) (all_halves IsByte 35 (url_of parts []) bytes).0

pub path_bytes : (parts : List Given) → IsOfBytes parts → IsOfBytes (path_parts parts)
path_bytes parts bytes =
    let before = before_fragment_parts parts in
    subst (λ (r : List ℕ × Option (List ℕ)). All IsByte r.0) (split_filled 63 refl before []) (all_halves IsByte 63 (url_of before []) (before_bytes parts bytes)).0

query_bytes : (parts own : List Given) → query_parts parts ≡ Some own → IsOfBytes parts → IsOfBytes own
query_bytes parts own is bytes =
    let before = before_fragment_parts parts in
    let second = subst (λ (r : List ℕ × Option (List ℕ)). All IsByte (unwrap_or r.1 [])) (split_filled 63 refl before []) (all_halves IsByte 63 (url_of before []) (before_bytes parts bytes)).1 in
    subst (λ texts. All IsByte (url_of own texts)) (no_texts (path_parts parts))
    (subst (λ (o : Option (List Given)). All IsByte (unwrap_or (option_map (λ query. url_of query (texts_after (path_parts parts) [])) o) [])) is second)

all_markup : (l : List (List Given)) → list_all has_markup l ≡ true → All HasMarkup l
all_markup [] all = All-nil HasMarkup
all_markup (piece ∷ more) all = let both = and_parts (has_markup piece) (list_all has_markup more) all in All-cons HasMarkup piece more both.0 (all_markup more both.1)

-- the parts have a query whose strings are pairs
found_query : (o : Option (List Given)) → (is_some o && list_all has_markup (pieces 38 (unwrap_or o []))) ≡ true → (own : List Given) × (o ≡ Some own) × All HasMarkup (pieces 38 own)
found_query o has = grind (arith, nat_tests, all_markup)

-- THE PAIRS OF A URL
pub url_pairs : (base : Option Parts) (parts : List Given) (texts : List (List ℕ)) → IsWebBase base → FillUrl parts texts → AllBytes texts → has_pairs parts ≡ true →
    IfOk (parse_url base (url_of parts texts)) (λ url. parse (unwrap_or url.query []) ≡ query_pairs parts texts)
url_pairs base parts texts web fills bytes has =
    let plain = filled_plain parts texts fills in
    let (own, is, all) = found_query (query_parts parts) has in
    let left = texts_after (path_parts parts) texts in
    where_ok (parse_url base (url_of parts texts)) (OwnQuery (url_of own left)) (λ url. parse (unwrap_or url.query []) ≡ query_pairs parts texts)
    (λ url query.
    ap (λ q. parse (unwrap_or q [])) query
    ∙ parse_encoded (query_set (kind_of url)) (query_keeps_form (kind_of url)) (url_of own left) (filled_bytes own left (query_bytes parts own is (plain_bytes_only parts plain)))
    ∙ pairs_law own left (bytes_after (path_parts parts) texts bytes) all (query_form parts own texts fills is) (query_closes parts own (plain_closes parts plain) is)
    ∙ sym (ap (λ (o : Option (List Given)). pairs_of (pieces 38 (unwrap_or o [])) left) is))
    (own_query base parts texts own web fills is)
