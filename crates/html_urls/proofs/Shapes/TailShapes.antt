-- The shape of parts that have no slot in their path.
use Rattle.std.proofs.Common.{◌≡◌, ℕ, true, List, [], ◌++◌, Option, Ok, Err, is_some, All, sym, refl, ap, ◌∙◌, append-nil, arith}
use Rattle.std.proofs.lemmas.Bool.Decides.{nat_tests}
use Rattle.percent_encoding.specs.Percent.{percent_encode}
use Rattle.percent_encoding.proofs.PercentLemmas.{percent_encode-nil}
use Rattle.url.specs.Input.{split_once}
use Rattle.url.specs.Parts.{Parts, kind_of}
use Rattle.url.specs.Parser.{Parsed, and_then, parse_by_scheme, parse_url, split_scheme}
use Rattle.html_urls.specs.Heads.{on_ok}
use Rattle.html_urls.specs.Inputs.{IsVisible}
use Rattle.html_urls.specs.Shapes.{before_fragment_parts, fill, from_slot, front_of, path_parts, path_set, shape_from, shape_of}
use Rattle.html_urls.specs.Slots.{Given, url_of}
use Rattle.html_urls.proofs.Splits.{split_found, some_value}
use Rattle.html_urls.proofs.Filled.FirstSlot.{kept_front, plain_visible}
use Rattle.html_urls.proofs.Shapes.Fills.{split_filled}
use Rattle.html_urls.proofs.Shapes.Filling.{filled_is, fragment_bytes, query_bytes}
use Rattle.html_urls.proofs.Shapes.Fronts.{front_of_split, no_slot_before, no_slot_still, url_of_front}
use Rattle.html_urls.proofs.Shapes.PlainParts.{ArePlain, front_plain, url_visible}
use Rattle.html_urls.proofs.Tails.{SameTails, other_tails, with_tails}

abbrev pub HasThatShape : Option Parts → List Given → List (List ℕ) → Type 0
HasThatShape base parts texts = parse_url base (url_of parts texts) ≡ fill (shape_of base parts) texts

-- ---- visible input is parsed as it is

abbrev read : Option Parts → List ℕ → Option (List ℕ) → Option (List ℕ) → Parsed Parts
read base path query fragment = parse_by_scheme (split_scheme path) base path query fragment

abbrev read_split : Option Parts → List ℕ × Option (List ℕ) → Parsed Parts
read_split base hash = read base (split_once 63 hash.0).0 (split_once 63 hash.0).1 hash.1

parsed : (base : Option Parts) (url : List ℕ) → All IsVisible url → parse_url base url ≡ read_split base (split_once 35 url)
unfolding parse_url
parsed base url visible = ap (λ k. read_split base (split_once 35 k)) (kept_front url visible)

-- ---- no slot in the path

-- the query and the fragment of the front
abbrev pub front_fragment : List Given → Option (List ℕ)
front_fragment parts = (split_once 35 (front_of parts)).1

abbrev pub front_query : List Given → Option (List ℕ)
front_query parts = (split_once 63 (split_once 35 (front_of parts)).0).1

front_before : (parts : List Given) → front_of (before_fragment_parts parts) ≡ (split_once 35 (front_of parts)).0
front_before parts = front_of_split 35 parts

whole_path : (parts : List Given) (texts : List (List ℕ)) → from_slot (path_parts parts) ≡ [] → url_of (path_parts parts) texts ≡ (split_once 63 (split_once 35 (front_of parts)).0).0
whole_path parts texts none =
    url_of_front (path_parts parts) texts ∙ ap (λ l. front_of (path_parts parts) ++ url_of l texts) none ∙ append-nil (front_of (path_parts parts))
    ∙ front_of_split 63 (before_fragment_parts parts) ∙ ap (λ l. (split_once 63 l).0) (front_before parts)

tail_shape : (base : Option Parts) (parts : List Given) (texts : List (List ℕ)) → ArePlain parts → from_slot (path_parts parts) ≡ [] →
    SameTails (front_query parts) (query_bytes parts texts) (front_fragment parts) (fragment_bytes parts texts) → HasThatShape base parts texts
tail_shape base parts texts plain none same =
    let query = query_bytes parts texts in
    let fragment = fragment_bytes parts texts in
    let front = front_of parts in
    let path = (split_once 63 (split_once 35 front).0).0 in
    parsed base (url_of parts texts) (url_visible parts texts plain)
    ∙ ap (read_split base) (split_filled 35 refl parts texts)
    ∙ ap (λ r. read base r.0 r.1 fragment) (split_filled 63 refl (before_fragment_parts parts) texts)
    ∙ ap (λ p. read base p query fragment) (whole_path parts texts none)
    ∙ other_tails (split_scheme path) base path (front_query parts) query (front_fragment parts) fragment same
    ∙ ap (on_ok (with_tails query fragment)) (sym (parsed base front (plain_visible front (front_plain parts plain))))
    ∙ by_front (parse_url base front)
  where
    no_more : (url : Parts) → url.path ≡ url.path ++ percent_encode (path_set (kind_of url)) (url_of (from_slot (path_parts parts)) texts)
    no_more url = sym (ap (λ l. url.path ++ percent_encode (path_set (kind_of url)) (url_of l texts)) none ∙ ap (λ l. url.path ++ l) (percent_encode-nil (path_set (kind_of url))) ∙ append-nil url.path)

    by_front : (front : Parsed Parts) → on_ok (with_tails (query_bytes parts texts) (fragment_bytes parts texts)) front ≡ fill (and_then front (λ url. Ok (shape_from parts url))) texts
    by_front (Ok url) = ap Ok (ap (λ p. record (with_tails (query_bytes parts texts) (fragment_bytes parts texts) url) { path = p }) (no_more url) ∙ sym (filled_is parts texts url))
    by_front (Err e) = refl

-- ---- the three ways in which the path has none

-- where a mark is in the front, it is in the whole
found_in_whole : (mark : ℕ) (parts : List Given) (texts : List (List ℕ)) → is_some (split_once mark (front_of parts)).1 ≡ true → is_some (split_once mark (url_of parts texts)).1 ≡ true
found_in_whole mark parts texts found =
    let (after, is) = some_value (split_once mark (front_of parts)).1 found in
    ap (λ l. is_some (split_once mark l).1) (url_of_front parts texts) ∙ ap (λ r. is_some r.1) (split_found mark (front_of parts) (url_of (from_slot parts) texts) after is)

without_slot : (parts : List Given) (texts : List (List ℕ)) → from_slot parts ≡ [] → url_of parts texts ≡ front_of parts
without_slot parts texts none = url_of_front parts texts ∙ ap (λ l. front_of parts ++ url_of l texts) none ∙ append-nil (front_of parts)

pub query_bytes_are : (parts : List Given) (texts : List (List ℕ)) → query_bytes parts texts ≡ (split_once 63 (url_of (before_fragment_parts parts) texts)).1
query_bytes_are parts texts = ap (λ r. r.1) (sym (split_filled 63 refl (before_fragment_parts parts) texts))

pub fragment_bytes_are : (parts : List Given) (texts : List (List ℕ)) → fragment_bytes parts texts ≡ (split_once 35 (url_of parts texts)).1
fragment_bytes_are parts texts = ap (λ r. r.1) (sym (split_filled 35 refl parts texts))

-- the front's query is the whole's, where no slot stands before the fragment
same_query : (parts : List Given) (texts : List (List ℕ)) → from_slot (before_fragment_parts parts) ≡ [] → query_bytes parts texts ≡ front_query parts
same_query parts texts none = grind (arith, nat_tests, query_bytes_are, without_slot, front_before)

pub fragment_shape : (base : Option Parts) (parts : List Given) (texts : List (List ℕ)) → ArePlain parts → is_some (front_fragment parts) ≡ true → HasThatShape base parts texts
fragment_shape base parts texts plain found = grind (arith, nat_tests, no_slot_before, tail_shape, no_slot_still, is_some, same_query, fragment_bytes_are, found_in_whole)

pub query_shapes : (base : Option Parts) (parts : List Given) (texts : List (List ℕ)) → ArePlain parts → is_some (front_query parts) ≡ true → HasThatShape base parts texts
query_shapes base parts texts plain found = grind (arith, nat_tests, is_some, front_before, query_bytes_are, found_in_whole, tail_shape, no_slot_before)

pub markup_shape : (base : Option Parts) (parts : List Given) (texts : List (List ℕ)) → ArePlain parts → from_slot parts ≡ [] → HasThatShape base parts texts
markup_shape base parts texts plain none = grind (arith, nat_tests, no_slot_still, tail_shape, is_some, same_query, fragment_bytes_are, without_slot)
