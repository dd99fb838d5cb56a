-- What the parser makes of a URL with slots: a URL whose path, query and fragment are markup and slots.
use Rattle.std.specs.Prelude.{◌≡◌, ℕ, ◌==◌, List, [], ◌∷◌, ◌++◌, Option, Some, None, Ok, unwrap_or, option_map, if◌then◌else◌}
use Rattle.percent_encoding.specs.declared.ascii_set.AsciiSet.{AsciiSet}
use Rattle.percent_encoding.specs.Percent.{percent_encode}
use Rattle.url.specs.declared.sets.TheConstants.{FRAGMENT, OPAQUE_PATH, PATH}
use Rattle.url.specs.declared.scheme.SchemeType.{SchemeType}
use Rattle.url.specs.Scheme.{is_special}
use Rattle.url.specs.Ascii.{number_sign, question_mark}
use Rattle.url.specs.Parser.{Parsed, and_then, parse_url}
use Rattle.url.specs.Parts.{Parts, kind_of, query_set}
use Rattle.html_urls.specs.Slots.{FillUrl, Given, Markup, Slot, url_of}

-- of the head, the scheme, the user, the password, the host and the port count
pub record Shape : Type 0 where
  pub head : Parts
  pub path : List Given
  pub query : Option (List Given)
  pub fragment : Option (List Given)

-- the texts that are left behind these parts
abbrev pub texts_after : List Given → List (List ℕ) → List (List ℕ)
texts_after [] texts = texts
texts_after (Markup bytes ∷ parts) texts = texts_after parts texts
texts_after (Slot at ∷ parts) [] = texts_after parts []
texts_after (Slot at ∷ parts) (text ∷ texts) = texts_after parts texts

-- the shape with the texts in its slots: those of the path, then those of the query, then those of the fragment
abbrev pub filled : Shape → List (List ℕ) → Parts
filled shape texts =
    let of_query = texts_after shape.path texts in
    let of_fragment = texts_after (unwrap_or shape.query []) of_query in
    record shape.head {
      path = url_of shape.path texts;
      query = option_map (λ parts. url_of parts of_query) shape.query;
      fragment = option_map (λ parts. url_of parts of_fragment) shape.fragment;
    }

-- or the same refusal
abbrev pub fill : Parsed Shape → List (List ℕ) → Parsed Parts
fill shape texts = and_then shape (λ found. Ok (filled found texts))

-- one shape, or one refusal, for all texts that fill the slots
abbrev pub HasShape : Option Parts → List Given → Type 0
HasShape base parts = (shape : Parsed Shape) × ((texts : List (List ℕ)) → FillUrl parts texts → parse_url base (url_of parts texts) ≡ fill shape texts)

-- ---- the shape (URL Standard, 4.4 URL parsing: path state, opaque path state, query state, fragment state)

-- the markup before the first slot, and the parts from that slot on
abbrev pub front_of : List Given → List ℕ
front_of [] = []
front_of (Markup bytes ∷ parts) = bytes ++ front_of parts
front_of (Slot at ∷ parts) = []

abbrev pub from_slot : List Given → List Given
from_slot [] = []
from_slot (Markup bytes ∷ parts) = from_slot parts
from_slot (Slot at ∷ parts) = Slot at ∷ parts

-- one byte of markup before what it is split in
abbrev pub onto_halves : ℕ → List Given × Option (List Given) → List Given × Option (List Given)
onto_halves b (Markup bytes ∷ before, after) = (Markup (b ∷ bytes) ∷ before, after)
onto_halves b (before, after) = (Markup (b ∷ []) ∷ before, after)

-- markup before these parts, which are split so
abbrev pub split_markup : ℕ → List ℕ → List Given → List Given × Option (List Given) → List Given × Option (List Given)
split_markup mark [] parts halves = (Markup [] ∷ halves.0, halves.1)
split_markup mark (b ∷ bytes) parts halves =
    if b == mark then (Markup [] ∷ [], Some (Markup bytes ∷ parts)) else onto_halves b (split_markup mark bytes parts halves)

-- the parts before the first such byte of the markup, and those after it, if there is one
abbrev pub split_parts : ℕ → List Given → List Given × Option (List Given)
split_parts mark [] = ([], None)
split_parts mark (Markup bytes ∷ parts) = split_markup mark bytes parts (split_parts mark parts)
split_parts mark (Slot at ∷ parts) = (Slot at ∷ (split_parts mark parts).0, (split_parts mark parts).1)

-- the first `#` begins the fragment, and the first `?` before it the query
abbrev pub before_fragment_parts : List Given → List Given
before_fragment_parts parts = (split_parts number_sign parts).0

abbrev pub path_parts : List Given → List Given
path_parts parts = (split_parts question_mark (before_fragment_parts parts)).0

abbrev pub query_parts : List Given → Option (List Given)
query_parts parts = (split_parts question_mark (before_fragment_parts parts)).1

abbrev pub fragment_parts : List Given → Option (List Given)
fragment_parts parts = (split_parts number_sign parts).1

-- the markup percent-encoded
abbrev pub encoded : AsciiSet → List Given → List Given
encoded set [] = []
encoded set (Markup bytes ∷ parts) = Markup (percent_encode set bytes) ∷ encoded set parts
encoded set (Slot at ∷ parts) = Slot at ∷ encoded set parts

-- the bytes that a path with a slot escapes: where the scheme is not special, it is opaque
abbrev pub path_set : SchemeType → AsciiSet
path_set kind = if is_special kind then PATH else OPAQUE_PATH

-- the query of the parts; where they have none, that of the URL, which it has of its base
abbrev pub query_shape : Parts → Option (List Given) → Option (List Given)
query_shape url (Some own) = Some (encoded (query_set (kind_of url)) own)
query_shape url None = option_map (λ query. Markup query ∷ []) url.query

-- the shape of the parts, where this is the URL of the markup before the first slot: its path goes on with what of the parts is the path's
abbrev pub shape_from : List Given → Parts → Shape
shape_from parts url = record {
  head = url;
  path = Markup url.path ∷ encoded (path_set (kind_of url)) (from_slot (path_parts parts));
  query = query_shape url (query_parts parts);
  fragment = option_map (encoded FRAGMENT) (fragment_parts parts);
}

abbrev pub shape_of : Option Parts → List Given → Parsed Shape
shape_of base parts = and_then (parse_url base (front_of parts)) (λ url. Ok (shape_from parts url))
