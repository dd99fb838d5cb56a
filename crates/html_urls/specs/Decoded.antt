-- What is decoded of markup and slots with their texts (URL Standard, 1.3 Percent-encoded bytes; 5.1 application/x-www-form-urlencoded parsing).
use Rattle.std.specs.Prelude.{◌<◌, ◌^◌, ℕ, Bool, ◌&&◌, ◌||◌, ◌==◌, List, [], ◌∷◌, ◌++◌, All, is_some, unwrap_or, if◌then◌else◌}
use Rattle.std.specs.List.{AllByRecursion, list_all, list_any}
use Rattle.form_urlencoded.specs.Form.{ampersand, decode, equals_sign, plus_sign}
use Rattle.percent_encoding.specs.Percent.{percent_decode}
use Rattle.url.specs.Ascii.{percent_sign}
use Rattle.html_urls.specs.Pieces.{has_markup, pieces}
use Rattle.html_urls.specs.Shapes.{path_parts, query_parts, split_parts, texts_after}
use Rattle.html_urls.specs.Slots.{Given, Markup, Slot}

-- the markup as it is decoded, and the texts as they are, behind what is decoded so far
abbrev pub decoded_behind : (List ℕ → List ℕ) → List ℕ → List Given → List (List ℕ) → List ℕ
decoded_behind decoding done [] texts = done
decoded_behind decoding done (Markup [] ∷ parts) texts = decoded_behind decoding done parts texts
decoded_behind decoding done (Markup (b ∷ bytes) ∷ parts) texts = decoded_behind decoding (done ++ decoding (b ∷ bytes)) parts texts
decoded_behind decoding done (Slot at ∷ parts) [] = decoded_behind decoding done parts []
decoded_behind decoding done (Slot at ∷ parts) (text ∷ texts) = decoded_behind decoding (done ++ text) parts texts

abbrev pub decoded_by : (List ℕ → List ℕ) → List Given → List (List ℕ) → List ℕ
decoded_by decoding parts texts = decoded_behind decoding [] parts texts

-- percent-decoded bytes, and those of a form: without `%`, and without `+`, they are as they are
abbrev pub percent_text : List ℕ → List ℕ
percent_text bytes = if list_any (λ b. b == percent_sign) bytes then percent_decode bytes else bytes

abbrev pub form_text : List ℕ → List ℕ
form_text bytes = if list_any (λ b. b == percent_sign || b == plus_sign) bytes then decode bytes else bytes

-- the texts are of bytes
abbrev pub AreBytes : List (List ℕ) → Type 0
AreBytes texts = AllByRecursion (All (λ b. b < 2 ^ 8)) texts

-- ---- segments

-- each segment with its texts, decoded
abbrev pub decoded_segments : List (List Given) → List (List ℕ) → List (List ℕ)
decoded_segments [] texts = []
decoded_segments (segment ∷ more) texts = decoded_by percent_text segment texts ∷ decoded_segments more (texts_after segment texts)

-- ---- pairs

-- a name, and a value behind the first `=` of the markup
abbrev pub pair_of : List Given → List (List ℕ) → List ℕ × List ℕ
pair_of string texts =
    let halves = split_parts equals_sign string in
    (decoded_by form_text halves.0 texts, decoded_by form_text (unwrap_or halves.1 []) (texts_after halves.0 texts))

-- each string with its texts as a pair
abbrev pub pairs_of : List (List Given) → List (List ℕ) → List (List ℕ × List ℕ)
pairs_of [] texts = []
pairs_of (string ∷ strings) texts = pair_of string texts ∷ pairs_of strings (texts_after string texts)

-- the strings between `&` of the query that the parts have
abbrev pub query_strings : List Given → List (List Given)
query_strings parts = pieces ampersand (unwrap_or (query_parts parts) [])

-- the parts have a query, of which each string has markup: so it is a pair whatever its texts
abbrev pub has_pairs : List Given → Bool
has_pairs parts = is_some (query_parts parts) && list_all has_markup (query_strings parts)

-- the pairs, with the texts behind those of the path
abbrev pub query_pairs : List Given → List (List ℕ) → List (List ℕ × List ℕ)
query_pairs parts texts = pairs_of (query_strings parts) (texts_after (path_parts parts) texts)
