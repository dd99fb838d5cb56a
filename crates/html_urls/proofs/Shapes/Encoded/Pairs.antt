-- A query has the same pairs percent-encoded as the parser does.
use Rattle.std.proofs.Common.{◌≡◌, ◌≢◌, ℕ, List, [], ◌∷◌, map, filter, Option, option_map, unwrap_or, All, sym, refl, ap, ◌∙◌, arith, inl, inr}
use Rattle.std.proofs.lemmas.Bool.{cases_Bool, lt-ltb}
use Rattle.std.proofs.lemmas.Bool.Decides.{nat_tests}
use Rattle.std.proofs.lemmas.List.Elements.{All-head, All-tail}
use Rattle.form_urlencoded.specs.Form.{decode, is_nonempty, parse, plus_to_space, raw_pairs, split, split_pair}
use Rattle.percent_encoding.specs.declared.ascii_set.AsciiSet.{AsciiSet}
use Rattle.percent_encoding.specs.Percent.{percent_encode}
use Rattle.percent_encoding.proofs.PercentLemmas.{IsByte, IsEscapeByte, percent_encode-nil, percent_encode_nonempty}
use Rattle.url.specs.declared.sets.TheConstants.{QUERY, SPECIAL_QUERY}
use Rattle.url.specs.declared.scheme.SchemeType.{SchemeType}
use Rattle.url.specs.declared.scheme.SchemeType.TheVariants.{File, SpecialNotFile, NotSpecial}
use Rattle.url.specs.Input.{split_once}
use Rattle.url.specs.Parts.{query_set}
use Rattle.html_urls.proofs.Shapes.Encoded.Decoding.{KeepsForm, decoded_still, form_first, keeps_form}
use Rattle.html_urls.proofs.Shapes.Encoded.Splits.{all_halves, all_pieces, split_encoded, split_once_encoded}
use Rattle.html_urls.proofs.Shapes.Pairs.{form_split}

pub query_keeps_form : (kind : SchemeType) → KeepsForm (query_set kind)
query_keeps_form File = keeps_form SPECIAL_QUERY refl
query_keeps_form SpecialNotFile = keeps_form SPECIAL_QUERY refl
query_keeps_form NotSpecial = keeps_form QUERY refl

no_ampersand : (b : ℕ) → IsEscapeByte b → b ≢ 38
no_ampersand b escape same = grind (arith, nat_tests)

no_equals : (b : ℕ) → IsEscapeByte b → b ≢ 61
no_equals b escape same = grind (arith, nat_tests)

some_encoded : (set : AsciiSet) (bytes : List ℕ) → is_nonempty (percent_encode set bytes) ≡ is_nonempty bytes
some_encoded set [] = ap is_nonempty (percent_encode-nil set)
some_encoded set (b ∷ bytes) = lt-ltb 0 _ (percent_encode_nonempty set (b ∷ bytes) (omega arith)) ∙ sym (lt-ltb 0 _ (omega arith))

abbrev Pair : Type 0
Pair = List ℕ × List ℕ

abbrev decoded : Pair → Pair
decoded pair = (decode pair.0, decode pair.1)

value_encoded : (set : AsciiSet) → KeepsForm set → (value : Option (List ℕ)) → All IsByte (unwrap_or value []) → decode (unwrap_or (option_map (percent_encode set) value) []) ≡ decode (unwrap_or value [])
value_encoded set keeps value bytes = grind (arith, nat_tests, decoded_still, form_first)

pair_encoded : (set : AsciiSet) → KeepsForm set → (string : List ℕ) → All IsByte string → decoded (split_pair (percent_encode set string)) ≡ decoded (split_pair string)
pair_encoded set keeps string bytes =
    let halves = split_once 61 string in
    let all = all_halves IsByte 61 string bytes in
    let split = split_once_encoded set 61 (record { kept = keeps 61 refl; other = no_equals }) string in
    let whole = form_split 61 (percent_encode set string) ∙ ap (λ r. (r.0, unwrap_or r.1 [])) split in
    let name = decoded_still decode plus_to_space form_first set keeps halves.0 all.0 in
    let value = value_encoded set keeps halves.1 all.1 in
    ap decoded whole ∙ (λ i. (name i, value i)) ∙ sym (ap decoded (form_split 61 string))

pairs_encoded : (set : AsciiSet) → KeepsForm set → (l : List (List ℕ)) → All (All IsByte) l → map decoded (map split_pair (filter is_nonempty (map (percent_encode set) l))) ≡ map decoded (map split_pair (filter is_nonempty l))
pairs_encoded set keeps [] bytes = refl
pairs_encoded set keeps (string ∷ more) bytes =
    let first = pair_encoded set keeps string (All-head (All IsByte) string more bytes) in
    let later = pairs_encoded set keeps more (All-tail (All IsByte) string more bytes) in
    elim (cases_Bool (is_nonempty string)) [ inl some ↦ rw (some_encoded set string ∙ some, some) (λ i. first i ∷ later i) | inr none ↦ rw (some_encoded set string ∙ none, none) later ]

pub parse_encoded : (set : AsciiSet) → KeepsForm set → (bytes : List ℕ) → All IsByte bytes → parse (percent_encode set bytes) ≡ parse bytes
unfolding raw_pairs
parse_encoded set keeps bytes all =
    ap (λ l. map decoded (map split_pair (filter is_nonempty l))) (split_encoded set 38 (record { kept = keeps 38 refl; other = no_ampersand }) bytes)
    ∙ pairs_encoded set keeps (split 38 bytes) (all_pieces IsByte 38 bytes all)
