-- The segments of a URL whose first slot stands in the path.
use Rattle.std.proofs.Common.{◌≡◌, ◌≢◌, ℕ, true, ◌==◌, List, [], ◌∷◌, ◌++◌, map, Option, Ok, Err, IfOk, All, sym, refl, ap, ◌∙◌, subst, append_assoc, append-nil, arith, inl, inr}
use Rattle.std.proofs.lemmas.Bool.{cases_Bool, cases_eq, cond-false, cond-true, eq-eqb, ne_eqb}
use Rattle.std.proofs.lemmas.Bool.Decides.{nat_tests}
use Rattle.std.proofs.lemmas.List.{map-append}
use Rattle.std.proofs.lemmas.List.Elements.{All-append, All-head, All-nil, All-push, All-tail}
use Rattle.percent_encoding.specs.Percent.{percent_decode, percent_encode}
use Rattle.percent_encoding.proofs.PercentLemmas.{IsByte, IsEscapeByte, percent_encode-append}
use Rattle.url.specs.declared.sets.TheConstants.{PATH}
use Rattle.url.specs.Parts.{Parts}
use Rattle.url.specs.Parser.{Parsed, and_then, parse_url}
use Rattle.url.specs.Relative.{segments}
use Rattle.html_urls.specs.Decoded.{decoded_segments}
use Rattle.html_urls.specs.Hosts.{IsWebBase}
use Rattle.html_urls.specs.Inputs.{IsNot, kept}
use Rattle.html_urls.specs.Parts.Paths.{EndsInPath}
use Rattle.html_urls.specs.Parts.Segments.{last_segment}
use Rattle.html_urls.specs.Pieces.{behind_slash, filled_pieces, open_path, pieces}
use Rattle.html_urls.specs.Shapes.{fill, from_slot, front_of, path_parts, path_set, shape_from, texts_after}
use Rattle.html_urls.specs.Places.{EndsIn}
use Rattle.html_urls.specs.Slots.{FillUrl, Given, Told, begins_in_path, is_path, slots_of, url_of}
use Rattle.html_urls.specs.declared.parts.UrlSlot.{UrlSlot}
use Rattle.html_urls.specs.declared.place.UrlPlace.{UrlPlace}
use Rattle.html_urls.specs.declared.place.UrlPlace.TheVariants as place
use Rattle.html_urls.proofs.Bytes.{AllBytes, IsOfBytes}
use Rattle.html_urls.proofs.Filled.FirstSlot.{place_at, slot_place, front_stands, kept_front, plain_visible}
use Rattle.html_urls.proofs.OpenEscapes.{ClosesEscapes}
use Rattle.html_urls.proofs.Paths.Opening.{all_left, all_right}
use Rattle.html_urls.proofs.Paths.PathLaw.{IsSpecial, front_path, path_special}
use Rattle.html_urls.proofs.Paths.PathSegments.{last_after, last_of_whole, slash_kept}
use Rattle.html_urls.proofs.Splits.{split_joined}
use Rattle.html_urls.proofs.Shapes.Closing.{open_closes, pieces_close}
use Rattle.html_urls.proofs.Shapes.Decoding.{percent_law}
use Rattle.html_urls.proofs.Shapes.Encoded.Decoding.{decoded_still, keeps_form, percent_first}
use Rattle.html_urls.proofs.Shapes.Encoded.Splits.{all_pieces, split_encoded}
use Rattle.html_urls.proofs.Shapes.Filling.{filled_is}
use Rattle.html_urls.proofs.Shapes.Fronts.{url_of_front}
use Rattle.html_urls.proofs.Shapes.Pairs.{bytes_after}
use Rattle.html_urls.proofs.Shapes.Pieces.{pieces_law}
use Rattle.html_urls.proofs.Shapes.PlainParts.{first_plain, front_plain, plain_bytes_only, plain_closes}
use Rattle.html_urls.proofs.Shapes.ShapeLaw.{filled_plain, reached, shape_law}
use Rattle.html_urls.proofs.Shapes.Slots.UrlPairs.{filled_bytes, path_bytes, where_ok}

no_slash : (b : ℕ) → IsEscapeByte b → b ≢ 47
no_slash b escape same = grind (arith, nat_tests)

-- what stands behind the last `/` is the last segment
behind_is : (so_far bytes : List ℕ) → All (IsNot 47) so_far → behind_slash so_far bytes ≡ last_segment (so_far ++ bytes)
behind_is so_far [] none = sym (last_of_whole so_far none) ∙ ap last_segment (sym (append-nil so_far))
behind_is so_far (b ∷ bytes) none =
    elim (cases_eq b 47) [
      | inl here ↦ cond-true _ _ _ (eq-eqb b 47 here) ∙ behind_is [] bytes (All-nil (IsNot 47)) ∙ sym (last_after so_far bytes) ∙ ap (λ x. last_segment (so_far ++ x ∷ bytes)) (sym here)
      | inr other ↦ cond-false _ _ _ (ne_eqb b 47 other) ∙ behind_is (so_far ++ b ∷ []) bytes (All-push (IsNot 47) so_far b none other) ∙ ap last_segment (append_assoc so_far (b ∷ []) bytes)
    ]

-- the front is kept as it is
front_kept : (parts : List Given) (texts : List (List ℕ)) → FillUrl parts texts → kept (front_of parts) ≡ front_of parts
front_kept parts texts fills = grind (arith, nat_tests, kept_front, plain_visible, front_plain, filled_plain)

-- the path is some path, `/`, and the open one with its texts, percent-encoded
abbrev EndsOpen : List ℕ → List Given → List (List ℕ) → Parts → Type 0
EndsOpen before parts texts url = url.path ≡ before ++ 47 ∷ percent_encode PATH (url_of (open_path parts) texts)

filled_path : (base : Option Parts) (parts : List Given) (before : List ℕ) (texts : List (List ℕ)) → IsWebBase base → FillUrl parts texts → IfOk (parse_url base (front_of parts)) IsSpecial →
    IfOk (parse_url base (front_of parts)) (λ url. url.path ≡ before ++ 47 ∷ percent_encode PATH (last_segment (kept (front_of parts)))) → IfOk (parse_url base (url_of parts texts)) (EndsOpen before parts texts)
filled_path base parts before texts web fills special ends =
    subst (λ (parsed : Parsed Parts). IfOk parsed (EndsOpen before parts texts)) (sym (shape_law base parts texts web fills)) (by_front (parse_url base (front_of parts)) special ends)
  where
    last : List ℕ
    last = behind_slash [] (front_of parts)

    rest : List ℕ
    rest = url_of (from_slot (path_parts parts)) texts

    by_front : (front : Parsed Parts) → IfOk front IsSpecial → IfOk front (λ url. url.path ≡ before ++ 47 ∷ percent_encode PATH (last_segment (kept (front_of parts)))) → IfOk (fill (and_then front (λ url. Ok (shape_from parts url))) texts) (EndsOpen before parts texts)
    by_front (Ok url) kind is =
        let own = is ∙ ap (λ f. before ++ 47 ∷ percent_encode PATH (last_segment f)) (front_kept parts texts fills) ∙ ap (λ l. before ++ 47 ∷ percent_encode PATH l) (sym (behind_is [] (front_of parts) (All-nil (IsNot 47)))) in
        ap (λ u. u.path) (filled_is parts texts url) ∙ ap (λ k. url.path ++ percent_encode (path_set k) rest) kind ∙ ap (λ p. p ++ percent_encode PATH rest) own
        ∙ append_assoc before (47 ∷ percent_encode PATH last) (percent_encode PATH rest)
        ∙ ap (λ l. before ++ 47 ∷ l) (sym (percent_encode-append PATH last rest))
    by_front (Err e) kind is = tt

-- the segments of such a path
open_segments : (before : List ℕ) (parts : List Given) (texts : List (List ℕ)) (url : Parts) → EndsOpen before parts texts url → segments url.path ≡ segments before ++ map (percent_encode PATH) (filled_pieces (pieces 47 (open_path parts)) texts)
open_segments before parts texts url is =
    ap segments is ∙ split_joined 47 before (percent_encode PATH (url_of (open_path parts) texts))
    ∙ ap (λ l. segments before ++ l)
    (split_encoded PATH 47 (record { kept = slash_kept; other = no_slash }) (url_of (open_path parts) texts) ∙ ap (map (percent_encode PATH)) (pieces_law 47 refl (open_path parts) texts))

-- THE SEGMENTS OF A URL
pub slot_segments : (base : Option Parts) (parts : List Given) → IsWebBase base → EndsInPath (front_of parts) →
    (before : List (List ℕ)) × ((texts : List (List ℕ)) → FillUrl parts texts → IfOk (parse_url base (url_of parts texts)) (λ url. segments url.path ≡ before ++ map (percent_encode PATH) (filled_pieces (pieces 47 (open_path parts)) texts)))
slot_segments base parts web ends =
    let (before, is) = front_path base (front_of parts) web ends in (
      segments before,
      λ texts fills.
          where_ok (parse_url base (url_of parts texts)) (EndsOpen before parts texts) (λ url. segments url.path ≡ segments before ++ map (percent_encode PATH) (filled_pieces (pieces 47 (open_path parts)) texts))
          (open_segments before parts texts) (filled_path base parts before texts web fills (path_special base (front_of parts) web ends) is),
    )

-- ---- decoded

all_decoded : (l : List (List Given)) (texts : List (List ℕ)) → AllBytes texts → All (All IsByte) (filled_pieces l texts) → All ClosesEscapes l → map percent_decode (map (percent_encode PATH) (filled_pieces l texts)) ≡ decoded_segments l texts
all_decoded [] texts bytes small closed = refl
all_decoded (segment ∷ more) texts bytes small closed =
    let left = texts_after segment texts in
    let first =
    decoded_still percent_decode (λ b. b) percent_first PATH (keeps_form PATH refl) (url_of segment texts) (All-head (All IsByte) (url_of segment texts) (filled_pieces more left) small)
    ∙ percent_law segment texts bytes (All-head ClosesEscapes segment more closed) in
    let later = all_decoded more left (bytes_after segment texts bytes) (All-tail (All IsByte) (url_of segment texts) (filled_pieces more left) small) (All-tail ClosesEscapes segment more closed) in
    λ i. first i ∷ later i

all_behind : (so_far bytes : List ℕ) → All IsByte so_far → All IsByte bytes → All IsByte (behind_slash so_far bytes)
all_behind so_far [] first all = first
all_behind so_far (b ∷ bytes) first all =
    elim (cases_Bool (b == 47)) [
      | inl here ↦ rw here (all_behind [] bytes (All-nil IsByte) (All-tail IsByte b bytes all))
      | inr other ↦ rw other (all_behind (so_far ++ b ∷ []) bytes (All-push IsByte so_far b first (All-head IsByte b bytes all)) (All-tail IsByte b bytes all))
    ]

open_bytes : (parts : List Given) → IsOfBytes parts → IsOfBytes (open_path parts)
open_bytes parts bytes =
    let path = path_parts parts in
    All-append IsByte (behind_slash [] (front_of parts)) (url_of (from_slot path) [])
    (all_behind [] (front_of parts) (All-nil IsByte) (all_left IsByte (front_of parts) (url_of (from_slot parts) []) (subst (All IsByte) (url_of_front parts []) bytes)))
    (all_right IsByte (front_of path) (url_of (from_slot path) []) (subst (All IsByte) (url_of_front path []) (path_bytes parts bytes)))

pub slot_segments_decoded : (base : Option Parts) (parts : List Given) → IsWebBase base → EndsInPath (front_of parts) →
    (before : List (List ℕ)) × ((texts : List (List ℕ)) → FillUrl parts texts → AllBytes texts → IfOk (parse_url base (url_of parts texts)) (λ url. map percent_decode (segments url.path) ≡ before ++ decoded_segments (pieces 47 (open_path parts)) texts))
slot_segments_decoded base parts web ends =
    let (before, is) = slot_segments base parts web ends in
    let l = pieces 47 (open_path parts) in (
      map percent_decode before,
      λ texts fills bytes.
          let plain = filled_plain parts texts fills in
          let small = subst (All (All IsByte)) (pieces_law 47 refl (open_path parts) texts) (all_pieces IsByte 47 (url_of (open_path parts) texts) (filled_bytes (open_path parts) texts (open_bytes parts (plain_bytes_only parts plain)))) in
          let closed = pieces_close 47 (open_path parts) (open_closes parts (plain_closes parts plain)) in
          where_ok (parse_url base (url_of parts texts)) (λ url. segments url.path ≡ before ++ map (percent_encode PATH) (filled_pieces l texts)) (λ url. map percent_decode (segments url.path) ≡ map percent_decode before ++ decoded_segments l texts)
          (λ url has. ap (map percent_decode) has ∙ map-append percent_decode before (map (percent_encode PATH) (filled_pieces l texts)) ∙ ap (λ r. map percent_decode before ++ r) (all_decoded l texts bytes small closed))
          (is texts fills),
    )

-- ---- where the first slot stands in the path

pub path_begins : (parts : List Given) → begins_in_path (slots_of parts) ≡ true → EndsInPath (front_of parts)
path_begins parts begins = by_told (slots_of parts) refl begins
  where
    in_path : (at : UrlPlace) → is_path at ≡ true → at ≡ place.Path
    in_path at is = grind (arith, nat_tests)

    by_told : (told : Told) → slots_of parts ≡ told → begins_in_path told ≡ true → EndsInPath (front_of parts)
    by_told (Err fault) told is = cc
    by_told (Ok []) told is = cc
    by_told (Ok (first ∷ others)) told is =
        elim (reached parts 0 [] (first ∷ others) told) [
          | inl none ↦ absurd (cc)
          | inr found ↦ let stands = front_stands (front_of parts) found.part found.slot (front_plain parts (first_plain parts 0 [] (first ∷ others) told)) found.opened found.here in
              subst (λ at. EndsIn at (front_of parts)) (in_path (place_at found.part) (let same : first ≡ found.slot = cc in sym (ap is_path (ap (λ (s : UrlSlot). s.place) same ∙ slot_place found.part found.slot found.here)) ∙ is)) stands.ends
        ]
