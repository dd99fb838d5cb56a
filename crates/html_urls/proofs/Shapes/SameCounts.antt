-- Texts that fill the slots of a URL leave its head, its number of segments and its number of strings as they are: with all of them it is one shape.
use Rattle.std.proofs.Common.{◌≡◌, ℕ, suc, false, List, [], ◌∷◌, length, Option, unwrap_or, option_map, refl, ap, arith}
use Rattle.std.proofs.lemmas.Bool.Decides.{nat_tests}
use Rattle.form_urlencoded.specs.Form.{split}
use Rattle.url.specs.Parts.{Parts}
use Rattle.url.specs.Parser.{Parsed, parse_url}
use Rattle.html_urls.specs.Components.{is_written_byte}
use Rattle.html_urls.specs.Heads.{head_of}
use Rattle.html_urls.specs.Hosts.{IsWebBase}
use Rattle.html_urls.specs.Parts.Pairs.{string_count}
use Rattle.html_urls.specs.Parts.Segments.{segment_count}
use Rattle.html_urls.specs.Pieces.{filled_pieces}
use Rattle.html_urls.specs.Shapes.{Shape, fill, texts_after}
use Rattle.html_urls.specs.Slots.{FillUrl, Given, url_of}
use Rattle.html_urls.proofs.Shapes.Pieces.{pieces_law}
use Rattle.html_urls.proofs.Shapes.ShapeLaw.{shape_law}

same_length : (l : List (List Given)) (texts others : List (List ℕ)) → length (filled_pieces l texts) ≡ length (filled_pieces l others)
same_length [] texts others = refl
same_length (piece ∷ more) texts others = ap suc (same_length more (texts_after piece texts) (texts_after piece others))

-- whatever the texts, there are as many pieces
piece_count : (mark : ℕ) → is_written_byte mark ≡ false → (parts : List Given) (texts others : List (List ℕ)) → length (split mark (url_of parts texts)) ≡ length (split mark (url_of parts others))
piece_count mark other parts texts others = grind (arith, nat_tests, pieces_law, same_length)

query_count : (query : Option (List Given)) (texts others : List (List ℕ)) →
    length (split 38 (unwrap_or (option_map (λ parts. url_of parts texts) query) [])) ≡ length (split 38 (unwrap_or (option_map (λ parts. url_of parts others) query) []))
query_count query texts others = grind (arith, nat_tests, piece_count)

head_filled : (shape : Parsed Shape) (texts others : List (List ℕ)) → head_of (fill shape texts) ≡ head_of (fill shape others)
head_filled shape texts others = grind (arith, nat_tests)

segments_filled : (shape : Parsed Shape) (texts others : List (List ℕ)) → segment_count (fill shape texts) ≡ segment_count (fill shape others)
segments_filled shape texts others = grind (arith, nat_tests, piece_count)

strings_filled : (shape : Parsed Shape) (texts others : List (List ℕ)) → string_count (fill shape texts) ≡ string_count (fill shape others)
strings_filled shape texts others = grind (arith, nat_tests, query_count)

-- two lists of texts, and what both URLs have of the shape
pub same_of_shape : {T : Type 0} (of_url : Parsed Parts → T) → ((shape : Parsed Shape) (texts others : List (List ℕ)) → of_url (fill shape texts) ≡ of_url (fill shape others)) →
    (base : Option Parts) (parts : List Given) (texts others : List (List ℕ)) → IsWebBase base → FillUrl parts texts → FillUrl parts others → of_url (parse_url base (url_of parts texts)) ≡ of_url (parse_url base (url_of parts others))
same_of_shape of_url same base parts texts others web fills others_fill = grind (arith, nat_tests, shape_law)

pub same_head : (base : Option Parts) (parts : List Given) (texts others : List (List ℕ)) → IsWebBase base → FillUrl parts texts → FillUrl parts others → head_of (parse_url base (url_of parts texts)) ≡ head_of (parse_url base (url_of parts others))
same_head = same_of_shape head_of head_filled

pub same_segments : (base : Option Parts) (parts : List Given) (texts others : List (List ℕ)) → IsWebBase base → FillUrl parts texts → FillUrl parts others → segment_count (parse_url base (url_of parts texts)) ≡ segment_count (parse_url base (url_of parts others))
same_segments = same_of_shape segment_count segments_filled

pub same_strings : (base : Option Parts) (parts : List Given) (texts others : List (List ℕ)) → IsWebBase base → FillUrl parts texts → FillUrl parts others → string_count (parse_url base (url_of parts texts)) ≡ string_count (parse_url base (url_of parts others))
same_strings = same_of_shape string_count strings_filled
