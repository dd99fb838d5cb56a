-- The URL of an image that holds its bytes: before the first `,` of a `data:` URL stand a type and the encoding, and behind it the bytes
-- (Fetch, 6 `data:` URLs: data: URL processor; RFC 2397, 3 Syntax).
use Rattle.std.specs.Prelude.{◌≡◌, ℕ, Bool, true, ◌&&◌, ◌||◌, ◌==◌, ◌+◌, List, bytes_eq, codes, drop, slice_index, take}
use Rattle.std.specs.List.{position_or_len}
use Rattle.url.specs.Input.{lowercase}
use Rattle.url.specs.Parts.{Parts}
use Rattle.html_urls.specs.Links.{has_scheme, mark_at}

-- `b','`
abbrev pub comma : ℕ
comma = 44

-- the type of an image that is no document, and `;base64`, in any case
abbrev pub is_image_type : List ℕ → Bool
is_image_type type =
    bytes_eq (lowercase type) (codes "image/png;base64")
    || bytes_eq (lowercase type) (codes "image/jpeg;base64")
    || bytes_eq (lowercase type) (codes "image/gif;base64")
    || bytes_eq (lowercase type) (codes "image/webp;base64")
    || bytes_eq (lowercase type) (codes "image/avif;base64")

-- how many bytes stand before the first `,`
abbrev pub comma_at : List ℕ → ℕ
comma_at body = position_or_len (λ b. b == comma) body

-- they are such a type
abbrev pub has_image_type : List ℕ → Bool
has_image_type body = slice_index body (comma_at body) == comma && is_image_type (take (comma_at body) body)

-- the scheme `data`, in any case, and a body with such a type
abbrev pub is_image : List ℕ → List ℕ → Bool
is_image scheme body = bytes_eq (lowercase scheme) (codes "data") && has_image_type body

-- markup that begins with the scheme, the type, the encoding and the `,`
abbrev pub is_image_front : List ℕ → Bool
is_image_front front = has_scheme front && is_image (take (mark_at front) front) (drop (mark_at front + 1) front)

-- the URL of an image, whatever stands behind the `,` of its path
abbrev pub IsImage : Parts → Type 0
IsImage url = (url.scheme ≡ codes "data") × (has_image_type url.path ≡ true)
