-- The scheme of a URL with a slot.
use Rattle.std.proofs.Common.{◌≡◌, ℕ, ◌+◌, true, false, not, ◌&&◌, ◌||◌, ap, List, [], ◌∷◌, take, drop, Option, Some, None, Ok, Err, IfOk, bytes_eq, codes, All, sym, ◌∙◌, subst, arith, inl, inr}
use Rattle.std.proofs.lemmas.Bool.Decides.{nat_tests}
use Rattle.std.proofs.lemmas.Bool.{and_parts, cases_Bool, cond-false}
use Rattle.std.proofs.lemmas.Slice.Eq.{bytes_eq-Decides}
use Rattle.url.specs.Input.{lowercase}
use Rattle.url.specs.Parts.{Parts}
use Rattle.url.specs.Parser.{Parsed, and_then, parse_url}
use Rattle.html_urls.specs.declared.open_part.OpenPart.{OpenPart}
use Rattle.html_urls.specs.Hosts.{IsWebBase}
use Rattle.html_urls.specs.Images.{IsImage, has_image_type, is_image, is_image_front}
use Rattle.html_urls.specs.Links.{HasLinkOrPageScheme, has_scheme, is_link, mark_at}
use Rattle.html_urls.specs.OpenParts.{begins, ends_in_opaque_path, has_address_scheme, has_byte, is_address_scheme, open_of}
use Rattle.html_urls.specs.Shapes.{fill, filled, front_of, shape_from}
use Rattle.html_urls.specs.Slots.{FillSlots, FillUrl, Given, is_plain_byte, slots_of, url_of}
use Rattle.html_urls.proofs.Filled.FirstSlot.{kept_front, plain_visible}
use Rattle.html_urls.proofs.Filled.Told.{told_slots}
use Rattle.html_urls.proofs.Links.SchemeOf.{HasScheme}
use Rattle.html_urls.proofs.Paths.Images.{image_encoded, image_goes_on}
use Rattle.html_urls.proofs.Paths.OpaquePaths.{alone_at, opaque_read}
use Rattle.html_urls.proofs.Places.OpaqueFronts.{opaque_end, path_bytes, spelled_at}
use Rattle.html_urls.proofs.Shapes.PlainParts.{front_plain}
use Rattle.html_urls.proofs.Links.LinkLaw.{page_law}
use Rattle.html_urls.proofs.Shapes.ShapeLaw.{filled_plain, reached, shape_law}

-- where the markup is a link
pub slot_scheme : (base : Option Parts) (parts : List Given) (text : List ℕ) (texts : List (List ℕ)) → IsWebBase base → is_link (front_of parts) ≡ true → FillUrl parts (text ∷ texts) → IfOk (parse_url base (url_of parts (text ∷ texts))) (HasLinkOrPageScheme base)
slot_scheme base parts text texts web link fills =
    subst (λ (parsed : Parsed Parts). IfOk parsed (HasLinkOrPageScheme base)) (sym (shape_law base parts (text ∷ texts) web fills)) (by_front (parse_url base (front_of parts)) (page_law base (front_of parts) link))
  where
    by_front : (front : Parsed Parts) → IfOk front (HasLinkOrPageScheme base) → IfOk (fill (and_then front (λ url. Ok (shape_from parts url))) (text ∷ texts)) (HasLinkOrPageScheme base)
    by_front front has = grind (arith, nat_tests)

-- what the URL of the markup before the first slot has, and keeps where its path goes on
front_has : (P : Parts → Type 0) (base : Option Parts) (parts : List Given) (text : List ℕ) (texts : List (List ℕ)) → IsWebBase base → FillUrl parts (text ∷ texts) → ((url : Parts) → P url → P (filled (shape_from parts url) (text ∷ texts))) →
    ((p : OpenPart) → All (λ b. is_plain_byte b ≡ true) (front_of parts) → open_of (front_of parts) ≡ Some p → IfOk (parse_url base (front_of parts)) P) → IfOk (parse_url base (url_of parts (text ∷ texts))) P
front_has P base parts text texts web fills keeps has =
    let (slots, told, fill) = told_slots (slots_of parts) parts (text ∷ texts) fills in
    elim (reached parts 0 [] slots told) [
      | inl none ↦ absurd (subst (λ l. FillSlots l (text ∷ texts)) none.1 fill.0)
      | inr found ↦ subst (λ (parsed : Parsed Parts). IfOk parsed P) (sym (shape_law base parts (text ∷ texts) web fills))
          (by_front (parse_url base (front_of parts)) (has found.part (front_plain parts (filled_plain parts (text ∷ texts) fills)) found.opened))
    ]
  where
    by_front : (front : Parsed Parts) → IfOk front P → IfOk (fill (and_then front (λ url. Ok (shape_from parts url))) (text ∷ texts)) P
    by_front (Ok url) holds = keeps url holds
    by_front (Err error) holds = tt

-- where it is none, and no image
abbrev IsNumber : Parts → Type 0
IsNumber url = url.scheme ≡ codes "tel"

-- a slot stands behind its scheme
address_opened : (front : List ℕ) (p : OpenPart) → open_of front ≡ Some p → is_link front ≡ false → is_image_front front ≡ false → has_address_scheme front ≡ true
address_opened front p is other no_image =
    elim (cases_Bool (has_address_scheme front)) [
      | inl known ↦ known
      | inr none ↦ let no_path : ends_in_opaque_path front ≡ false = ap (λ h. h && not (begins (drop (mark_at front + 1) front) (codes "/")) && not (has_byte 63 front) && not (has_byte 35 front)) (ap (λ h. h || is_image_front front) none ∙ no_image) in
          let clash : None ≡ Some p = sym (cond-false _ _ _ (ap (λ l. l || has_address_scheme front) other ∙ none)) ∙ sym (cond-false _ _ _ no_path) ∙ is in cc
    ]

-- which is not `mailto`
number_scheme : (front : List ℕ) → has_address_scheme front ≡ true → is_link front ≡ false → lowercase (take (mark_at front) front) ≡ codes "tel"
number_scheme front known other = grind (arith, nat_tests, bytes_eq, bytes_eq-Decides)

number_front : (base : Option Parts) (front : List ℕ) → All (λ b. is_plain_byte b ≡ true) front → is_link front ≡ false → has_address_scheme front ≡ true → IfOk (parse_url base front) IsNumber
number_front base front plain other known =
    let scheme = take (mark_at front) front in
    let is = number_scheme front known other in
    let mark = (and_parts (has_scheme front) (is_address_scheme scheme) known).0 in
    subst (λ s. HasScheme s (parse_url base front)) is (opaque_read base front scheme (drop (mark_at front + 1) front) (kept_front front (plain_visible front plain) ∙ spelled_at front mark) (inr (inl is)))

pub slot_number : (base : Option Parts) (parts : List Given) (text : List ℕ) (texts : List (List ℕ)) → IsWebBase base → is_link (front_of parts) ≡ false → is_image_front (front_of parts) ≡ false → FillUrl parts (text ∷ texts) →
    IfOk (parse_url base (url_of parts (text ∷ texts))) IsNumber
slot_number base parts text texts web other no_image fills =
    front_has IsNumber base parts text texts web fills (λ url is. is) (λ p plain opened. number_front base (front_of parts) plain other (address_opened (front_of parts) p opened other no_image))

-- ---- the image of a `data:` URL

-- a slot stands behind its type
no_other : (front : List ℕ) → is_image_front front ≡ true → (is_link front || has_address_scheme front) ≡ false
no_other front image = grind (arith, nat_tests, bytes_eq, bytes_eq-Decides)

image_opened : (front : List ℕ) (p : OpenPart) → open_of front ≡ Some p → is_image_front front ≡ true → ends_in_opaque_path front ≡ true
image_opened front p is image =
    elim (cases_Bool (ends_in_opaque_path front)) [
      | inl ends ↦ ends
      | inr none ↦ let clash : None ≡ Some p = sym (cond-false _ _ _ (no_other front image)) ∙ sym (cond-false _ _ _ none) ∙ is in cc
    ]

image_scheme : (scheme path : List ℕ) → is_image scheme path ≡ true → lowercase scheme ≡ codes "data"
image_scheme scheme path image = grind (arith, nat_tests, bytes_eq, bytes_eq-Decides)

image_type : (scheme path : List ℕ) → is_image scheme path ≡ true → has_image_type path ≡ true
image_type scheme path image = (and_parts (bytes_eq (lowercase scheme) (codes "data")) (has_image_type path) image).1

image_front : (base : Option Parts) (front : List ℕ) → All (λ b. is_plain_byte b ≡ true) front → is_image_front front ≡ true → ends_in_opaque_path front ≡ true → IfOk (parse_url base front) IsImage
image_front base front plain image ends =
    let scheme = take (mark_at front) front in
    let path = drop (mark_at front + 1) front in
    let end = opaque_end front ends in
    let is = (and_parts (has_scheme front) (is_image scheme path) image).1 in
    subst (λ (parsed : Parsed Parts). IfOk parsed IsImage)
    (sym (alone_at base front scheme path (kept_front front (plain_visible front plain) ∙ end.spelled) end.known (path_bytes front plain end) end.first))
    (image_scheme scheme path is, image_encoded path (image_type scheme path is))

pub slot_image : (base : Option Parts) (parts : List Given) (text : List ℕ) (texts : List (List ℕ)) → IsWebBase base → is_image_front (front_of parts) ≡ true → FillUrl parts (text ∷ texts) → IfOk (parse_url base (url_of parts (text ∷ texts))) IsImage
slot_image base parts text texts web image fills =
    front_has IsImage base parts text texts web fills (λ url is. (is.0, image_goes_on url.path _ is.1)) (λ p plain opened. image_front base (front_of parts) plain image (image_opened (front_of parts) p opened image))
