-- What is open at the end of a URL's beginning (URL Standard, 4.4 URL parsing: path state, opaque path state, query state, fragment state).
use Rattle.std.specs.Prelude.{ℕ, Bool, true, false, not, ◌&&◌, ◌||◌, ◌==◌, eqb, List, [], ◌∷◌, ◌+◌, bytes_eq, drop, take, slice_index, codes, Option, Some, None, if◌then◌else◌}
use Rattle.std.specs.List.{list_any, position_or_len, starts_with}
use Rattle.url.specs.Ascii.{colon, dot, number_sign, percent_sign, question_mark, slash}
use Rattle.url.specs.Input.{lowercase}
use Rattle.html_urls.specs.declared.open_part.OpenPart.{OpenPart}
use Rattle.html_urls.specs.declared.open_part.OpenPart.TheVariants.{NewSegment, DotSegment, NamedSegment, FirstSegment, OpaquePath, Query, Fragment}
use Rattle.html_urls.specs.declared.parts.UrlSlot.{UrlSlot}
use Rattle.html_urls.specs.declared.place.UrlPlace.TheVariants as place
use Rattle.html_urls.specs.Hosts.{has_first_segment, is_first_segment, is_web_scheme}
use Rattle.html_urls.specs.Images.{is_image_front}
use Rattle.html_urls.specs.Links.{has_scheme, is_link, mark_at}
use Rattle.html_urls.specs.Parts.Segments.{is_dot_byte}

-- a segment ends before it
abbrev pub is_end : ℕ → Bool
is_end b = b == slash || b == question_mark || b == number_sign

-- a byte that begins a segment which reads as `.` or `..`
abbrev pub begins_dots : ℕ → Bool
begins_dots b = b == dot || b == percent_sign

-- after a byte of a segment: whether with what follows it may read as `.` or `..`
abbrev pub after_segment_byte : OpenPart → ℕ → OpenPart
after_segment_byte NamedSegment b = NamedSegment
after_segment_byte FirstSegment b = FirstSegment
after_segment_byte OpaquePath b = if is_dot_byte b then DotSegment else NamedSegment
after_segment_byte NewSegment b = if begins_dots b then DotSegment else NamedSegment
after_segment_byte DotSegment b = if is_dot_byte b then DotSegment else NamedSegment
after_segment_byte Query b = if is_dot_byte b then DotSegment else NamedSegment
after_segment_byte Fragment b = if is_dot_byte b then DotSegment else NamedSegment

-- after a byte of a path, in which a `/` begins a segment unless it is opaque, and of a query
abbrev pub after_path_byte : OpenPart → ℕ → OpenPart
after_path_byte part b =
    if b == slash then NewSegment
    else (if b == question_mark then Query
    else (if b == number_sign then Fragment
    else after_segment_byte part b))

abbrev pub after_query_byte : ℕ → OpenPart
after_query_byte b = if b == number_sign then Fragment else Query

abbrev pub after_opaque_byte : ℕ → OpenPart
after_opaque_byte b =
    if b == question_mark then Query
    else (if b == number_sign then Fragment
    else OpaquePath)

-- after a byte of markup
abbrev pub after_byte : OpenPart → ℕ → OpenPart
after_byte NewSegment b = after_path_byte NewSegment b
after_byte DotSegment b = after_path_byte DotSegment b
after_byte NamedSegment b = after_path_byte NamedSegment b
after_byte FirstSegment b = after_path_byte FirstSegment b
after_byte OpaquePath b = after_opaque_byte b
after_byte Query b = after_query_byte b
after_byte Fragment b = Fragment

-- after markup in which no slot has stood
abbrev pub after_front : OpenPart → List ℕ → OpenPart
after_front part [] = part
after_front part (b ∷ markup) = after_front (after_byte part b) markup

-- a segment that may read as `.` or `..`
abbrev pub may_be_dots : OpenPart → Bool
may_be_dots DotSegment = true
may_be_dots NewSegment = false
may_be_dots NamedSegment = false
may_be_dots FirstSegment = false
may_be_dots OpaquePath = false
may_be_dots Query = false
may_be_dots Fragment = false

-- after markup behind a slot, unless such a segment ends in it
abbrev pub after_markup : OpenPart → List ℕ → Option OpenPart
after_markup part [] = Some part
after_markup part (b ∷ markup) =
    if may_be_dots part && is_end b then None else after_markup (after_byte part b) markup

-- the first segment of a relative path, in which a `:` ends a scheme
abbrev pub is_first : OpenPart → Bool
is_first NewSegment = false
is_first DotSegment = false
is_first NamedSegment = false
is_first FirstSegment = true
is_first OpaquePath = false
is_first Query = false
is_first Fragment = false

-- markup behind a slot there, in which a `:` does, with some text
abbrev pub ends_scheme : OpenPart → List ℕ → Bool
ends_scheme part markup = is_first part && has_scheme markup

-- the opaque path of a URL, in which a `/` begins another path where nothing stands before it
abbrev pub is_opaque : OpenPart → Bool
is_opaque NewSegment = false
is_opaque DotSegment = false
is_opaque NamedSegment = false
is_opaque FirstSegment = false
is_opaque OpaquePath = true
is_opaque Query = false
is_opaque Fragment = false

-- a `/` stands in markup before any `?` and `#`
abbrev pub has_slash : List ℕ → Bool
has_slash markup = slice_index markup (position_or_len is_end markup) == slash

-- markup behind a slot with which, and with some text, the URL has another scheme or another kind of path
abbrev pub is_unfixed : OpenPart → List ℕ → Bool
is_unfixed part markup = ends_scheme part markup || (is_opaque part && has_slash markup)

-- the slot that stands here, and what is open after its text: one that a segment may begin with names it
abbrev pub slot_at : OpenPart → Option UrlSlot
slot_at NewSegment = Some (record { place = place.Path; begins_segment = true })
slot_at NamedSegment = Some (record { place = place.Path; begins_segment = false })
slot_at FirstSegment = Some (record { place = place.Path; begins_segment = false })
slot_at OpaquePath = Some (record { place = place.OpaquePath; begins_segment = false })
slot_at DotSegment = None
slot_at Query = Some (record { place = place.Query; begins_segment = false })
slot_at Fragment = Some (record { place = place.Fragment; begins_segment = false })

abbrev pub after_text : OpenPart → OpenPart
after_text NewSegment = NamedSegment
after_text DotSegment = DotSegment
after_text NamedSegment = NamedSegment
after_text FirstSegment = FirstSegment
after_text OpaquePath = OpaquePath
after_text Query = Query
after_text Fragment = Fragment

-- ---- the markup before the first slot

abbrev pub has_byte : ℕ → List ℕ → Bool
has_byte mark bytes = list_any (λ b. b == mark) bytes

-- `//`, a byte of a host, and a `/` somewhere behind it
abbrev pub has_host : List ℕ → Bool
has_host (a ∷ b ∷ c ∷ more) = a == slash && b == slash && not (c == slash) && has_byte slash more
has_host (a ∷ b ∷ []) = false
has_host (a ∷ []) = false
has_host [] = false

abbrev pub begins : List ℕ → List ℕ → Bool
begins bytes mark = starts_with eqb bytes mark

-- one `/`, and no second one after it
abbrev pub is_rooted : List ℕ → Bool
is_rooted front = begins front (codes "/") && not (begins front (codes "//"))

-- `http:` or `https:`, in any case, and such a host
abbrev pub has_web_host : List ℕ → Bool
has_web_host front =
    slice_index front (mark_at front) == colon && is_web_scheme (take (mark_at front) front) && has_host (drop (mark_at front + 1) front)

-- one of these, such a host with the scheme of the page, or a first segment and `/`
abbrev pub is_fixed : List ℕ → Bool
is_fixed front = is_rooted front || has_first_segment front || has_host front || has_web_host front

-- a segment that is named, where it is the first one
abbrev pub as_first : OpenPart → OpenPart
as_first NewSegment = NewSegment
as_first DotSegment = DotSegment
as_first NamedSegment = FirstSegment
as_first FirstSegment = FirstSegment
as_first OpaquePath = OpaquePath
as_first Query = Query
as_first Fragment = Fragment

-- what is open at its end
abbrev pub open_of_link : List ℕ → Option OpenPart
open_of_link front =
    if has_byte number_sign front then Some Fragment
    else (if has_byte question_mark front then Some Query
    else (if is_fixed front then Some (after_front NewSegment front)
    else (if is_first_segment front then Some (as_first (after_front NewSegment front))
    else None)))

-- `mailto` or `tel`, in any case
abbrev pub is_address_scheme : List ℕ → Bool
is_address_scheme scheme = bytes_eq (lowercase scheme) (codes "mailto") || bytes_eq (lowercase scheme) (codes "tel")

-- such a scheme and `:`
abbrev pub has_address_scheme : List ℕ → Bool
has_address_scheme front = has_scheme front && is_address_scheme (take (mark_at front) front)

-- one of these, or `data:` and the type of an image
abbrev pub has_opaque_front : List ℕ → Bool
has_opaque_front front = has_address_scheme front || is_image_front front

-- and no `/` behind the scheme, `?` or `#`
abbrev pub ends_in_opaque_path : List ℕ → Bool
ends_in_opaque_path front =
    has_opaque_front front && not (begins (drop (mark_at front + 1) front) (codes "/")) && not (has_byte question_mark front) && not (has_byte number_sign front)

-- the same, if a text may stand there: not behind a scheme whose URL a browser decodes, and runs or shows
abbrev pub open_of : List ℕ → Option OpenPart
open_of front =
    if ends_in_opaque_path front then Some OpaquePath
    else (if is_link front || has_address_scheme front then open_of_link front
    else None)
