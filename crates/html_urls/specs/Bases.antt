-- Texts with which a URL begins that goes on in its markup (URL Standard, 4.4 URL parsing: scheme start state, scheme state, no scheme state, relative state, relative slash state, authority state, path state; 4.1 URL representation: single-dot and double-dot URL path segment).
use Rattle.std.specs.Prelude.{◌≡◌, ℕ, ◌+◌, Bool, true, false, not, ◌&&◌, ◌||◌, ◌==◌, List, [], ◌∷◌, drop, length, map, take, slice_index, codes, Option, Some, None, IfSome, Err, IsOkAnd, if◌then◌else◌}
use Rattle.std.specs.Char.{is_ascii_alphanumeric}
use Rattle.url.specs.declared.scheme.SchemeType.TheVariants.{SpecialNotFile}
use Rattle.url.specs.Ascii.{colon, number_sign, question_mark, slash}
use Rattle.url.specs.Parts.{Parts, cannot_be_a_base, kind_of}
use Rattle.html_urls.specs.declared.base.BehindBase.{BehindBase}
use Rattle.html_urls.specs.declared.base.BehindBase.TheVariants.{Slash, Tail, Segment}
use Rattle.html_urls.specs.declared.open_part.OpenPart.{OpenPart}
use Rattle.html_urls.specs.declared.open_part.OpenPart.TheVariants.{NewSegment, DotSegment, NamedSegment, FirstSegment, OpaquePath, Query, Fragment}
use Rattle.html_urls.specs.declared.parts.UrlFault.TheVariants as fault
use Rattle.html_urls.specs.Hosts.{is_web_scheme}
use Rattle.html_urls.specs.Links.{mark_at}
use Rattle.html_urls.specs.OpenParts.{after_markup, begins, is_rooted}
use Rattle.html_urls.specs.Shapes.{front_of}
use Rattle.html_urls.specs.Slots.{FillParts, Given, Told, bare, is_plain, later_slots, placed, told_slots}
use Rattle.html_urls.specs.declared.parts.UrlPart.{UrlPart}

-- ---- the text

-- `//` and a byte of a host
abbrev pub begins_host : List ℕ → Bool
begins_host (a ∷ b ∷ c ∷ more) = a == slash && b == slash && not (c == slash)
begins_host (a ∷ b ∷ []) = false
begins_host (a ∷ []) = false
begins_host [] = false

-- `http:` or `https:`, in any case, and these
abbrev pub has_origin : List ℕ → Bool
has_origin text =
    slice_index text (mark_at text) == colon && is_web_scheme (take (mark_at text) text) && begins_host (drop (mark_at text + 1) text)

-- empty, or one `/` and no second one after it, or an origin of the web
abbrev pub is_own_or_web : List ℕ → Bool
is_own_or_web text = length text == 0 || is_rooted text || has_origin text

-- what ends in an open segment that is new: before a segment that is behind its own `/`, before a `/` it is nothing
abbrev pub ends_new : BehindBase → Bool → Bool
ends_new Slash is_empty = is_empty
ends_new Tail is_empty = true
ends_new Segment is_empty = not is_empty

-- what ends in one that is named is before no other segment
abbrev pub ends_named : BehindBase → Bool
ends_named Slash = true
ends_named Tail = true
ends_named Segment = false

-- no segment may be read as `.` or `..`, and the query and the fragment have not begun
abbrev pub ends_as : BehindBase → Bool → Option OpenPart → Bool
ends_as behind is_empty (Some NamedSegment) = ends_named behind
ends_as behind is_empty (Some NewSegment) = ends_new behind is_empty
ends_as behind is_empty (Some DotSegment) = false
ends_as behind is_empty (Some FirstSegment) = false
ends_as behind is_empty (Some OpaquePath) = false
ends_as behind is_empty (Some Query) = false
ends_as behind is_empty (Some Fragment) = false
ends_as behind is_empty None = false

-- a base, before what follows
abbrev pub is_base : BehindBase → List ℕ → Bool
is_base behind text = is_plain text false && is_own_or_web text && ends_as behind (length text == 0) (after_markup NewSegment text)

-- one of the page's own host: empty, or one `/` and no second one after it
abbrev pub is_own_base : BehindBase → List ℕ → Bool
is_own_base behind text = is_base behind text && (length text == 0 || is_rooted text)

-- ---- what follows

-- a byte with which a segment begins behind a base
abbrev pub begins_word : ℕ → Bool
begins_word b = is_ascii_alphanumeric b || b == 95

-- by the first byte of the markup behind the base
abbrev pub behind_byte : ℕ → Option BehindBase
behind_byte b =
    if b == slash then Some Slash
    else (if b == question_mark || b == number_sign then Some Tail
    else (if begins_word b then Some Segment
    else None))

abbrev pub behind_base : List ℕ → Option BehindBase
behind_base [] = None
behind_base (b ∷ markup) = behind_byte b

abbrev pub is_same : BehindBase → Option BehindBase → Bool
is_same Slash (Some Slash) = true
is_same Tail (Some Tail) = true
is_same Segment (Some Segment) = true
is_same behind other = false

-- the markup goes on so by its first byte, and begins with no second `/`
abbrev pub goes_as : BehindBase → List ℕ → Bool
goes_as behind markup = is_same behind (behind_base markup) && not (begins markup (codes "//"))

-- the markup goes on so: with one `/`, with `?` or `#`, or with no `/`
abbrev pub goes_on_so : BehindBase → List ℕ → Bool
goes_on_so Slash markup = is_rooted markup
goes_on_so Tail markup = begins markup (codes "?") || begins markup (codes "#")
goes_on_so Segment markup = not (begins markup (codes "/"))

-- what is open behind the base
abbrev pub open_behind : BehindBase → OpenPart
open_behind Slash = NamedSegment
open_behind Tail = NamedSegment
open_behind Segment = NewSegment

-- the slots of the parts behind a base
abbrev pub slots_behind : BehindBase → List Given → Told
slots_behind behind parts = if goes_on_so behind (front_of parts) then later_slots 0 (open_behind behind) parts else Err (fault.NotFixed 0)

-- the texts fill them
abbrev pub FillBehind : BehindBase → List Given → List (List ℕ) → Type 0
FillBehind behind parts texts = IsOkAnd (slots_behind behind parts) (FillParts parts texts)

-- parts as they are given behind a base
abbrev pub given_behind : BehindBase → List UrlPart → List Given
given_behind behind parts = placed (told_slots (slots_behind behind (map bare parts))) (map bare parts)

-- a page of the web: its URL, where there is one, is special and no file, and its path is not opaque
abbrev pub IsWebPage : Option Parts → Type 0
IsWebPage page = IfSome page (λ url. (kind_of url ≡ SpecialNotFile) × (cannot_be_a_base url ≡ false))
