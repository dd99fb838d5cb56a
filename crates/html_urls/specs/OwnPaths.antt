-- Texts that are a whole URL on the page's own host (URL Standard, 4.4 URL parsing: no scheme state, relative state, relative slash state, path state; 4.1 URL representation: single-dot and double-dot URL path segment).
use Rattle.std.specs.Prelude.{ℕ, Bool, true, false, not, ◌&&◌, List, Option, Some, None}
use Rattle.html_urls.specs.declared.open_part.OpenPart.{OpenPart}
use Rattle.html_urls.specs.declared.open_part.OpenPart.TheVariants.{NewSegment}
use Rattle.html_urls.specs.OpenParts.{after_markup, is_rooted, may_be_dots}
use Rattle.html_urls.specs.Slots.{is_plain}

-- the URL ends where this is open, and the segment that ends there may not be read as `.` or `..`
abbrev pub may_end : Option OpenPart → Bool
may_end None = false
may_end (Some part) = not (may_be_dots part)

-- one piece of markup with no slot: plain, one `/` and no second one after it, and no segment that may be read as `.` or `..`
abbrev pub is_own_path : List ℕ → Bool
is_own_path text = is_plain text true && is_rooted text && may_end (after_markup NewSegment text)
