-- The segments of a path, and those that read as dots (URL Standard, 4.1 URL representation: URL path segment, single-dot and double-dot URL path segment).
use Rattle.std.specs.Prelude.{◌≡◌, ℕ, Bool, not, ◌||◌, ◌==◌, List, codes, bytes_eq, length, Option, Some, None, Ok, Err, All}
use Rattle.url.specs.Ascii.{digit_two, dot, lower_e, percent_sign, slash, upper_e}
use Rattle.url.specs.Input.{rsplit_once}
use Rattle.url.specs.Parser.{Parsed}
use Rattle.url.specs.Parts.{Parts}
use Rattle.url.specs.Path.{dot_count}
use Rattle.url.specs.Relative.{segments}

-- the last segment
abbrev pub last_segment : List ℕ → List ℕ
last_segment path = (rsplit_once slash path).1

-- the segment reads as neither `.` nor `..`
abbrev pub IsNoDotSegment : List ℕ → Type 0
IsNoDotSegment segment = dot_count segment ≡ 0

-- no segment reads as one of them
abbrev pub HasNoDotSegments : List ℕ → Type 0
HasNoDotSegments path = All IsNoDotSegment (segments path)

-- how many segments the path of the URL has
abbrev pub segment_count : Parsed Parts → Option ℕ
segment_count (Ok url) = Some (length (segments url.path))
segment_count (Err e) = None

-- the text is neither of them: these two cannot be percent-encoded
abbrev pub may_be_segment : List ℕ → Bool
may_be_segment text = not (bytes_eq text (codes ".") || bytes_eq text (codes ".."))

-- a byte of `.`, `%2e` or `%2E`
abbrev pub is_dot_byte : ℕ → Bool
is_dot_byte b = b == dot || b == percent_sign || b == digit_two || b == upper_e || b == lower_e
