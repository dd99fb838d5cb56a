-- Which texts are taken as whole URLs (URL Standard, 4.4 URL parsing: scheme start state, scheme state, no scheme state).
use Rattle.std.specs.Prelude.{◌≡◌, ◌⊎◌, ℕ, Bool, true, not, ◌||◌, ◌==◌, List, take, slice_index, codes, bytes_eq, IsSomeAnd, Option}
use Rattle.std.specs.List.{position_or_len}
use Rattle.url.specs.Ascii.{colon, number_sign, question_mark, slash}
use Rattle.url.specs.Input.{lowercase}
use Rattle.url.specs.Parts.{Parts}

-- one of `:`, `/`, `?` and `#`
abbrev pub is_mark : ℕ → Bool
is_mark b = b == colon || b == slash || b == question_mark || b == number_sign

-- how many bytes stand before the first of them
abbrev pub mark_at : List ℕ → ℕ
mark_at text = position_or_len is_mark text

-- the first of them is a `:`, so that what stands before it may be a scheme
abbrev pub has_scheme : List ℕ → Bool
has_scheme text = slice_index text (mark_at text) == colon

-- `http`, `https` or `mailto`
abbrev pub is_link_scheme : List ℕ → Bool
is_link_scheme scheme = bytes_eq scheme (codes "http") || bytes_eq scheme (codes "https") || bytes_eq scheme (codes "mailto")

-- the first mark is no `:`, or one of these schemes, in any case, stands before it
abbrev pub is_link : List ℕ → Bool
is_link text = not (has_scheme text) || is_link_scheme (lowercase (take (mark_at text) text))

-- the URL has one of these schemes
abbrev pub HasLinkScheme : Parts → Type 0
HasLinkScheme url = is_link_scheme url.scheme ≡ true

-- the URL has one of these schemes, or that of the page
abbrev pub HasLinkOrPageScheme : Option Parts → Parts → Type 0
HasLinkOrPageScheme base url = HasLinkScheme url ⊎ IsSomeAnd base (λ page. url.scheme ≡ page.scheme)
