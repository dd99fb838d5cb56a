-- A text in the path (URL Standard, 4.4 URL parsing: path state).
use Rattle.std.specs.Prelude.{◌≡◌, ◌⊎◌, ℕ, ◌<◌, Bool, true, false, not, ◌||◌, ◌==◌, List, [], ◌∷◌, ◌++◌, length, option_map, All}
use Rattle.percent_encoding.specs.Percent.{percent_encode}
use Rattle.url.specs.declared.sets.TheConstants.{FRAGMENT, PATH}
use Rattle.url.specs.Ascii.{backslash, number_sign, question_mark, slash}
use Rattle.url.specs.Parts.{Parts, kind_of, query_set}
use Rattle.html_urls.specs.Components.{component}
use Rattle.html_urls.specs.Hosts.{FixesHost, IsFirstSegment}
use Rattle.html_urls.specs.Inputs.{EndsVisibly, kept}
use Rattle.html_urls.specs.Links.{has_scheme}
use Rattle.html_urls.specs.Parts.Rests.{fragment_of, path_of, query_of}
use Rattle.html_urls.specs.Parts.Segments.{HasNoDotSegments, IsNoDotSegment, last_segment}

-- none of `#`, `?` and `\`
abbrev pub is_path_byte : ℕ → Bool
is_path_byte b = not (b == number_sign || b == question_mark || b == backslash)

-- each byte may stand in a path
abbrev pub IsPathText : List ℕ → Type 0
IsPathText bytes = All (λ b. is_path_byte b ≡ true) bytes

-- the front of a URL ends in its path, of which the host is fixed or the first segment of a relative path is open, and its open segment is not
-- read as `.` or `..`
pub record EndsInPath (front : List ℕ) : Type 0 where
  pub ends : EndsVisibly front
  pub plain : IsPathText (kept front)
  pub fixed : FixesHost (kept front) ⊎ IsFirstSegment (kept front)
  pub resolved : IsNoDotSegment (last_segment (kept front))

-- the text may stand between the front and the rest: no segment from the open one on is read as `.` or `..`, after `/` alone it is not empty, and
-- in the first segment of a relative path no `:` ends a scheme
pub record FitsSegment (front text rest : List ℕ) : Type 0 where
  pub plain : IsPathText (path_of rest)
  pub resolved : HasNoDotSegments (last_segment (kept front) ++ component text ++ path_of rest)
  pub some : kept front ≡ slash ∷ [] → 0 < length text
  pub scheme : IsFirstSegment (kept front) → has_scheme (path_of rest) ≡ false

-- what the rest adds to the path, percent-encoded as the parser does
abbrev pub path_after : List ℕ → List ℕ
path_after rest = percent_encode PATH (path_of rest)

-- the path goes on with the text and the path of the rest, and the rest's query and fragment follow
abbrev pub path_goes_on : List ℕ → List ℕ → Parts → Parts
path_goes_on text rest url = record url {
  path = url.path ++ component text ++ path_after rest;
  query = option_map (percent_encode (query_set (kind_of url))) (query_of rest);
  fragment = option_map (percent_encode FRAGMENT) (fragment_of rest);
}
