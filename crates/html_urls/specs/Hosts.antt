-- Which fronts of a URL have fixed its host (URL Standard, 4.4 URL parsing: scheme start state, scheme state, host state, no scheme state, relative state, relative slash state).
use Rattle.std.specs.Prelude.{◌≡◌, ◌≢◌, ◌⊎◌, ℕ, ◌<◌, Bool, true, not, ◌&&◌, ◌||◌, ◌==◌, nat_lt, List, ◌∷◌, ◌++◌, length, take, slice_index, codes, bytes_eq, Option, IfSome, All}
use Rattle.std.specs.List.{list_all, list_any}
use Rattle.url.specs.declared.scheme.SchemeType.TheVariants.{SpecialNotFile}
use Rattle.url.specs.Ascii.{backslash, slash}
use Rattle.url.specs.Input.{lowercase}
use Rattle.url.specs.Parts.{Parts, kind_of}
use Rattle.html_urls.specs.Inputs.{IsNot}
use Rattle.html_urls.specs.Links.{is_mark, mark_at}

-- `http` or `https`, in any case
abbrev pub IsWebScheme : List ℕ → Type 0
IsWebScheme scheme = (lowercase scheme ≡ codes "http") ⊎ (lowercase scheme ≡ codes "https")

abbrev pub is_web_scheme : List ℕ → Bool
is_web_scheme scheme = bytes_eq (lowercase scheme) (codes "http") || bytes_eq (lowercase scheme) (codes "https")

-- a byte of the first segment of a path with no `/` at its front: none of `:`, `/`, `?`, `#` and `\`
abbrev pub is_first_byte : ℕ → Bool
is_first_byte b = not (is_mark b || b == backslash)

-- such a scheme, `://`, a host and `/`; or `//`, a host and `/`; or one `/`, and no second one after it; or such a first segment, which is not empty, and `/`
pub data FixesHost : List ℕ → Type 0 where
  absolute : (scheme host rest : List ℕ) → IsWebScheme scheme → 0 < length host → All (IsNot slash) host → FixesHost (scheme ++ codes "://" ++ host ++ slash ∷ rest)
  hosted : (host rest : List ℕ) → 0 < length host → All (IsNot slash) host → FixesHost (codes "//" ++ host ++ slash ∷ rest)
  rooted : (rest : List ℕ) → slice_index rest 0 ≢ slash → FixesHost (slash ∷ rest)
  relative : (first rest : List ℕ) → 0 < length first → All (λ b. is_first_byte b ≡ true) first → FixesHost (first ++ slash ∷ rest)

-- such a first segment alone, of which the path of the base is a folder: what follows it may hold a `:`, and then it was a scheme
abbrev pub IsFirstSegment : List ℕ → Type 0
IsFirstSegment front = (0 < length front) × All (λ b. is_first_byte b ≡ true) front

abbrev pub is_first_segment : List ℕ → Bool
is_first_segment front = nat_lt 0 (length front) && list_all is_first_byte front

-- such a first segment and `/`, at the front
abbrev pub has_first_segment : List ℕ → Bool
has_first_segment front =
    nat_lt 0 (mark_at front) && slice_index front (mark_at front) == slash && not (list_any (λ b. b == backslash) (take (mark_at front) front))

-- a page of the web: its URL, where there is one, is special, and no file
abbrev pub IsWebBase : Option Parts → Type 0
IsWebBase base = IfSome base (λ url. kind_of url ≡ SpecialNotFile)
