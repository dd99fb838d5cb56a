-- A text in the opaque path of a `mailto:`, a `tel:` or a `data:` URL (URL Standard, 4.4 URL parsing: scheme state, opaque path state).
use Rattle.std.specs.Prelude.{◌≡◌, ◌≢◌, ◌⊎◌, ℕ, Bool, true, not, ◌&&◌, ◌||◌, ◌==◌, nat_lt, List, [], ◌∷◌, ◌++◌, slice_index, codes, option_map, All}
use Rattle.percent_encoding.specs.Percent.{percent_encode}
use Rattle.url.specs.declared.sets.TheConstants.{FRAGMENT, OPAQUE_PATH}
use Rattle.url.specs.Ascii.{colon, number_sign, question_mark, slash, space}
use Rattle.url.specs.Input.{lowercase}
use Rattle.url.specs.Parts.{Parts, kind_of, query_set}
use Rattle.html_urls.specs.Components.{address}
use Rattle.html_urls.specs.Inputs.{EndsVisibly, IsVisible, kept}
use Rattle.html_urls.specs.Parts.Rests.{fragment_of, path_of, query_of}

-- `mailto`, `tel` or `data`, in any case
abbrev pub IsOpaqueScheme : List ℕ → Type 0
IsOpaqueScheme scheme = (lowercase scheme ≡ codes "mailto") ⊎ ((lowercase scheme ≡ codes "tel") ⊎ (lowercase scheme ≡ codes "data"))

-- no white space, no control and neither `#` nor `?`
abbrev pub is_opaque_byte : ℕ → Bool
is_opaque_byte b = nat_lt space b && not (b == number_sign || b == question_mark)

-- such a scheme, `:` and a path that begins with no `/`
pub data BeginsOpaque : List ℕ → Type 0 where
  opaque : (scheme path : List ℕ) → IsOpaqueScheme scheme → All (λ b. is_opaque_byte b ≡ true) path → slice_index path 0 ≢ slash → BeginsOpaque (scheme ++ colon ∷ path)

-- the front of a URL ends in such a path
pub record EndsInOpaquePath (front : List ℕ) : Type 0 where
  pub ends : EndsVisibly front
  pub opaque : BeginsOpaque (kept front)

-- the text may stand before the rest: no `/` follows an empty one, which would begin a path that is not opaque, and no white space ends the path
pub record FitsOpaquePath (text rest : List ℕ) : Type 0 where
  pub visible : All IsVisible (path_of rest)
  pub opaque : text ≡ [] → slice_index (path_of rest) 0 ≢ slash

-- the path goes on with the text and the path of the rest, and the rest's query and fragment follow
abbrev pub opaque_path_goes_on : List ℕ → List ℕ → Parts → Parts
opaque_path_goes_on text rest url = record url {
  path = url.path ++ address text ++ percent_encode OPAQUE_PATH (path_of rest);
  query = option_map (percent_encode (query_set (kind_of url))) (query_of rest);
  fragment = option_map (percent_encode FRAGMENT) (fragment_of rest);
}
