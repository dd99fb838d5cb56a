-- A text in a part of a URL: the laws as one.
use Rattle.std.proofs.Common.{◌≡◌, ℕ, List, ◌++◌, Option}
use Rattle.url.specs.Parts.{Parts}
use Rattle.url.specs.Parser.{parse_url}
use Rattle.html_urls.specs.Components.{component_at}
use Rattle.html_urls.specs.Heads.{on_ok}
use Rattle.html_urls.specs.Places.{EndsIn, Fits, SuitsPlace, goes_on}
use Rattle.html_urls.specs.declared.place.UrlPlace.{UrlPlace}
use Rattle.html_urls.specs.declared.place.UrlPlace.TheVariants.{Path, OpaquePath, Query, Fragment}
use Rattle.html_urls.proofs.Tails.Queries.{query_law}
use Rattle.html_urls.proofs.Tails.Fragments.{fragment_law}
use Rattle.html_urls.proofs.Paths.OpaquePaths.{opaque_law}
use Rattle.html_urls.proofs.Paths.PathLaw.{path_law}

-- THE URL LAW: the URL is that of the front, and the part that the front ends in goes on
pub url_law : (place : UrlPlace) (base : Option Parts) (front text rest : List ℕ) → EndsIn place front → Fits place front text rest → SuitsPlace place base →
    parse_url base (front ++ component_at place text ++ rest) ≡ on_ok (goes_on place text rest) (parse_url base front)
url_law Path base front text rest ends fits suits = path_law base front text rest suits ends fits
url_law OpaquePath base front text rest ends fits suits = opaque_law base front text rest ends fits
url_law Query base front text rest ends fits suits = query_law base front text rest ends
url_law Fragment base front text rest ends fits suits = fragment_law base front text rest ends
