-- In which part of a URL its front ends.
use Rattle.std.specs.Prelude.{⊤, ℕ, List, Option}
use Rattle.url.specs.Parts.{Parts}
use Rattle.html_urls.specs.declared.place.UrlPlace.{UrlPlace}
use Rattle.html_urls.specs.declared.place.UrlPlace.TheVariants.{Path, OpaquePath, Query, Fragment}
use Rattle.html_urls.specs.Hosts.{IsWebBase}
use Rattle.html_urls.specs.Parts.Fragments.{EndsInFragment, fragment_goes_on}
use Rattle.html_urls.specs.Parts.OpaquePaths.{EndsInOpaquePath, FitsOpaquePath, opaque_path_goes_on}
use Rattle.html_urls.specs.Parts.Paths.{EndsInPath, FitsSegment, path_goes_on}
use Rattle.html_urls.specs.Parts.Queries.{EndsInQuery, query_goes_on}

-- the front ends in this part
abbrev pub EndsIn : UrlPlace → List ℕ → Type 0
EndsIn Path front = EndsInPath front
EndsIn OpaquePath front = EndsInOpaquePath front
EndsIn Query front = EndsInQuery front
EndsIn Fragment front = EndsInFragment front

-- the text fits between the front and the rest: any text in a query and in a fragment
abbrev pub Fits : UrlPlace → List ℕ → List ℕ → List ℕ → Type 0
Fits Path front text rest = FitsSegment front text rest
Fits OpaquePath front text rest = FitsOpaquePath text rest
Fits Query front text rest = ⊤
Fits Fragment front text rest = ⊤

-- the base suits the part: for a path a page of the web, or none
abbrev pub SuitsPlace : UrlPlace → Option Parts → Type 0
SuitsPlace Path base = IsWebBase base
SuitsPlace OpaquePath base = ⊤
SuitsPlace Query base = ⊤
SuitsPlace Fragment base = ⊤

-- the part goes on with the text and the rest
abbrev pub goes_on : UrlPlace → List ℕ → List ℕ → Parts → Parts
goes_on Path = path_goes_on
goes_on OpaquePath = opaque_path_goes_on
goes_on Query = query_goes_on
goes_on Fragment = fragment_goes_on
