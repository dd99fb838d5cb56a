-- A text in the query (URL Standard, 4.4 URL parsing: query state).
use Rattle.std.specs.Prelude.{◌≡◌, ℕ, true, false, List, [], ◌++◌, Some, is_some, unwrap_or, option_map}
use Rattle.percent_encoding.specs.Percent.{percent_encode}
use Rattle.url.specs.declared.sets.TheConstants.{FRAGMENT}
use Rattle.url.specs.Ascii.{number_sign, question_mark}
use Rattle.url.specs.Input.{split_once}
use Rattle.url.specs.Parts.{Parts, kind_of, query_set}
use Rattle.html_urls.specs.Components.{component}
use Rattle.html_urls.specs.Inputs.{EndsVisibly, kept}
use Rattle.html_urls.specs.Parts.Rests.{before_fragment, fragment_of}

-- the front of a URL has a `?`, and no `#`
pub record EndsInQuery (front : List ℕ) : Type 0 where
  pub ends : EndsVisibly front
  pub query : is_some (split_once question_mark (kept front)).1 ≡ true
  pub no_fragment : is_some (split_once number_sign (kept front)).1 ≡ false

-- what the rest adds to the query: all up to a `#`, percent-encoded as the parser does
abbrev pub query_after : Parts → List ℕ → List ℕ
query_after url rest = percent_encode (query_set (kind_of url)) (before_fragment rest)

-- the query goes on with the text and the rest, and a fragment follows where the rest has one
abbrev pub query_goes_on : List ℕ → List ℕ → Parts → Parts
query_goes_on text rest url = record url {
  query = Some (unwrap_or url.query [] ++ component text ++ query_after url rest);
  fragment = option_map (percent_encode FRAGMENT) (fragment_of rest);
}
