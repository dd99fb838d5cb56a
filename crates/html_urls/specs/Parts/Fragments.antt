-- A text in the fragment (URL Standard, 4.4 URL parsing: fragment state).
use Rattle.std.specs.Prelude.{◌≡◌, ℕ, true, List, [], ◌++◌, Some, is_some, unwrap_or}
use Rattle.percent_encoding.specs.Percent.{percent_encode}
use Rattle.url.specs.declared.sets.TheConstants.{FRAGMENT}
use Rattle.url.specs.Ascii.{number_sign}
use Rattle.url.specs.Input.{split_once}
use Rattle.url.specs.Parts.{Parts}
use Rattle.html_urls.specs.Components.{component}
use Rattle.html_urls.specs.Inputs.{EndsVisibly, kept, kept_rest}

-- the front of a URL has a `#`
pub record EndsInFragment (front : List ℕ) : Type 0 where
  pub ends : EndsVisibly front
  pub fragment : is_some (split_once number_sign (kept front)).1 ≡ true

-- the fragment goes on with the text and the rest
abbrev pub fragment_goes_on : List ℕ → List ℕ → Parts → Parts
fragment_goes_on text rest url = record url {
  fragment = Some (unwrap_or url.fragment [] ++ component text ++ percent_encode FRAGMENT (kept_rest rest));
}
