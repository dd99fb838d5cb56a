-- What the rest of an input adds after a path (URL Standard, 4.4 URL parsing: path state, query state, fragment state).
use Rattle.std.specs.Prelude.{ℕ, List, Option}
use Rattle.url.specs.Ascii.{number_sign, question_mark}
use Rattle.url.specs.Input.{split_once}
use Rattle.html_urls.specs.Inputs.{kept_rest}

-- what stands before the first `#`, and what stands after it
abbrev pub before_fragment : List ℕ → List ℕ
before_fragment rest = (split_once number_sign (kept_rest rest)).0

abbrev pub fragment_of : List ℕ → Option (List ℕ)
fragment_of rest = (split_once number_sign (kept_rest rest)).1

-- what of that stands before the first `?`, and what stands after it
abbrev pub path_of : List ℕ → List ℕ
path_of rest = (split_once question_mark (before_fragment rest)).0

abbrev pub query_of : List ℕ → Option (List ℕ)
query_of rest = (split_once question_mark (before_fragment rest)).1
