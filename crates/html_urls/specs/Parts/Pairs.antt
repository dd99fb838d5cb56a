-- The strings of a query (URL Standard, 5.1 application/x-www-form-urlencoded parsing).
use Rattle.std.specs.Prelude.{ℕ, [], length, Option, Some, None, Ok, Err, unwrap_or}
use Rattle.form_urlencoded.specs.Form.{ampersand, split}
use Rattle.url.specs.Parts.{Parts}
use Rattle.url.specs.Parser.{Parsed}

-- how many strings the query of the URL has between its `&`; each but an empty one is a pair
abbrev pub string_count : Parsed Parts → Option ℕ
string_count (Ok url) = Some (length (split ampersand (unwrap_or url.query [])))
string_count (Err e) = None
