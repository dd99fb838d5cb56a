-- The head of a URL: its scheme, user name, password, host and port.
use Rattle.std.specs.Prelude.{Ok, Err}
use Rattle.url.specs.Head.{head_only}
use Rattle.url.specs.Parts.{Parts}
use Rattle.url.specs.Parser.{Parsed}

-- the URL changed, or the same refusal
abbrev pub on_ok : (Parts → Parts) → Parsed Parts → Parsed Parts
on_ok change (Ok url) = Ok (change url)
on_ok change (Err e) = Err e

-- the head of the URL, or the same refusal
abbrev pub head_of : Parsed Parts → Parsed Parts
head_of parsed = on_ok head_only parsed
