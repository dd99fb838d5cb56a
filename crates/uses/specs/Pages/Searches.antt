-- A search page.
use Rattle.std.specs.Prelude.{ℕ, List, ◌++◌, codes}
use Rattle.html_escape.specs.declared.encoder.Encoder.TheVariants.{DoubleQuotedAttribute, ScriptDoubleQuoted}
use Rattle.hesc_places.specs.Words.{enclosed}
use Rattle.hesc_grammars.specs.declared.place.Place.TheVariants.{DoubleAttribute, ScriptDouble}

-- the query stands in a field and in a script, each time enclosed for its place
abbrev pub search_text : List ℕ → List ℕ
search_text query =
    codes "<input value=" ++ enclosed DoubleQuotedAttribute DoubleAttribute query ++ codes "><script>show(" ++ enclosed ScriptDoubleQuoted ScriptDouble query
    ++ codes ")</script>"
