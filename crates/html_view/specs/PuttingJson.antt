-- What code puts of the JSON of data.
use Rattle.std.specs.Prelude.{◌≡◌, ℕ, List, ◌++◌, Option, Some, None, Result, Ok, Err}
use Rattle.std.specs.Str.{IsUtf8}
use Rattle.hesc_specs.specs.Text.Beginning.{TookBeginning}
use Rattle.html_json.specs.Encoding.{json_encoding}
use Rattle.html_view.specs.declared.unroll.Stop.{Stop}
use Rattle.html_view.specs.declared.unroll.Stop.TheVariants.{Refused, Failed}

-- it was put
pub record PutJson (told : Option (List ℕ)) (old new : List ℕ) : Type 0 where
  pub text : List ℕ
  pub same : told ≡ Some text
  pub utf8 : IsUtf8 text
  pub taken : new ≡ old ++ json_encoding text

-- or a beginning of it, or there is none
abbrev pub PutsJson : {T F : Type 0} → Option (List ℕ) → List ℕ → List ℕ → Result T (Stop F) → Type 0
PutsJson told old new (Ok done) = PutJson told old new
PutsJson told old new (Err Refused) = told ≡ None
PutsJson told old new (Err (Failed fault)) = (text : List ℕ) → told ≡ Some text → TookBeginning old new (json_encoding text)
