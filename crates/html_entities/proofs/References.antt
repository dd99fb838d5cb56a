-- The rows of the definition make a table, and agree with the built-in one.
use Rattle.std.proofs.Common.{ℕ, ◌≡◌, Bool, true, false, ◌&&◌, List, [], ◌∷◌, Option, None, Some, refl, ap, ⊎_elim}
use Rattle.std.proofs.lemmas.Bool.{and_parts, cases_Bool}
use Rattle.std.proofs.lemmas.Slice.Eq.{bytes_eq-Decides}
use Rattle.std.specs.Str.{bytes_eq}
use Rattle.hesc_specs.specs.References.Rows.{Row, value_of}
use Rattle.hesc_specs.specs.References.TableFaults.{is_table}
use Rattle.hesc_table.specs.NamedRows.{named_rows}
use Rattle.hesc_table.specs.Rows.{are_near}
use Rattle.html_entities.specs.NamedReferences.{named_references}
use Rattle.html_entities.proofs.GoodRows.{good_rows}

pub references_are_table : is_table named_references ≡ true
unfolding lib.Utf8.encode
references_are_table = good_rows named_references refl refl

pub references_are_near : are_near named_references ≡ true
unfolding lib.Utf8.encode
references_are_near = refl

abbrev is_value : Option (List ℕ) → List ℕ → Bool
is_value None value = false
is_value (Some found) value = bytes_eq found value

is_value-Some : (found : Option (List ℕ)) (value : List ℕ) → is_value found value ≡ true → found ≡ Some value
is_value-Some None value h = absurd (cc)
is_value-Some (Some found) value h = ap Some ((bytes_eq-Decides found value).0 h)

-- rows give each name of other rows the value that it has there
abbrev agree_in : List Row → List Row → Bool
agree_in rows [] = true
agree_in rows (row ∷ others) = is_value (value_of rows row.0) row.1 && agree_in rows others

value_in : (rows others : List Row) → agree_in rows others ≡ true → (name value : List ℕ) → value_of others name ≡ Some value → value_of rows name ≡ Some value
value_in rows [] agree name value h = absurd (cc)
value_in rows (row ∷ others) agree name value h =
    let parts = and_parts (is_value (value_of rows row.0) row.1) (agree_in rows others) agree in
    ⊎_elim
    (λ (here : bytes_eq row.0 name ≡ true).
    let same : row.0 ≡ name = (bytes_eq-Decides row.0 name).0 here in
    let is : Some row.1 ≡ Some value = rw here at h in
    let found : row.1 ≡ value = cc in
    rw (same, found) at (is_value-Some (value_of rows row.0) row.1 parts.0))
    (λ (not_here : bytes_eq row.0 name ≡ false). value_in rows others parts.1 name value (rw not_here at h))
    (cases_Bool (bytes_eq row.0 name))

pub same_value : (name value : List ℕ) → value_of named_rows name ≡ Some value → value_of named_references name ≡ Some value
unfolding lib.Utf8.encode
same_value = value_in named_references named_rows refl
