-- A form: an input's start tag with any attributes, and a script that calls `alert` of a literal.
-- HTML Standard, 13.2.5.8 Tag name state, 13.2.5.32 Before attribute name state and
-- 13.2.5.40 Self-closing start tag state, in this profile: these tags alone, the first two in
-- lower case, without white space inside the second and third.
use Rattle.std.specs.Prelude.{ℕ, ◌-◌, List, [], ◌∷◌, Option, Some, None, codes, bytes_eq, drop, length, map, if◌then◌else◌}
use Rattle.std.specs.List.{AllByRecursion}
use Rattle.std.specs.Option.{option_or}
use Rattle.std.specs.Str.{IsUtf8}
use Rattle.hesc_grammars.specs.declared.place.Place.TheVariants.{ScriptSingle, ScriptBody}
use Rattle.hesc_places.specs.Pages.AttributeReadings.{Entry, attributes_at, differ}
use Rattle.hesc_places.specs.Pages.Parsers.{◌>>=◌, past, past_in_any_case, past_while}
use Rattle.hesc_grammars.specs.Places.{reading}
use Rattle.hesc_grammars.specs.Words.{is_white_space}

-- what is read in a form: its attributes in order, the script's literal, and the end
pub record FormRead : Type 0 where
  pub attributes : List Entry
  pub script : List ℕ
  pub end : ℕ

-- the value of the attribute of a name, the first of that name if there are more
abbrev pub value_of : List ℕ → List Entry → Option (List ℕ)
value_of name [] = None
value_of name (a ∷ others) = if bytes_eq name a.name then Some a.value else value_of name others

-- each value and the literal are texts
pub record IsTextForm (form : FormRead) : Type 0 where
  pub values : AllByRecursion (λ a. IsUtf8 a.value) form.attributes
  pub script : IsUtf8 form.script

abbrev pub form_found : List Entry → List ℕ → ℕ → FormRead
form_found attributes script end = record { attributes = attributes; script = script; end = end }

-- white space, at most one `/`, and `>`
abbrev pub tag_end : List ℕ → Option (List ℕ)
tag_end bytes =
    option_or (past (codes "/>") (past_while is_white_space bytes)) (past (codes ">") (past_while is_white_space bytes))

-- the literal in a body that is one call of `alert`
unfoldable pub alerted : List ℕ → Option (List ℕ)
alerted body = do
  inside ← past (codes "alert('") body
  literal ← reading ScriptSingle inside
  if bytes_eq (drop literal.1 inside) (codes "');") then Some literal.0 else None

-- a body that calls `alert`, and its end tag
unfoldable pub script_at : List ℕ → Option (List ℕ × List ℕ)
script_at bytes = do
  body ← reading ScriptBody bytes
  literal ← alerted body.0
  rest ← past_in_any_case (codes "</script>") (drop body.1 bytes)
  Some (literal, rest)

-- all that follows the attributes: the literal, and the bytes after the script
unfoldable pub after_attributes : List ℕ → Option (List ℕ × List ℕ)
after_attributes bytes = do
  tag ← tag_end bytes
  body ← past (codes "<script>") tag
  script_at body

-- the form with these attributes, in so many bytes
unfoldable pub with_attributes : ℕ → List Entry × List ℕ → Option FormRead
with_attributes total found = do
  script ← after_attributes found.1
  if differ (map (λ entry. entry.name) found.0)
      then Some (form_found found.0 script.0 (total - length script.1))
      else None

-- the reading of a form from the front of the bytes, if there is one
unfoldable pub form_reading : List ℕ → Option FormRead
form_reading bytes = do
  inside ← past (codes "<input") bytes
  with_attributes (length bytes) (attributes_at (length inside) inside)
