-- Stretches of a place that are read as they stand.
use Rattle.std.specs.Prelude.{◌≡◌, ℕ, ◌≤◌, ◌<◌, Bool, true, ◌||◌, ◌==◌, List, length, drop, slice_index}
use Rattle.hesc_specs.specs.Text.Ascii.{ampersand, double_quote, less_than, single_quote}
use Rattle.hesc_specs.specs.Text.Classes.{in_class}
use Rattle.hesc_specs.specs.declared.classes.Class.TheVariants.{ScriptSingleQuoted, ScriptDoubleQuoted, StyleSingleQuoted, StyleDoubleQuoted}
use Rattle.hesc_grammars.specs.declared.place.Place.{Place}
use Rattle.hesc_grammars.specs.declared.place.Place.TheVariants.{Text, DoubleAttribute, SingleAttribute, UnquotedAttribute, ScriptSingle, ScriptDouble, StyleSingle, StyleDouble, ScriptBody, StyleBody}
use Rattle.hesc_grammars.specs.declared.step.Mode.{Mode}
use Rattle.hesc_grammars.specs.declared.step.Mode.TheVariants.{Empty, Plain, Escaped, DoubleEscaped}
use Rattle.hesc_grammars.specs.declared.step.Step.{Step}
use Rattle.hesc_grammars.specs.declared.step.Step.TheVariants.{Byte}
use Rattle.hesc_grammars.specs.Html.{ends_unquoted, is_unquoted_error}

-- of so many bytes at the front each is an item that is read as itself, and the mode stays
pub record IsStretch (step : Mode → List ℕ → Step) (mode : Mode) (bytes : List ℕ) (count : ℕ) : Type 0 where
  pub within : count ≤ length bytes
  pub each : (k : ℕ) → k < count → step mode (drop k bytes) ≡ Byte 0 (slice_index bytes k) mode

-- a byte that is not read as itself in an unquoted value
abbrev pub is_special : ℕ → Bool
is_special b = ends_unquoted b || b == ampersand || is_unquoted_error b

-- `-`, by which a comment of a script may end
abbrev pub hyphen : ℕ
hyphen = 45

-- a byte that may not be read as itself where no comment of a script is open
abbrev pub ends_plain : Place → ℕ → Bool
ends_plain Text b = b == less_than || b == ampersand
ends_plain DoubleAttribute b = b == double_quote || b == ampersand
ends_plain SingleAttribute b = b == single_quote || b == ampersand
ends_plain (UnquotedAttribute end) b = is_special b
ends_plain ScriptSingle b = in_class ScriptSingleQuoted b
ends_plain ScriptDouble b = in_class ScriptDoubleQuoted b
ends_plain StyleSingle b = in_class StyleSingleQuoted b
ends_plain StyleDouble b = in_class StyleDoubleQuoted b
ends_plain ScriptBody b = b == less_than
ends_plain StyleBody b = b == less_than

-- a byte that may end the mode in a comment of a script, in which no other place is
abbrev pub ends_in_comment : Place → ℕ → Bool
ends_in_comment ScriptBody b = b == less_than || b == hyphen
ends_in_comment other b = true

-- a byte that may not be read as itself, or after which the mode may be another
abbrev pub ends_stretch : Place → Mode → ℕ → Bool
ends_stretch place Empty b = true
ends_stretch place Plain b = ends_plain place b
ends_stretch place Escaped b = ends_in_comment place b
ends_stretch place DoubleEscaped b = ends_in_comment place b
