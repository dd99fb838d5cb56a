-- The classes as constants: each with its place among the variants.
use Rattle.std.proofs.Common.{[], lit<, refl}
use Rattle.hesc_specs.specs.contracts.classes.Class.{the_row}
use Rattle.hesc_specs.specs.declared.classes.Class.TheVariants as class
use Rattle.hesc_specs.proofs.classes.Class.TheLaws.{the_row_plain}
use Rattle.hesc_core.proofs.HandsOnConstant.{Constant, Enum}

abbrev pub classes : Enum
classes = record { P = the_row; facts_only = the_row_plain; last = λ x. tt; only = λ x l. refl }

abbrev pub text_minimal : Constant classes
text_minimal = record { value = class.TextMinimal; tag = 0; small = tt; is = ([], (refl, (tt, (refl, tt)))); typed = (tt, (record { fits = lit< tt }, tt)) }

abbrev pub text : Constant classes
text = record { value = class.Text; tag = 1; small = tt; is = ([], (refl, (tt, (refl, tt)))); typed = (tt, (record { fits = lit< tt }, tt)) }

abbrev pub double_quoted_attribute : Constant classes
double_quoted_attribute = record { value = class.DoubleQuotedAttribute; tag = 2; small = tt; is = ([], (refl, (tt, (refl, tt)))); typed = (tt, (record { fits = lit< tt }, tt)) }

abbrev pub single_quoted_attribute : Constant classes
single_quoted_attribute = record { value = class.SingleQuotedAttribute; tag = 3; small = tt; is = ([], (refl, (tt, (refl, tt)))); typed = (tt, (record { fits = lit< tt }, tt)) }

abbrev pub quoted_attribute : Constant classes
quoted_attribute = record { value = class.QuotedAttribute; tag = 4; small = tt; is = ([], (refl, (tt, (refl, tt)))); typed = (tt, (record { fits = lit< tt }, tt)) }

abbrev pub safe : Constant classes
safe = record { value = class.Safe; tag = 5; small = tt; is = ([], (refl, (tt, (refl, tt)))); typed = (tt, (record { fits = lit< tt }, tt)) }

abbrev pub unquoted_attribute : Constant classes
unquoted_attribute = record { value = class.UnquotedAttribute; tag = 6; small = tt; is = ([], (refl, (tt, (refl, tt)))); typed = (tt, (record { fits = lit< tt }, tt)) }

abbrev pub script_single_quoted : Constant classes
script_single_quoted = record { value = class.ScriptSingleQuoted; tag = 7; small = tt; is = ([], (refl, (tt, (refl, tt)))); typed = (tt, (record { fits = lit< tt }, tt)) }

abbrev pub script_double_quoted : Constant classes
script_double_quoted = record { value = class.ScriptDoubleQuoted; tag = 8; small = tt; is = ([], (refl, (tt, (refl, tt)))); typed = (tt, (record { fits = lit< tt }, tt)) }

abbrev pub script_quoted : Constant classes
script_quoted = record { value = class.ScriptQuoted; tag = 9; small = tt; is = ([], (refl, (tt, (refl, tt)))); typed = (tt, (record { fits = lit< tt }, tt)) }

abbrev pub style_single_quoted : Constant classes
style_single_quoted = record { value = class.StyleSingleQuoted; tag = 10; small = tt; is = ([], (refl, (tt, (refl, tt)))); typed = (tt, (record { fits = lit< tt }, tt)) }

abbrev pub style_double_quoted : Constant classes
style_double_quoted = record { value = class.StyleDoubleQuoted; tag = 11; small = tt; is = ([], (refl, (tt, (refl, tt)))); typed = (tt, (record { fits = lit< tt }, tt)) }

abbrev pub style_quoted : Constant classes
style_quoted = record { value = class.StyleQuoted; tag = 12; small = tt; is = ([], (refl, (tt, (refl, tt)))); typed = (tt, (record { fits = lit< tt }, tt)) }
