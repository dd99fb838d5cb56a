-- The number of a class: its place in the order of `Class`, from 0.
use Rattle.std.specs.Prelude.{ℕ}
use Rattle.hesc_specs.specs.declared.classes.Class.{Class}
use Rattle.hesc_specs.specs.declared.classes.Class.TheVariants.{TextMinimal, Text, DoubleQuotedAttribute, SingleQuotedAttribute, QuotedAttribute, Safe, UnquotedAttribute, ScriptSingleQuoted, ScriptDoubleQuoted, ScriptQuoted, StyleSingleQuoted, StyleDoubleQuoted, StyleQuoted}

abbrev pub class_number : Class → ℕ
class_number TextMinimal = 0
class_number Text = 1
class_number DoubleQuotedAttribute = 2
class_number SingleQuotedAttribute = 3
class_number QuotedAttribute = 4
class_number Safe = 5
class_number UnquotedAttribute = 6
class_number ScriptSingleQuoted = 7
class_number ScriptDoubleQuoted = 8
class_number ScriptQuoted = 9
class_number StyleSingleQuoted = 10
class_number StyleDoubleQuoted = 11
class_number StyleQuoted = 12
