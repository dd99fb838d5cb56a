-- The tables of the encoders.
use Rattle.std.specs.Prelude.{Option, Some, None}
use Rattle.hesc_specs.specs.Text.Classes.{element_of}
use Rattle.hesc_specs.specs.declared.classes.Class.{Class}
use Rattle.hesc_specs.specs.declared.elements.Element.{Element}
use Rattle.hesc_specs.specs.declared.elements.Element.TheVariants.{Script, Style}
use Rattle.hesc_sinks.specs.AsciiRows.{Rows}
use Rattle.hesc_core.specs.declared.rules.escape.escapes.TheConstants.{SCRIPT_ESCAPES, STYLE_ESCAPES}
use Rattle.hesc_core.specs.declared.rules.escape.references.TheConstants.{REFERENCES}

-- the references, or the escapes of an element
abbrev pub element_rows : Option Element → Rows
element_rows None = REFERENCES
element_rows (Some Script) = SCRIPT_ESCAPES
element_rows (Some Style) = STYLE_ESCAPES

abbrev pub class_rows : Class → Rows
class_rows class = element_rows (element_of class)
