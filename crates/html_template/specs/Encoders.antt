-- The encoder that writes a text at a place.
use Rattle.html_escape.specs.declared.encoder.Encoder.{Encoder}
use Rattle.html_escape.specs.declared.encoder.Encoder.TheVariants as encoder
use Rattle.html_tokenizer.specs.declared.slot_place.SlotPlace.{SlotPlace}
use Rattle.html_tokenizer.specs.declared.slot_place.SlotPlace.TheVariants.{Text, DoubleQuoted, SingleQuoted, Unquoted, ScriptSingle, ScriptDouble, StyleSingle, StyleDouble}

abbrev pub encoder_for : SlotPlace → Encoder
encoder_for Text = encoder.Text
encoder_for DoubleQuoted = encoder.DoubleQuotedAttribute
encoder_for SingleQuoted = encoder.SingleQuotedAttribute
encoder_for Unquoted = encoder.UnquotedAttribute
encoder_for ScriptSingle = encoder.ScriptSingleQuoted
encoder_for ScriptDouble = encoder.ScriptDoubleQuoted
encoder_for StyleSingle = encoder.StyleSingleQuoted
encoder_for StyleDouble = encoder.StyleDoubleQuoted
