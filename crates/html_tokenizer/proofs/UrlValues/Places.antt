-- The places in the value of an attribute.
use Rattle.std.proofs.Common.{Bool, true, false}
use Rattle.html_tokenizer.specs.declared.slot_place.SlotPlace.{SlotPlace}
use Rattle.html_tokenizer.specs.declared.slot_place.SlotPlace.TheVariants.{DoubleQuoted, SingleQuoted, Unquoted}

-- a place in the value of an attribute
abbrev pub is_value_place : SlotPlace → Bool
is_value_place DoubleQuoted = true
is_value_place SingleQuoted = true
is_value_place Unquoted = true
is_value_place other = false

-- between two quote marks
abbrev pub is_in_quotes : SlotPlace → Bool
is_in_quotes DoubleQuoted = true
is_in_quotes SingleQuoted = true
is_in_quotes other = false
