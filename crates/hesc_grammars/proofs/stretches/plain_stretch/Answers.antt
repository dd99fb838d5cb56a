use Rattle.std.proofs.Common.{inl, inr, refl}
use Rattle.hesc_specs.specs.Text.Ascii.{double_quote, less_than, single_quote}
use Rattle.hesc_specs.specs.declared.quotes.Quotes.TheVariants.{Single, Double}
use Rattle.hesc_grammars.specs.Places.{end_byte}
use Rattle.hesc_grammars.proofs.ReadStretches.{marked, script_body, script_string, style_body, style_string, unquoted, up_to_first}
use Rattle.hesc_grammars.proofs.stretches.plain_stretch.Goals as goal

pub returns-in-Text-clause-stays : goal.returns-in-Text-clause-stays
returns-in-Text-clause-stays c = rw c.in-Text.is (up_to_first (marked less_than) c.next_of_two.ensures)

pub returns-in-DoubleAttribute-clause-stays : goal.returns-in-DoubleAttribute-clause-stays
returns-in-DoubleAttribute-clause-stays c = rw c.in-DoubleAttribute.is (up_to_first (marked double_quote) c.next_of_two-in-DoubleAttribute.ensures)

pub returns-in-SingleAttribute-clause-stays : goal.returns-in-SingleAttribute-clause-stays
returns-in-SingleAttribute-clause-stays c = rw c.in-SingleAttribute.is (up_to_first (marked single_quote) c.next_of_two-in-SingleAttribute.ensures)

pub returns-in-UnquotedAttribute-clause-stays : goal.returns-in-UnquotedAttribute-clause-stays
returns-in-UnquotedAttribute-clause-stays c = rw c.in-UnquotedAttribute.is (up_to_first (unquoted (end_byte c.in-UnquotedAttribute.field-0)) c.first_special.ensures)

pub returns-in-ScriptSingle-clause-stays : goal.returns-in-ScriptSingle-clause-stays
returns-in-ScriptSingle-clause-stays c = rw c.in-ScriptSingle.is (up_to_first (script_string Single single_quote refl) c.first_in.ensures)

pub returns-in-ScriptDouble-clause-stays : goal.returns-in-ScriptDouble-clause-stays
returns-in-ScriptDouble-clause-stays c = rw c.in-ScriptDouble.is (up_to_first (script_string Double double_quote refl) c.first_in-in-ScriptDouble.ensures)

pub returns-in-StyleSingle-clause-stays : goal.returns-in-StyleSingle-clause-stays
returns-in-StyleSingle-clause-stays c = rw c.in-StyleSingle.is (up_to_first (style_string Single single_quote refl) c.first_in-in-StyleSingle.ensures)

pub returns-in-StyleDouble-clause-stays : goal.returns-in-StyleDouble-clause-stays
returns-in-StyleDouble-clause-stays c = rw c.in-StyleDouble.is (up_to_first (style_string Double double_quote refl) c.first_in-in-StyleDouble.ensures)

pub returns-in-ScriptBody-clause-stays : goal.returns-in-ScriptBody-clause-stays
returns-in-ScriptBody-clause-stays c = elim c.in-ScriptBody.is [
  | inl script ↦ rw script (up_to_first script_body c.next_less_than.ensures)
  | inr style ↦ rw style (up_to_first style_body c.next_less_than.ensures)
]
