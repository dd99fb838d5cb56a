use Rattle.std.proofs.Common.{◌≡◌, ◌∙◌, Option, ap, sym}
use Rattle.hesc_specs.specs.Text.Classes.{element_in, string_class}
use Rattle.hesc_specs.specs.declared.classes.Class.{Class}
use Rattle.hesc_specs.specs.declared.elements.Element.{Element}
use Rattle.hesc_specs.specs.declared.quotes.Quotes.{Quotes}
use Rattle.hesc_sinks.specs.Hits.{ascii_rows}
use Rattle.hesc_core.specs.ClassTexts.{class_rows, element_rows}
use Rattle.hesc_core.proofs.ClassEscapes.{begins_sought, ends_of}
use Rattle.hesc_core.proofs.ClassRows.{by_rows}
use Rattle.hesc_core.proofs.rules.escape.EscapeRule.seeks.Goals as goal
use Rattle.hesc_core.proofs.rules.escape.EscapeRule.seeks.Goals.{in-None, in-Some}

pub returns-clause-begins : goal.returns-clause-begins
returns-clause-begins c = begins_sought c.args.self.now.0

pub returns-clause-ends : goal.returns-clause-ends
returns-clause-ends c = ends_of c.args.self.now.0

-- the rows of a class by its strings
by_class : (class : Class) (strings : Option (Element × Quotes)) → string_class class ≡ strings → class_rows class ≡ element_rows (element_in strings)
by_class class strings is = ap (λ strings. element_rows (element_in strings)) is

pub returns-clause-some : goal.returns-clause-some
returns-clause-some c = elim c.match-string_class.branch [
  | in-None w ↦ by_class _ _ (sym c.string_class.ensures ∙ w.in-None.is) ∙ sym (ap ascii_rows w.texts-is ∙ w.references-texts.ensures)
  | in-Some w ↦ by_class _ _ (sym c.string_class.ensures ∙ w.in-Some.is) ∙ sym (ap ascii_rows w.texts-is ∙ w.escapes-texts.ensures)
]

pub returns-clause-replaces : goal.returns-clause-replaces
returns-clause-replaces c = rw (sym (returns-clause-some c)) (by_rows c.args.self.now.0)
