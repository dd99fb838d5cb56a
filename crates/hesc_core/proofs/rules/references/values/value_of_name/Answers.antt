use Rattle.std.proofs.Common.{◌∙◌, ap, sym}
use Rattle.std.specs.Prelude.{Some}
use Rattle.hesc_core.specs.Names.{names_rows}
use Rattle.hesc_core.proofs.CommonNames.{common_character-value, names-good}
use Rattle.hesc_core.proofs.rules.references.values.value_of_name.Goals as goal

pub returns-in-Some : goal.returns-in-Some
returns-in-Some c =
    ap Some c.small.ensures ∙ sym (common_character-value (names_rows c.args.names) (names-good c.args.names) c.args.name.now c.in-Some.character (sym c.in-Some.is ∙ c.common_character.ensures))
