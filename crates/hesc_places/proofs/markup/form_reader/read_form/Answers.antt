use Rattle.std.proofs.Common.{rules}
use Rattle.hesc_places.specs.Pages.FormEntries.{entries_of}
use Rattle.hesc_places.specs.Pages.FormReadings.{IsTextForm, form_found, form_reading}
use Rattle.hesc_places.specs.Pages.FormTexts.{AreGood}
use Rattle.hesc_places.proofs.Pages.ReadForms.{answers}
use Rattle.hesc_places.proofs.markup.form_reader.read_form.Goals as goal

pub returns-clause-good : goal.returns-clause-good
unfolding form_reading
returns-clause-good g c =
    answers (λ form. AreGood form.attributes) (λ form. form_found (entries_of form) form.script.items form.end) c.with_attributes.result c.args.bytes.now
    (λ form is. is.0) (search rules)

pub returns-clause-utf8 : goal.returns-clause-utf8
unfolding form_reading
returns-clause-utf8 g c utf8 =
    answers IsTextForm (λ form. form_found (entries_of form) form.script.items form.end) c.with_attributes.result c.args.bytes.now
    (λ form is. is.1 utf8) (search rules)
