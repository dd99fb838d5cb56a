use Rattle.std.proofs.Common.{arith, map}
use Rattle.hesc_places.specs.Pages.FormTexts.{written}
use Rattle.hesc_places.proofs.Pages.FormBounds.{most_form}
use Rattle.hesc_places.proofs.markup.form_text.FormTextParts.most.Goals as goal

pub returns : goal.returns
returns c small =
    let self = c.args.self.now in
    let attributes = c.most_attributes.ensures (omega (arith, small, c.saturating_add.ensures, c.saturating_add-2.ensures)) in
    let form = most_form (map written self.attributes.now) self.script.now c.most_encoded.result
    (λ encoder. c.most_encoded.ensures encoder (omega (arith, small, c.saturating_add.ensures, c.saturating_add-2.ensures))) in
    omega (arith, form, attributes, c.saturating_add.ensures, c.saturating_add-2.ensures, small)
