use Rattle.std.proofs.Common.{arith}
use Rattle.hesc_places.specs.Pages.FormTexts.{written}
use Rattle.hesc_places.proofs.Pages.FormBounds.{most_attribute}
use Rattle.hesc_places.proofs.markup.form_text.most_attribute.Goals as goal

pub returns : goal.returns
returns c small =
    let attribute = most_attribute (written c.args.attribute) c.most_encoded.result (λ encoder. c.most_encoded.ensures encoder (omega (arith, small, c.saturating_add.ensures, c.saturating_add-2.ensures))) in
    omega (arith, attribute, c.saturating_add.ensures, c.saturating_add-2.ensures, small)
