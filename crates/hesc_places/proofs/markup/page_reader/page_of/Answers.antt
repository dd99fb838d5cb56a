use Rattle.std.proofs.Common.{rules, arith}
use Rattle.hesc_places.specs.Pages.AttributeReadings.{entry}
use Rattle.hesc_places.proofs.Pages.FormLaw.{no_page}
use Rattle.hesc_places.proofs.markup.page_reader.page_of.Goals as goal

pub returns-then-len-ne2 : goal.returns-then-len-ne2
returns-then-len-ne2 g c =
    no_page c.args.attributes.items (λ a. entry a.0.items a.1 a.2.items) c.args.third.items c.args.end
    (λ two. c.if-len-ne2.true (omega (arith, c.len.ensures, c.args.attributes.ok, two)))

pub returns : goal.returns
returns g c = search rules
