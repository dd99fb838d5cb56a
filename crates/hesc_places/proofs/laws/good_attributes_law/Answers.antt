use Rattle.std.proofs.Common.{map}
use Rattle.hesc_places.specs.Pages.FormTexts.{written}
use Rattle.hesc_places.proofs.Pages.GoodAttributes.{good_without_fault}
use Rattle.hesc_places.proofs.laws.good_attributes_law.Goals as goal

pub returns : goal.returns
returns c = good_without_fault (map written c.args.attributes.now)
