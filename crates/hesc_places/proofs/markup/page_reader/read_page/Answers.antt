use Rattle.std.proofs.Common.{rules}
use Rattle.hesc_places.specs.Pages.PageReadings.{page_reading}
use Rattle.hesc_places.proofs.markup.page_reader.read_page.Goals as goal

pub returns : goal.returns
unfolding page_reading
returns g c = search rules fits 100
