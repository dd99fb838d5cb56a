use Rattle.html_view.proofs.WaySets.{only_goes_on}
use Rattle.html_view.proofs.ways.Ways.take_markup.Goals as goal

pub returns-then-is_one : goal.returns-then-is_one
returns-then-is_one g c = only_goes_on c.args.self.now.first c.move_on.new.way c.args.self.now.others.items c.args.bytes.now c.move_on.result (c.is_one.ensures c.if-is_one.true) c.move_on.ensures
