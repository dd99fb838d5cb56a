use Rattle.html_view.proofs.WaySets.{only_goes_past}
use Rattle.html_view.proofs.ways.Ways.take_slot.Goals as goal

pub returns-then-is_one : goal.returns-then-is_one
returns-then-is_one g c =
    only_goes_past c.args.next.now c.args.self.now.first c.move_past.new.way c.args.self.now.others.items c.move_past.result
    (c.is_one.ensures c.if-is_one.true) c.move_past.ensures
