use Rattle.std.proofs.Common.{sym}
use Rattle.html_view.specs.Following.{ways_of}
use Rattle.html_view.specs.Kept.{asked_of}
use Rattle.html_view.specs.Nodes as node
use Rattle.html_view.specs.declared.placed.Placed.{Placed}
use Rattle.html_view.proofs.Followed.{slot_followed, when_ok}
use Rattle.html_view.proofs.follow.follow_slot.Goals as goal

pub returns : goal.returns
returns g c =
    let made : Placed _ = record { asked = c.in_ok-asked.asked; checked = c.new-checked.result } in
    when_ok c.add.result
    (λ adds. adds (node.Slot (asked_of c.args.slot)) (ways_of c.args.ways.now) (ways_of c.take_slot.new.self)
    (slot_followed c.args.slot made (ways_of c.args.ways.now) (ways_of c.take_slot.new.self) c.in_ok-asked.ensures
    (c.in_ok-found.ensures _ (sym c.new-checked.ensures.place) (sym c.new-checked.ensures.kind))))
    c.add.ensures
