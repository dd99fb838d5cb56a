use Rattle.std.proofs.Common.{map, sym, ap, ◌∙◌}
use Rattle.html_urls.specs.OpenParts.{open_of}
use Rattle.html_urls.specs.Slots.{bare}
use Rattle.html_urls.specs.declared.place.UrlPlace.TheVariants.{Path}
use Rattle.html_urls.proofs.SlotsTaken.{by_front}
use Rattle.html_urls.proofs.slots.take_part.Goals as goal

pub returns-in-Some-open_of : goal.returns-in-Some-open_of
returns-in-Some-open_of g c =
    let parts = map bare c.args.others.now in
    rw (c.in-Slot-None.is-0, c.in-Slot-None.is-1)
    (by_front Path c.args.number c.args.front.now.items c.in-Some-open_of.open_part c.args.slots.now.items parts c.take_slot.new.slots.items c.take_slot.result
    (sym (ap open_of c.deref.ensures.value) ∙ sym c.open_of.ensures ∙ c.in-Some-open_of.is) (c.take_slot.ensures Path c.args.front.now.items parts))

pub returns-in-Slot-Some : goal.returns-in-Slot-Some
returns-in-Slot-Some g c = rw (c.in-Slot-Some.is-0, c.in-Slot-Some.is-1) (c.take_slot-in-Slot-Some.ensures Path c.args.front.now.items (map bare c.args.others.now))
