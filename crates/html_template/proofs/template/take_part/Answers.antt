use Rattle.std.proofs.Common.{ap, map, sym}
use Rattle.html_template.specs.declared.open_url.PlacedSlot.{PlacedSlot}
use Rattle.html_template.specs.declared.stored.Stored.TheVariants as stored
use Rattle.html_template.specs.Templates.{GivenMarkup, GivenSlot, Markup, Slot, chunk_of, given}
use Rattle.html_template.specs.TemplateFaults.{walk_of}
use Rattle.html_template.proofs.Pieces.{fault_more, pushed_more, slot_chunk}
use Rattle.html_template.proofs.template.take_part.Goals as goal

pub returns-in-Ok : goal.returns-in-Ok
returns-in-Ok g c =
    pushed_more (λ (done : Unit {0}). Markup c.in-Markup.text.now) c.in-Ok.field-0 c.args.pieces.now.items c.push_piece.new.pieces.items (stored.Markup c.new.result)
    c.args.number (walk_of c.args.walk.now) (walk_of c.take_markup.new.self) (GivenMarkup c.in-Markup.text.now) (given c.args.part) (map given c.args.others.now) c.push_piece.result
    (ap given c.in-Markup.is) (ap Markup c.new.ensures) (c.in-Ok.ensures (map given c.args.others.now)) c.push_piece.ensures.pushed c.push_piece.ensures.memory

pub returns-in-Err : goal.returns-in-Err
returns-in-Err g c =
    fault_more (λ (done : Unit {0}). Markup c.in-Markup.text.now) c.args.pieces.now.items c.args.number (walk_of c.args.walk.now) (walk_of c.take_markup.new.self)
    (GivenMarkup c.in-Markup.text.now) (given c.args.part) (map given c.args.others.now) (map chunk_of c.args.pieces.now.items) c.in-Err.fault (ap given c.in-Markup.is)
    (c.in-Err.ensures (map given c.args.others.now))

pub returns-in-Ok-take_slot : goal.returns-in-Ok-take_slot
returns-in-Ok-take_slot g c =
    pushed_more (λ (slot : PlacedSlot). Slot slot.place slot.kind) c.in-Ok-take_slot.slot c.args.pieces.now.items c.push_piece-in-Ok-take_slot.new.pieces.items
    (stored.Slot c.new-in-Ok-take_slot.result) c.args.number (walk_of c.args.walk.now) (walk_of c.take_slot.new.self) GivenSlot (given c.args.part)
    (map given c.args.others.now) c.push_piece-in-Ok-take_slot.result (ap given c.in-Slot.is)
    (slot_chunk c.new-in-Ok-take_slot.result c.in-Ok-take_slot.slot c.new-in-Ok-take_slot.ensures.place c.new-in-Ok-take_slot.ensures.kind)
    (c.in-Ok-take_slot.ensures (map given c.args.others.now) (sym c.next_markup.ensures))
    c.push_piece-in-Ok-take_slot.ensures.pushed c.push_piece-in-Ok-take_slot.ensures.memory

pub returns-in-Err-take_slot : goal.returns-in-Err-take_slot
returns-in-Err-take_slot g c =
    fault_more (λ (slot : PlacedSlot). Slot slot.place slot.kind) c.args.pieces.now.items c.args.number (walk_of c.args.walk.now) (walk_of c.take_slot.new.self)
    GivenSlot (given c.args.part) (map given c.args.others.now) (map chunk_of c.args.pieces.now.items) c.in-Err-take_slot.fault (ap given c.in-Slot.is)
    (c.in-Err-take_slot.ensures (map given c.args.others.now) (sym c.next_markup.ensures))
