use Rattle.std.proofs.Common.{drop, map}
use Rattle.hesc_sinks.proofs.Took.{Progress-none, Progress-stop, failed}
use Rattle.html_template.specs.Templates.{chunk_of, page, written}
use Rattle.html_template.proofs.Pieces.FirstPieces.{markup_first, slot_first}
use Rattle.html_template.proofs.page.put_pieces.Goals as goal

pub pieces-init : goal.pieces-init
pieces-init g c = Progress-none _ _

pub returns-in_err-put_markup-in-Markup : goal.returns-in_err-put_markup-in-Markup
returns-in_err-put_markup-in-Markup g c =
    failed _ _ _ c.from_residual.result c.from_residual.ensures.0
    (Progress-stop c.pieces.invariant c.in-Markup.markup.text.now _ _
    (markup_first c.pieces.rest.now c.piece-item.result c.in-Markup.markup (g.T.Texts.list c.pieces.left) c.in-len1-up.len_at_least c.piece-item.is c.in-Markup.is)
    c.in_err-put_markup-in-Markup.ensures)

pub returns-in_err-put_text-in-Slot : goal.returns-in_err-put_text-in-Slot
returns-in_err-put_text-in-Slot g c =
    let slot = c.in-Slot.slot in
    let text = c.in-Some.text.now in
    failed _ _ _ c.from_residual-in_err-put_text-in-Slot.result c.from_residual-in_err-put_text-in-Slot.ensures.0
    (Progress-stop c.pieces.invariant (written slot.place slot.kind text) (page (map chunk_of (drop 1 c.pieces.rest.now)) (g.T.Texts.list c.in-Some.more)) _
    (slot_first c.pieces.rest.now c.piece-item.result slot (g.T.Texts.list c.pieces.left) _ text c.in-len1-up.len_at_least c.piece-item.is c.in-Slot.is c.in-Some.ensures.first)
    c.in_err-put_text-in-Slot.ensures)
