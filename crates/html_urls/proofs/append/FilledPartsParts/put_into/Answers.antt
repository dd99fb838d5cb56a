use Rattle.std.proofs.Common.{ℕ, ◌-◌, List, [], Bor, drop, get_or, map}
use Rattle.hesc_sinks.proofs.Took.{Progress-none, Progress-stop, failed}
use Rattle.html_urls.specs.Components.{component_at}
use Rattle.html_urls.specs.Slots.{bare, in_opaque, texts_of, url_of}
use Rattle.html_urls.proofs.FirstParts.{filled_first, first_again, markup_first}
use Rattle.html_urls.proofs.append.FilledPartsParts.put_into.Goals as goal

pub parts-init : goal.parts-init
parts-init g c = Progress-none _ _

pub returns-in_err-put-in-Markup : goal.returns-in_err-put-in-Markup
returns-in_err-put-in-Markup g c =
    failed _ _ _ c.from_residual.result c.from_residual.ensures.0
    (Progress-stop c.parts.invariant c.in-Markup.markup.now _ _
    (markup_first c.parts.opaque c.parts.rest.now _ c.in-Markup.markup (texts_of c.parts.left.now) c.in-len1-up.len_at_least
    (first_again c.parts.rest.now _ c.in-len1-up.len_at_least) c.in-Markup.is)
    c.in_err-put-in-Markup.ensures)

pub returns-in_err-put_component_at-in-Slot : goal.returns-in_err-put_component_at-in-Slot
returns-in_err-put_component_at-in-Slot g c =
    let none : Bor (List ℕ) = record { ref_ptr = (0, 0); now = [] } in
    failed _ _ _ c.from_residual-in_err-put_component_at-in-Slot.result c.from_residual-in_err-put_component_at-in-Slot.ensures.0
    (Progress-stop c.parts.invariant (component_at c.place_of-place.result (get_or c.parts.left.now 0 none).now)
    (url_of (in_opaque (c.parts.opaque - 1) (map bare (drop 1 c.parts.rest.now))) (texts_of (drop 1 c.parts.left.now))) _
    (filled_first c.parts.opaque c.parts.rest.now _ c.parts.left.now none c.place_of-place.result c.in-len1-up.len_at_least
    (first_again c.parts.rest.now _ c.in-len1-up.len_at_least) c.in-Slot.is c.in-len1-up-left.len_at_least c.place_of-place.ensures)
    c.in_err-put_component_at-in-Slot.ensures)
