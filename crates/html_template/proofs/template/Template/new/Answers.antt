use Rattle.std.proofs.Common.{◌-◌, ap, length, map, sym, ◌∙◌}
use Rattle.html_template.specs.FillFaults.{has_checked, slot_count}
use Rattle.html_template.specs.TemplateFaults.{told_chunks, walk_of}
use Rattle.html_template.specs.Templates.{chunk_of, given}
use Rattle.html_template.proofs.Pieces.{is_template, none_left, unfinished}
use Rattle.html_template.proofs.template.Template.new.Goals as goal

pub returns-then-not-may_end-clause-told : goal.returns-then-not-may_end-clause-told
returns-then-not-may_end-clause-told g c =
    let number = length c.args.parts.now - length c.parts.rest.now in
    sym (none_left c.parts.pieces.items number (walk_of c.parts.walk) c.parts.rest.now c.in_default.len_below c.parts.invariant.told)
    ∙ unfinished c.parts.pieces.items number (walk_of c.parts.walk) (sym c.if-not-may_end.ensures)

pub invariant_of-result : goal.invariant_of-result
invariant_of-result g c =
    let number = length c.args.parts.now - length c.parts.rest.now in
    let is = is_template (map given c.args.parts.now) c.parts.pieces.items number (walk_of c.parts.walk) (sym c.if-not-may_end.ensures)
    (none_left c.parts.pieces.items number (walk_of c.parts.walk) c.parts.rest.now c.in_default.len_below c.parts.invariant.told) in
    record {
      slots = c.of-summary.ensures.slots ∙ ap (λ pieces. slot_count (map chunk_of pieces)) c.deref.ensures.value;
      checked = c.of-summary.ensures.checked ∙ ap (λ pieces. has_checked (map chunk_of pieces)) c.deref.ensures.value;
      sound = is.sound;
      told = is.told;
    }

pub returns-clause-parts : goal.returns-clause-parts
returns-clause-parts g c =
    let number = length c.args.parts.now - length c.parts.rest.now in
    (is_template (map given c.args.parts.now) c.parts.pieces.items number (walk_of c.parts.walk) (sym c.if-not-may_end.ensures)
    (none_left c.parts.pieces.items number (walk_of c.parts.walk) c.parts.rest.now c.in_default.len_below c.parts.invariant.told)).given

pub returns-clause-told : goal.returns-clause-told
returns-clause-told g c =
    let number = length c.args.parts.now - length c.parts.rest.now in
    (is_template (map given c.args.parts.now) c.parts.pieces.items number (walk_of c.parts.walk) (sym c.if-not-may_end.ensures)
    (none_left c.parts.pieces.items number (walk_of c.parts.walk) c.parts.rest.now c.in_default.len_below c.parts.invariant.told)).whole

pub returns-clause-placed : goal.returns-clause-placed
returns-clause-placed g c = sym (ap told_chunks (returns-clause-told g c))
