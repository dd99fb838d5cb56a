use Rattle.std.proofs.Common.{rules, ◌≡◌, ◌++◌, [], ap, refl, sym, ◌∙◌, map}
use Rattle.html_template.specs.Templates.{given, texts_of}
use Rattle.html_template_source.specs.Sources.{closing, opening, quoted_opening, slot_text}
use Rattle.html_template_source.proofs.Numbers.{equal_bytes, same_bytes}
use Rattle.html_template_source.proofs.SourceParts.{goes_on, opens_at, source_whole, starts}
use Rattle.html_template_source.proofs.source.Source.cut.Goals as goal

pub slots-init : goal.slots-init
slots-init g c = (
  search rules,
  ([], (starts c.new-parts.result.items c.new-names.result.items c.new-parts.ensures.items c.new-names.ensures.items, refl)),
)

pub slots-preserved-in_ok-add_slot : goal.slots-preserved-in_ok-add_slot
slots-preserved-in_ok-add_slot g c =
    let front = c.slots.invariant.1.0 in (
      search rules,
      (
        front ++ (c.in-Some.markup.now ++ slot_text c.in-Some-cut_at.name.now),
        (
          c.in_ok-add_slot.ensures front c.slots.invariant.1.1.0,
          goes_on front c.slots.rest.now c.in-Some.markup.now c.in-Some.following.now c.in-Some-cut_at.name.now c.in-Some-cut_at.more.now c.args.source.now
              c.in-Some.ensures.whole c.in-Some-cut_at.ensures.whole c.slots.invariant.1.1.1,
        ),
      ),
    )

pub slots-preserved : goal.slots-preserved
slots-preserved g c =
    let front = c.slots.invariant.1.0 in
    let name = c.in-Some-cut_at.name.now in
    let more = c.in-Some-cut_at.more.now in
    let quoted : name ≡ quoted_opening = same_bytes name quoted_opening (sym c.eq.ensures ∙ c.if-eq.true) in (
      search rules,
      (
        front ++ (c.in-Some.markup.now ++ slot_text quoted_opening),
        (
          c.in_ok-add_opening.ensures (texts_of c.slots.names.items) front c.slots.invariant.1.1.0,
          goes_on front c.slots.rest.now c.in-Some.markup.now c.in-Some.following.now quoted_opening more c.args.source.now
              c.in-Some.ensures.whole (c.in-Some-cut_at.ensures.whole ∙ ap (λ x. x ++ (closing ++ more)) quoted) c.slots.invariant.1.1.1,
        ),
      ),
    )

pub returns-in_default-cut_at-clause-faults : goal.returns-in_default-cut_at-clause-faults
returns-in_default-cut_at-clause-faults g c = record {
  rest = c.in-Some.following.now;
  opens = opens_at (map given c.slots.parts.items) (texts_of c.slots.names.items) c.slots.invariant.1.0 c.slots.rest.now c.in-Some.markup.now
      c.in-Some.following.now c.args.source.now c.slots.invariant.1.1.0 c.slots.invariant.1.1.1 c.in-Some.ensures.whole c.in-Some.ensures.first;
  unended = rw c.in_default-cut_at.is at c.cut_at-in-Some.ensures.none;
}

pub returns-else-eq-clause-faults : goal.returns-else-eq-clause-faults
returns-else-eq-clause-faults g c =
    let name = c.in-Some-cut_at.name.now in
    let more = c.in-Some-cut_at.more.now in
    let markup = c.in-Some.markup.now in
    record {
      name = name;
      rest = more;
      opens = opens_at (map given c.slots.parts.items) (texts_of c.slots.names.items) c.slots.invariant.1.0 c.slots.rest.now markup (name ++ (closing ++ more))
          c.args.source.now c.slots.invariant.1.1.0 c.slots.invariant.1.1.1
          (c.in-Some.ensures.whole ∙ ap (λ x. markup ++ (opening ++ x)) c.in-Some-cut_at.ensures.whole) c.in-Some.ensures.first;
      first = c.in-Some-cut_at.ensures.first;
      bad = sym c.is_name.ensures ∙ c.if-is_name.false;
      other = λ same. let clash = sym (equal_bytes name quoted_opening same) ∙ sym c.eq.ensures ∙ c.if-eq.false in cc;
    }

pub returns-clause-parts : goal.returns-clause-parts
returns-clause-parts g c =
    (source_whole c.slots.parts.items c.slots.names.items c.slots.rest c.args.source.now c.slots.invariant.1.0 c.in-Ok.ensures.items
    (rw c.in_default.is at c.cut_at.ensures.none) c.slots.invariant.1.1.0 c.slots.invariant.1.1.1).0

pub returns-clause-turns : goal.returns-clause-turns
returns-clause-turns g c =
    (source_whole c.slots.parts.items c.slots.names.items c.slots.rest c.args.source.now c.slots.invariant.1.0 c.in-Ok.ensures.items
    (rw c.in_default.is at c.cut_at.ensures.none) c.slots.invariant.1.1.0 c.slots.invariant.1.1.1).1
