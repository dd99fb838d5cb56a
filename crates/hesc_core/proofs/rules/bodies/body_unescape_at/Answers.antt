use Rattle.std.proofs.Common.{◌<◌, ◌≡◌, true, slice_index, drop, sym, ◌+◌, ◌-◌, ◌∙◌, arith}
use Rattle.std.proofs.lemmas.Bool.{eqb-true}
use Rattle.std.proofs.lemmas.List.{take_rest}
use Rattle.std.proofs.lemmas.Str.{IsCharBoundary-after_ascii, IsCharBoundary-before_ascii}
use Rattle.hesc_specs.specs.Text.Ascii.{less_than}
use Rattle.hesc_specs.specs.Bodies.Openings.{completes_opening}
use Rattle.hesc_specs.specs.Bodies.Openings.{drops_at}
use Rattle.hesc_specs.proofs.Bodies.Dropped.{drops-after_less, dropped-bytes, next_dropped}
use Rattle.hesc_core.proofs.rules.bodies.body_unescape_at.Goals as goal

pub returns-clause-found : goal.returns-clause-found
returns-clause-found c =
    let element = c.args.element in
    let text = c.args.text.now in
    let place = c.args.place in
    let within = c.requires.within in
    let completes : completes_opening element (drop (place + 1) text) ≡ true = rw (c.as_bytes-bytes.ensures.value, take_rest text (place + 1)) at (sym c.if-not-completes_opening.ensures) in
    let less : slice_index text (place - 1) ≡ less_than = rw c.as_bytes-bytes.ensures.value at c.if-bytes-place-ne60.false in
    let drops : drops_at element text place ≡ true = drops-after_less element text place (omega (arith, c.if-place-eq0.false)) within less (eqb-true _ _ c.requires.sought) ∙ completes in
    let bytes = dropped-bytes element text place drops in
    let ascii : slice_index text place < 128 = rw bytes.1.1.1 (omega arith) in
    record {
      begins = drops;
      next = λ from boundary first. record {
        after = first.ordered;
        ordered = omega arith;
        moves = omega (arith, first.ordered);
        within = omega arith;
        start_boundary = IsCharBoundary-before_ascii text place within ascii;
        end_boundary = IsCharBoundary-after_ascii text place c.utf8.text within ascii;
        changes = next_dropped element text from place first within bytes.0;
      };
    }
