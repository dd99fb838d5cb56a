use Rattle.std.proofs.Common.{◌<◌, ◌≡◌, true, slice_index, drop, sym, ◌+◌, arith}
use Rattle.std.proofs.lemmas.List.{drop_more, take_rest}
use Rattle.std.proofs.lemmas.Str.{IsCharBoundary-after_ascii}
use Rattle.hesc_specs.specs.Bodies.Openings.{completes_opening, opens_at}
use Rattle.hesc_specs.proofs.Bodies.EncodingChanges.{next-body_encoding_changes, opening-byte}
use Rattle.hesc_core.proofs.rules.bodies.body_escape_at.Goals as goal

pub returns-clause-found : goal.returns-clause-found
returns-clause-found c =
    let element = c.args.element in
    let text = c.args.text.now in
    let place = c.args.place in
    let within = c.requires.within in
    let completes : completes_opening element (drop (place + 1) text) ≡ true = rw (c.as_bytes-bytes.ensures.value, take_rest text (place + 1)) at (sym c.if-not-completes_opening.ensures) in
    let opens : opens_at element text place ≡ true = rw (drop_more text place 0 within, c.requires.sought) completes in
    let ascii : slice_index text place < 128 = rw (opening-byte element text place within opens) (omega arith) in
    record {
      begins = opens;
      next = λ from boundary first. record {
        after = omega (arith, first.ordered);
        ordered = omega arith;
        moves = omega (arith, first.ordered);
        within = omega arith;
        start_boundary = IsCharBoundary-after_ascii text place c.utf8.text within ascii;
        end_boundary = IsCharBoundary-after_ascii text place c.utf8.text within ascii;
        changes = rw c.from_ascii.ensures (next-body_encoding_changes element text from place first within);
      };
    }
