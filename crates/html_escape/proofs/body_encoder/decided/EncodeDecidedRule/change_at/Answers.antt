use Rattle.std.proofs.Common.{◌≡◌, ◌<◌, ◌+◌, true, false, drop, length, slice_index, sym, arith}
use Rattle.std.proofs.lemmas.Bool.Decides.{nat_tests}
use Rattle.std.proofs.lemmas.List.{drop_more, take_rest}
use Rattle.std.proofs.lemmas.Str.{IsCharBoundary-after_ascii, IsCharBoundary-before_ascii, IsCharBoundary-end}
use Rattle.hesc_specs.specs.Bodies.DecidedChanges.{decided_changes}
use Rattle.hesc_specs.specs.Bodies.Openings.{completes_opening, is_opening}
use Rattle.hesc_specs.specs.Bodies.Sessions.{is_partial}
use Rattle.hesc_core.proofs.EachPlace.{found-here}
use Rattle.html_escape.specs.DecidedPlaces.{decides_at}
use Rattle.html_escape.proofs.DecidedPlaces.{last, next, opening-decides, partial-decides, step}
use Rattle.html_escape.proofs.body_encoder.decided.EncodeDecidedRule.change_at.Goals as goal

pub returns-then-ends_partially-clause-found : goal.returns-then-ends_partially-clause-found
returns-then-ends_partially-clause-found c =
    let element = c.args.self.now.0 in
    let text = c.args.text.now in
    let place = c.args.place in
    let within : place < length text = c.requires.within in
    let partial : is_partial element (drop place text) ≡ true = rw (c.as_bytes-bytes.ensures.value, take_rest text place) at (sym c.if-ends_partially.ensures) in
    let ascii : slice_index text place < 128 = grind (arith, nat_tests, c.requires.sought) in
    rw c.as_bytes-bytes.ensures.value
    (found-here text (decides_at element text) (decided_changes element text) (step element text) place _ (partial-decides element text place within partial)
    (omega arith) (omega (arith, within)) within (omega arith)
    (IsCharBoundary-before_ascii text place within ascii) (IsCharBoundary-end text)
    (last element text place within partial))

pub returns-clause-found : goal.returns-clause-found
returns-clause-found c =
    let element = c.args.self.now.0 in
    let text = c.args.text.now in
    let place = c.args.place in
    let within : place < length text = c.requires.within in
    let decided : is_partial element (drop place text) ≡ false = rw (c.as_bytes-bytes.ensures.value, take_rest text place) at (sym c.if-ends_partially.ensures) in
    let completes : completes_opening element (drop (place + 1) text) ≡ true = rw (c.as_bytes-bytes.ensures.value, take_rest text (place + 1)) at (sym c.if-not-completes_opening.ensures) in
    let opens : is_opening element (drop place text) ≡ true = rw (drop_more text place 0 within, c.requires.sought) completes in
    let ascii : slice_index text place < 128 = grind (arith, nat_tests, c.requires.sought) in
    found-here text (decides_at element text) (decided_changes element text) (step element text) place _ (opening-decides element text place within decided opens)
    (omega arith) (omega arith) (omega arith) (omega (arith, within))
    (IsCharBoundary-after_ascii text place c.utf8.text within ascii) (IsCharBoundary-after_ascii text place c.utf8.text within ascii)
    (rw c.from_ascii.ensures (next element text place within decided opens))
