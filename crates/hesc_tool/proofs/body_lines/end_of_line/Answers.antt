use Rattle.std.proofs.Common.{◌≡◌, ◌<◌, ℕ, length, slice_index, arith}
use Rattle.std.proofs.lemmas.Bool.{eqb-true}
use Rattle.std.proofs.lemmas.Str.{IsCharBoundary-after_ascii}
use Rattle.hesc_specs.specs.Text.Ascii.{line_feed}
use Rattle.hesc_tool.proofs.body_lines.end_of_line.Goals as goal

-- after a line feed a character begins
pub returns-clause-boundary : goal.returns-clause-boundary
returns-clause-boundary c =
    let text = c.args.text.now in
    let place : ℕ = c.first_byte-place.result in
    let first = rw c.as_bytes-bytes.ensures.value at c.first_byte-place.ensures in
    let within : place < length text = omega (arith, first.in_range, c.if-place-bytes.false, c.as_bytes-bytes.ensures.len) in
    let is : slice_index text place ≡ line_feed = eqb-true (slice_index text place) line_feed (first.found within) in
    IsCharBoundary-after_ascii text place c.utf8.text within (rw is (omega arith))
