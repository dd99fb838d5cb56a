use Rattle.std.proofs.Common.{◌≡◌, ℕ, List, ◌+◌, ◌-◌, ◌*◌, ◌<◌, ◌^◌, ap, length, rules, take, arith}
use Rattle.std.proofs.lemmas.List.{take_all}
use Rattle.std.proofs.lemmas.List.Sums.{sum_by-take-drop, sum_by-take-le}
use Rattle.std.specs.List.{sum_by}
use Rattle.hesc_scan.proofs.Lengths.LaneSums.{sum_more}
use Rattle.hesc_scan.proofs.length.added.total_length.Goals as goal
use lib.Lanes.{chunk}

-- with the blocks after the place
counted : (f : ℕ → ℕ) (bytes : List ℕ) (place blocks added : ℕ) → added ≡ sum_by f (chunk place (place + 32 * blocks - place) bytes)
    → sum_by f (take (place + 32 * blocks) bytes) ≡ sum_by f (take place bytes) + added
counted f bytes place blocks added is =
    let blocks_there : place + 32 * blocks - place ≡ 32 * blocks = omega arith in
    omega (arith, is, ap (λ n. sum_by f (chunk place n bytes)) blocks_there, sum_more f bytes place (32 * blocks))

pub returns-in_err-count-clause-fits : goal.returns-in_err-count-clause-fits
returns-in_err-count-clause-fits g c =
    λ fits.
    let f = g.L.AddedLength.of_byte c.args.added.now in
    let bytes = c.args.bytes.now in
    let within = sum_by-take-le f bytes (c.counting.place + 32 * c.min-blocks.result) in
    let more = counted f bytes c.counting.place c.min-blocks.result c.added_to_blocks.result c.added_to_blocks.ensures in
    let room : c.counting.count + c.added_to_blocks.result < 2 ^ 64 = omega (arith, fits, more, within, c.counting.invariant.count) in
    search rules

pub counting-preserved : goal.counting-preserved
counting-preserved g c =
    let more = counted (g.L.AddedLength.of_byte c.args.added.now) c.args.bytes.now c.counting.place c.min-blocks.result c.added_to_blocks.result c.added_to_blocks.ensures in
    record { within = omega arith; count = omega (arith, more, c.counting.invariant.count) }

pub returns-then-place-bytes-clause-count : goal.returns-then-place-bytes-clause-count
returns-then-place-bytes-clause-count g c =
    let f = g.L.AddedLength.of_byte c.args.added.now in
    let whole : sum_by f (take c.counting.place c.args.bytes.now) ≡ sum_by f c.args.bytes.now = ap (sum_by f) (take_all c.counting.place c.args.bytes.now (omega arith)) in
    omega (arith, whole, c.counting.invariant.count)

all_counted : (g : _) (c : goal.After-checked_add-2 g) → c.counting.count + c.added_to_block.result ≡ length c.args.bytes.now + sum_by (g.L.AddedLength.of_byte c.args.added.now) c.args.bytes.now
all_counted g c =
    let f = g.L.AddedLength.of_byte c.args.added.now in
    omega (arith, sum_by-take-drop f c.args.bytes.now c.counting.place, c.counting.invariant.count, c.added_to_block.ensures, ap (sum_by f) c.rest.ensures)

pub returns-clause-count : goal.returns-clause-count
returns-clause-count g c = let all = all_counted g c in search rules

pub returns-clause-fits : goal.returns-clause-fits
returns-clause-fits g c = let all = all_counted g c in search rules
