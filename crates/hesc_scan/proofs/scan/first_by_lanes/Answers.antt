use Rattle.std.proofs.Common.{◌+◌, refl, arith}
use Rattle.hesc_scan.proofs.ChunkSearch.{below_256, first_block_from, passed_by_mask, passed_more}
use Rattle.hesc_scan.proofs.scan.first_by_lanes.Goals as goal
use Rattle.hesc_scan.proofs.scan.first_by_lanes.Goals.{then-bytes-from-ge32+else-mask-ne0+else-mask-ne0-2, else-bytes-from-ge32}

pub hits-mask-requires : goal.hits-mask-requires
hits-mask-requires g c = below_256 c.args.bytes.now _ c.args.from c.type_inv.bytes (record { room = omega arith; bytes_there = refl })

pub returns-then-mask-ne0-2 : goal.returns-then-mask-ne0-2
returns-then-mask-ne0-2 g c =
    let test = g.L.Lookup.has c.args.lookup.now in
    let near = passed_by_mask test c.args.bytes.now _ c.args.from c.hits-mask.result (record { room = omega arith; bytes_there = refl }) c.hits-mask.ensures (omega (arith, c.if-mask-ne0.false)) in
    let pairs = c.first_by_pairs-reached.ensures in
    let passed = passed_more test c.args.bytes.now c.args.from (c.args.from + 32) _ near pairs.passed in
    record {
      ordered = passed.ordered;
      within = passed.within;
      before = passed.none;
      is_mask = pairs.mask c.if-mask-ne0-2.true;
      none = λ empty. absurd (c.if-mask-ne0-2.true empty);
    }

pub returns : goal.returns
returns g c =
    let test = g.L.Lookup.has c.args.lookup.now in
    let bytes = c.args.bytes.now in
    elim c.if-bytes-from-ge32.branch [
      | then-bytes-from-ge32+else-mask-ne0+else-mask-ne0-2 w ↦
          let near = passed_by_mask test bytes _ c.args.from w.hits-mask.result (record { room = omega arith; bytes_there = refl }) w.hits-mask.ensures (omega (arith, w.if-mask-ne0.false)) in
          let passed = passed_more test bytes c.args.from (c.args.from + 32) _ near w.first_by_pairs-reached.ensures.passed in
          first_block_from test bytes c.args.from _ _ _ (rw w.place-is passed) c.first_by_chunks.ensures
      | else-bytes-from-ge32 w ↦ rw w.place-is at c.first_by_chunks.ensures
    ]
