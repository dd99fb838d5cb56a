use Rattle.std.proofs.Common.{◌≡◌, ◌+◌, refl, arith}
use Rattle.std.proofs.lemmas.Nat.{le_or_l, le_or_r}
use Rattle.hesc_scan.proofs.ChunkSearch.{below_256, passed_by_mask, passed_more}
use Rattle.hesc_scan.proofs.scan.first_by_pairs.Goals as goal

pub hits-first-requires : goal.hits-first-requires
hits-first-requires g c = below_256 c.args.bytes.now _ c.pairs.place c.type_inv.bytes (record { room = omega arith; bytes_there = refl })

pub hits-second-requires : goal.hits-second-requires
hits-second-requires g c = below_256 c.args.bytes.now _ (c.pairs.place + 32) c.type_inv.bytes (record { room = omega arith; bytes_there = refl })

pub returns-then-first-second-ne0-clause-passed : goal.returns-then-first-second-ne0-clause-passed
returns-then-first-second-ne0-clause-passed g c =
    let test = g.L.Lookup.has c.args.lookup.now in
    let near = passed_by_mask test c.args.bytes.now _ c.pairs.place c.hits-first.result (record { room = omega arith; bytes_there = refl }) c.hits-first.ensures (omega (arith, c.if-first-ne0.false)) in
    passed_more test c.args.bytes.now c.args.from c.pairs.place _ c.pairs.invariant.passed near

pub pairs-preserved : goal.pairs-preserved
pairs-preserved g c =
    let test = g.L.Lookup.has c.args.lookup.now in
    let bytes = c.args.bytes.now in
    let first : c.hits-first.result ≡ 0 = omega (arith, c.if-first-second-ne0.false, le_or_l c.hits-first.result c.hits-second.result) in
    let second : c.hits-second.result ≡ 0 = omega (arith, c.if-first-second-ne0.false, le_or_r c.hits-first.result c.hits-second.result) in
    let before = passed_more test bytes c.args.from c.pairs.place _ c.pairs.invariant.passed (passed_by_mask test bytes _ c.pairs.place _ (record { room = omega arith; bytes_there = refl }) c.hits-first.ensures first) in
    let both = passed_more test bytes c.args.from (c.pairs.place + 32) _ before (passed_by_mask test bytes _ (c.pairs.place + 32) _ (record { room = omega arith; bytes_there = refl }) c.hits-second.ensures second) in
    record {
      passed = record { ordered = omega (arith, both.ordered); within = omega arith; none = λ k from_k below. both.none k from_k (omega arith) };
      before = omega arith;
    }
