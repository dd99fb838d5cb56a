use Rattle.std.proofs.Common.{◌≡◌, ◌/◌, ◌^◌, ◌-◌, map, take, drop, arith}
use Rattle.std.specs.Simd.Lanes.{mask_l}
use Rattle.hesc_scan.proofs.ChunkSearch.{first_by_part, inside_by_part, none_by_part}
use Rattle.hesc_scan.proofs.Masks.{mask_from-later}
use Rattle.hesc_engine.proofs.sought.known_hit.Goals as goal

pub returns-then-left-eq0-clause-reached : goal.returns-then-left-eq0-clause-reached
returns-then-left-eq0-clause-reached c = omega (arith, c.min.ensures, c.if-from-ahead.false, c.if-from-ahead-ge32.false, c.requires)

pub returns-then-left-eq0-clause-none : goal.returns-then-left-eq0-clause-none
returns-then-left-eq0-clause-none c test known k after below =
    let text = c.args.text.now in
    let from = c.args.from in
    let start = c.args.ahead.start in
    let later : c.args.ahead.hits / 2 ^ (from - start) ≡ mask_l (map test (take (32 - (from - start)) (drop from text))) =
    mask_from-later test text start from c.args.ahead.hits (omega (arith, c.if-from-ahead.false)) (omega (arith, c.if-from-ahead.false, c.if-from-ahead-ge32.false)) c.requires known in
    none_by_part test text from from (32 - (from - start)) _ (omega arith) c.requires (omega arith) (λ j from_j before. absurd (omega arith)) later (omega (arith, c.if-left-eq0.true)) k after
    (omega (arith, c.min.ensures)) (omega (arith, c.min.ensures, c.if-from-ahead.false))

pub returns-clause-first : goal.returns-clause-first
returns-clause-first c test known =
    let text = c.args.text.now in
    let from = c.args.from in
    let start = c.args.ahead.start in
    let later : c.args.ahead.hits / 2 ^ (from - start) ≡ mask_l (map test (take (32 - (from - start)) (drop from text))) =
    mask_from-later test text start from c.args.ahead.hits (omega (arith, c.if-from-ahead.false)) (omega (arith, c.if-from-ahead.false, c.if-from-ahead-ge32.false)) c.requires known in (
      first_by_part test text from from (32 - (from - start)) _ (omega arith) c.requires (omega arith) (λ j from_j before. absurd (omega arith)) later (omega (arith, c.if-left-eq0.false)),
      inside_by_part test text from from (32 - (from - start)) _ (omega arith) c.requires (omega arith) (λ j from_j before. absurd (omega arith)) later (omega (arith, c.if-left-eq0.false)),
    )
