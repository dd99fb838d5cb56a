use Rattle.std.proofs.Common.{ap, map, refl, sym, take, arith}
use Rattle.std.proofs.Math.Seq.{drop-length}
use Rattle.std.specs.Simd.Lanes.{mask_l}
use Rattle.hesc_scan.proofs.ChunkSearch.{none_by_part}
use Rattle.hesc_scan.proofs.byte_block.block_or_end.Goals as goal

pub returns-then-mask-eq0 : goal.returns-then-mask-eq0
returns-then-mask-eq0 c test is =
    let bytes = c.args.bytes.now in
    record {
      ordered = c.requires.within;
      within = omega arith;
      before = λ k from_k below. none_by_part test bytes c.args.from c.args.from 32 _ (omega arith) c.requires.within (omega arith)
          (λ j after earlier. absurd (omega arith)) is c.if-mask-eq0.true k from_k below (omega (arith, below, c.requires.few));
      is_mask = ap (λ l. mask_l (map test (take 32 l))) (sym (drop-length bytes));
      none = λ _. refl;
    }
