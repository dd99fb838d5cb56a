use Rattle.std.proofs.Common.{◌∙◌, ap, arith, drop, map, sym}
use Rattle.std.proofs.lemmas.List.{length-drop, take_all}
use Rattle.std.specs.Simd.Lanes.{mask_l}
use Rattle.hesc_scan.proofs.ChunkSearch.{first_by_part, none_by_part}
use Rattle.hesc_scan.proofs.find.first_set.Goals as goal

pub returns-then-mask-eq0 : goal.returns-then-mask-eq0
returns-then-mask-eq0 c = λ test masks.
    let bytes = c.args.bytes.now in
    let from = c.args.from in
    record {
      ordered = c.requires.within;
      in_range = omega arith;
      before = λ k from_k below. none_by_part test bytes from from 32 c.args.mask (omega arith) c.requires.within (omega arith) (λ j after earlier. absurd (omega arith))
          (masks ∙ ap (λ l. mask_l (map test l)) (sym (take_all 32 (drop from bytes) (omega (arith, c.requires.few, length-drop from bytes)))))
          c.if-mask-eq0.true k from_k below (omega (arith, c.requires.few));
      found = λ inside. absurd (omega (arith, inside));
    }

pub returns : goal.returns
returns c = λ test masks.
    let bytes = c.args.bytes.now in
    let from = c.args.from in
    first_by_part test bytes from from 32 c.args.mask (omega arith) c.requires.within (omega arith) (λ j after earlier. absurd (omega arith))
    (masks ∙ ap (λ l. mask_l (map test l)) (sym (take_all 32 (drop from bytes) (omega (arith, c.requires.few, length-drop from bytes)))))
    (omega (arith, c.if-mask-eq0.false))
