use Rattle.std.proofs.Common.{◌-◌, arith}
use Rattle.hesc_scan.proofs.Masks.{mask_from-later}
use Rattle.hesc_engine.proofs.ahead.Ahead.hits_from.Goals as goal

pub returns : goal.returns
returns c is_sought source within known =
    let from = c.args.from in
    let start = c.args.self.now.start in
    record {
      count = 32 - (from - start);
      few = omega arith;
      is_mask = mask_from-later is_sought source start from c.args.self.now.hits c.if-from-self.false (omega (arith, c.if-from-self.false, c.if-from-self-ge32.false)) within known;
    }
