use Rattle.std.proofs.Common.{◌+◌, sym, arith}
use Rattle.hesc_grammars.proofs.ReadStretches.{none_at, none_further}
use Rattle.hesc_grammars.proofs.stretches.first_special.Goals as goal

pub symbols-init : goal.symbols-init
symbols-init c =
    let first = c.first_in-place.ensures in
    record {
      within = first.in_range;
      none = none_further c.args.bytes.now 0 c.first_in-place.result (λ k below. absurd (omega arith)) first;
    }

pub symbols-preserved : goal.symbols-preserved
symbols-preserved c =
    let first = c.first_in-place-in-symbols.ensures in
    let tried = none_at c.args.bytes.now c.symbols.place c.symbols.invariant.none (sym c.if-not-is_special.ensures) in
    record {
      within = first.in_range;
      none = none_further c.args.bytes.now (c.symbols.place + 1) c.first_in-place-in-symbols.result tried first;
    }
