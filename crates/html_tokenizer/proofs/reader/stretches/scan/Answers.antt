use borrow.Author.Count.{below_more}
use Rattle.std.proofs.Common.{◌≡◌, ◌∙◌, false, slice_index, arith, sym}
use Rattle.html_tokenizer.specs.Tokenizer.Stretches.{leaves}
use Rattle.html_tokenizer.proofs.reader.stretches.scan.Goals as goal

pub stretch-preserved : goal.stretch-preserved
stretch-preserved c = record {
  within = omega arith;
  none = below_more (λ k. leaves c.args.element c.args.phase (slice_index c.args.bytes.now k) ≡ false) c.stretch.count c.stretch.invariant.none
      (sym c.leaves.ensures ∙ c.if-not-leaves.true);
}
