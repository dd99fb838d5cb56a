use borrow.Author.Count.{below_more}
use Rattle.std.proofs.Common.{◌≡◌, ◌∙◌, true, slice_index, arith, sym}
use Rattle.html_tokenizer.specs.Tokenizer.Stretches.{keeps_part}
use Rattle.html_tokenizer.proofs.reader.stretches.style_stretch.Goals as goal

pub stretch-preserved : goal.stretch-preserved
stretch-preserved c = record {
  within = omega arith;
  keeps = below_more (λ k. keeps_part c.args.kind (slice_index c.args.bytes.now k) ≡ true) c.stretch.count c.stretch.invariant.keeps
      (sym c.keeps_part.ensures ∙ c.if-keeps_part.true);
}
