use Rattle.std.proofs.Common.{◌∙◌, arith, slice_index, sym}
use Rattle.html_tokenizer.specs.Tokenizer.States.{InCode, at}
use Rattle.html_tokenizer.specs.Tokenizer.Stretches.{settled}
use Rattle.html_tokenizer.proofs.SettledWords.{words_settle}
use Rattle.html_tokenizer.proofs.Passing.{reads_longer}
use Rattle.html_tokenizer.proofs.reader.stretches.settled_bytes.Goals as goal

pub settled-preserved : goal.settled-preserved
settled-preserved c = record {
  within = omega arith;
  read = λ content is. sym (reads_longer (at (InCode (settled c.args.before)) content) (at (InCode (settled c.settled.last)) content)
      (at (InCode (settled (slice_index c.args.bytes.now c.settled.count))) content) c.args.bytes.now c.settled.count (omega arith)
      (sym (c.settled.invariant.read content is))
      (words_settle c.settled.last (slice_index c.args.bytes.now c.settled.count) content (sym c.stays_settled.ensures ∙ c.if-stays_settled.true) is));
}
