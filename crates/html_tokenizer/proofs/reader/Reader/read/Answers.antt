use Rattle.std.proofs.Common.{arith, refl, sym, ◌∙◌}
use Rattle.html_tokenizer.specs.Tokenizer.Phases.{tokenizer_of}
use Rattle.html_tokenizer.proofs.Passing.{refuses_rest, reads_longer}
use Rattle.html_tokenizer.proofs.reader.Reader.read.Goals as goal

pub returns-in-Refused : goal.returns-in-Refused
returns-in-Refused g c =
    c.in_ok-go.ensures ∙ (c.refuses.ensures c.bytes.self.word.items
    ∙ sym (refuses_rest (tokenizer_of c.args.self.now) (tokenizer_of c.bytes.self) c.args.bytes.now c.bytes.done (omega arith) c.bytes.invariant.read (rw c.in-Refused.is refl)))

pub bytes-preserved : goal.bytes-preserved
bytes-preserved g c =
    let start = tokenizer_of c.args.self.now in
    record {
      within = omega arith;
      read = reads_longer start (tokenizer_of c.read_more.new.self) (tokenizer_of c.step-in-bytes.new.self) c.args.bytes.now c.read_more.new.done
          (omega arith) (c.in_ok-read_more.ensures.read start c.bytes.invariant.read) (sym c.in_ok-step.ensures);
    }
