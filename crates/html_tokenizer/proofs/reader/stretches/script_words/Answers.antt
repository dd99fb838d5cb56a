use Rattle.std.proofs.Common.{◌+◌, arith, sym}
use Rattle.html_tokenizer.specs.Tokenizer.States.{InCode, at}
use Rattle.html_tokenizer.proofs.Passing.{reads_longer, reads_more}
use Rattle.html_tokenizer.proofs.reader.stretches.script_words.Goals as goal

pub returns-in_default-clause-read : goal.returns-in_default-clause-read
returns-in_default-clause-read c = λ content is. sym (reads_more (at (InCode c.args.code) content) (at (InCode c.words.reached) content)
    (at (InCode c.settled_words-more.result.1) content) c.args.bytes.now c.words.count c.settled_words-more.result.0
    (sym (c.words.invariant.read content is)) (sym (c.settled_words-more.ensures.read content is)))

pub words-preserved : goal.words-preserved
words-preserved c = record {
  within = omega (arith, c.settled_words-more.ensures.within, c.if-count-bytes.false);
  read = λ content is.
      let reached = at (InCode c.settled_words-more.result.1) content in
      let settled = reads_more (at (InCode c.args.code) content) (at (InCode c.words.reached) content) reached
      c.args.bytes.now c.words.count c.settled_words-more.result.0 (sym (c.words.invariant.read content is)) (sym (c.settled_words-more.ensures.read content is)) in
      sym (reads_longer (at (InCode c.args.code) content) reached (at (InCode c.in-Some.next) content) c.args.bytes.now
      (c.words.count + c.settled_words-more.result.0) (omega (arith, c.settled_words-more.ensures.within, c.if-count-bytes.false)) settled (c.in-Some.ensures.leads content is));
}

pub returns-then-count-bytes-clause-read : goal.returns-then-count-bytes-clause-read
returns-then-count-bytes-clause-read c = λ content is. sym (reads_more (at (InCode c.args.code) content) (at (InCode c.words.reached) content)
    (at (InCode c.settled_words-more.result.1) content) c.args.bytes.now c.words.count c.settled_words-more.result.0
    (sym (c.words.invariant.read content is)) (sym (c.settled_words-more.ensures.read content is)))
