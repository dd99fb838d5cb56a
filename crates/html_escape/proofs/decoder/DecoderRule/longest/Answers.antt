use Rattle.std.proofs.Common.{ap, length}
use Rattle.html_escape.proofs.DecoderBounds.{decoder_text-empty, decoder_text-shorter}
use Rattle.html_escape.proofs.decoder.DecoderRule.longest.Goals as goal

pub returns-clause-enough : goal.returns-clause-enough
returns-clause-enough c = decoder_text-shorter c.args.self.now c.args.text.now

pub returns-clause-empty : goal.returns-clause-empty
returns-clause-empty c = λ nothing. ap length (decoder_text-empty c.args.self.now c.args.text.now nothing)
