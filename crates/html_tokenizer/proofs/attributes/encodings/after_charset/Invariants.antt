use Rattle.std.proofs.Common.{◌≡◌, length}
use Rattle.html_tokenizer.specs.Tokenizer.Attributes.Encodings.{after_charset}
use Rattle.html_tokenizer.proofs.attributes.encodings.after_charset.Given as goal

abbrev pub invariant-bytes : goal.invariant-bytes
invariant-bytes l = after_charset l.rest ≡ after_charset l.value

abbrev pub decreases-bytes : goal.decreases-bytes
decreases-bytes l = length l.rest
