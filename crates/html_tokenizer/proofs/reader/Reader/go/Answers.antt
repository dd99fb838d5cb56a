use Rattle.std.proofs.Common.{rules}
use Rattle.html_tokenizer.proofs.reader.Reader.go.Goals as goal

pub returns : goal.returns
returns g c = search rules fits 1000
