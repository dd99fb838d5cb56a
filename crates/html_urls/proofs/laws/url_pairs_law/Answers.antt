use Rattle.html_urls.specs.Slots.{given, texts_of}
use Rattle.html_urls.proofs.Bytes.{all_bytes}
use Rattle.html_urls.proofs.Shapes.Slots.UrlPairs.{url_pairs}
use Rattle.html_urls.proofs.laws.url_pairs_law.Goals as goal

pub returns : goal.returns
returns c base web =
    let texts = texts_of c.args.texts.now in
    url_pairs base (given c.args.parts.now) texts web c.requires.fills (all_bytes texts c.requires.bytes) c.requires.pairs
