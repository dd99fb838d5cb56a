use Rattle.std.proofs.Common.{arith}
use Rattle.std.proofs.lemmas.Str.Pattern.{split_parts}
use Rattle.html_view.specs.Names.{dot}
use Rattle.html_view.proofs.CutNames.{dotless, none_cut, shorter_cut, some_cut}
use Rattle.html_view.proofs.words.cut_word.Goals as goal

pub returns-clause-some : goal.returns-clause-some
returns-clause-some c = some_cut c.args.words.now c.split_once.result (split_parts dot c.args.words.now c.split_once.result c.split_once.ensures.cases (omega arith))

pub returns-clause-none : goal.returns-clause-none
returns-clause-none c = none_cut c.args.words.now c.split_once.result (split_parts dot c.args.words.now c.split_once.result c.split_once.ensures.cases (omega arith))

pub returns-clause-shorter : goal.returns-clause-shorter
returns-clause-shorter c = shorter_cut c.args.words.now c.split_once.result (split_parts dot c.args.words.now c.split_once.result c.split_once.ensures.cases (omega arith))

pub returns-then-not-contains-clause-none : goal.returns-then-not-contains-clause-none
returns-then-not-contains-clause-none c = dotless c.args.words.now c.as_bytes.result.now c.contains.result c.as_bytes.ensures.value c.contains.ensures.value c.if-not-contains.true
