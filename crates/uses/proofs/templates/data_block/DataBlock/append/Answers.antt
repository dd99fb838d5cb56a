use Rattle.html_tokenizer.specs.declared.slot_place.SlotPlace.TheVariants.{Text}
use Rattle.uses.proofs.templates.data_block.DataBlock.append.Goals as goal

pub returns-clause-text : goal.returns-clause-text
returns-clause-text c = rw c.args.self.now.told at c.in_ok-append.ensures.appended

pub returns-clause-read : goal.returns-clause-read
returns-clause-read c = rw c.args.self.now.told at c.in_ok-append.ensures.read

pub returns-clause-same : goal.returns-clause-same
returns-clause-same c = c.json_law.ensures.same Text c.args.json.now

pub returns-in_err-append-clause-same : goal.returns-in_err-append-clause-same
returns-in_err-append-clause-same c = c.json_law.ensures.same Text c.args.json.now
