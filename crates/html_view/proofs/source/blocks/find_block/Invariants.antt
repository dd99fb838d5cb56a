use Rattle.std.proofs.Common.{◌≡◌, drop}
use Rattle.html_view.specs.Reading.{given_block}
use Rattle.html_view.proofs.source.blocks.find_block.Given as goal

abbrev pub invariant-loop-block : goal.invariant-loop-block
invariant-loop-block l = given_block l.given l.name ≡ given_block (drop l.block-index l.given) l.name
