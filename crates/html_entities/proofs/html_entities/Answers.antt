use Rattle.std.proofs.Common.{refl}
use Rattle.html_entities.proofs.References.{references_are_near, references_are_table}
use Rattle.html_entities.proofs.html_entities.Goals as goal

pub of_near_wholly_indexed-requires-clause-table : goal.of_near_wholly_indexed-requires-clause-table
of_near_wholly_indexed-requires-clause-table c = rw c.all_rows.ensures references_are_table

pub of_near_wholly_indexed-requires-clause-near : goal.of_near_wholly_indexed-requires-clause-near
of_near_wholly_indexed-requires-clause-near c = rw c.all_rows.ensures references_are_near

pub of_near_wholly_indexed-requires-clause-whole : goal.of_near_wholly_indexed-requires-clause-whole
of_near_wholly_indexed-requires-clause-whole c = rw (c.of.ensures.seeds, c.of.ensures.slots, c.all_rows.ensures) refl
