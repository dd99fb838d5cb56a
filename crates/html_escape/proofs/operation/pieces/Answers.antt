use Rattle.std.proofs.Common.{rules}
use Rattle.html_escape.proofs.operation.pieces.Goals as goal

pub returns-clause-pieces : goal.returns-clause-pieces
returns-clause-pieces c = search rules
