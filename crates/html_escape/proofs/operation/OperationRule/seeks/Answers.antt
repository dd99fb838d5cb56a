use Rattle.html_escape.proofs.operation.OperationRule.seeks.Goals as goal

pub returns-in-Encode-clause-replaces : goal.returns-in-Encode-clause-replaces
returns-in-Encode-clause-replaces c = rw c.in-Encode.is c.seeks.ensures.replaces
