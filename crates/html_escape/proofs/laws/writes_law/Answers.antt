use Rattle.std.proofs.KnownBytes.{Appends-nil, Appends-trans}
use Rattle.html_escape.proofs.JoinedWrites.{begins_all, begins_first, begins_later}
use Rattle.html_escape.proofs.laws.writes_law.Goals as goal

pub returns-clause-none : goal.returns-clause-none
returns-clause-none c = Appends-nil

pub returns-clause-both : goal.returns-clause-both
returns-clause-both c = Appends-trans

pub returns-clause-whole : goal.returns-clause-whole
returns-clause-whole c = begins_all

pub returns-clause-first : goal.returns-clause-first
returns-clause-first c = begins_first

pub returns-clause-second : goal.returns-clause-second
returns-clause-second c = begins_later
