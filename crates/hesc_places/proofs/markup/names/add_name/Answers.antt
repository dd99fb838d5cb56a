use Rattle.std.proofs.Common.{not, ap, ◌∙◌}
use Rattle.hesc_places.proofs.Pages.StoodNames.{has-insert, has-searched, not_not}
use Rattle.hesc_places.proofs.markup.names.add_name.Goals as goal

pub returns-in-Ok-clause-stood : goal.returns-in-Ok-clause-stood
returns-in-Ok-clause-stood g c = ap not c.in-Ok.ensures.added ∙ not_not _ ∙ has-searched c.args.names.now.keys c.args.name.now

pub returns-in-Ok-clause-added : goal.returns-in-Ok-clause-added
returns-in-Ok-clause-added g c = λ other. rw (c.in-Ok.ensures.keys) (has-insert c.args.names.now.keys c.args.name other)
