use Rattle.std.proofs.Common.{rules, inr}
use Rattle.html_view.proofs.WaySets.{pushed_among, pushed_behind}
use Rattle.html_view.proofs.ways.Ways.add.Goals as goal

pub returns-clause-added : goal.returns-clause-added
returns-clause-added g c = inr (pushed_among c.args.self.now.others.items c.push.new.self.items c.args.way (search rules))

pub returns-clause-kept : goal.returns-clause-kept
returns-clause-kept g c = pushed_behind c.args.self.now.first c.args.self.now.others.items c.push.new.self.items c.args.way (search rules)
