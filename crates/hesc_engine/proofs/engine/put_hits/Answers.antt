use Rattle.hesc_specs.specs.Text.Changes.{applied}
use Rattle.hesc_engine.proofs.Searches.{replaces_all}
use Rattle.hesc_engine.proofs.engine.put_hits.Goals as goal

pub returns-in-Some-clause-taken : goal.returns-in-Some-clause-taken
returns-in-Some-clause-taken g c =
    let source = c.args.text.now in
    let changes = g.R.Rule.changes_from c.args.rule.now source in
    let took = c.put_hits.ensures.taken in
    let seek = c.requires.seek in
    let is_sought = g.R.Rule.is_sought c.args.rule.now in
    record {
      put = took.put;
      took = took.took;
      left = took.image is_sought (λ from. applied source from (changes from)) (c.hits_from.ensures is_sought source c.requires.boundary.0 c.requires.ahead)
          (replaces_all _ (g.R.Rule.begins_at c.args.rule.now) is_sought (g.R.Rule.changes_from c.args.rule.now) seek.begins (rw c.in-Some.is at c.requires.seek.replaces) source c.utf8.text);
    }
