use Rattle.std.proofs.Common.{sym, subst}
use Rattle.hesc_specs.specs.Text.FirstPlace.{IsFirstPlace}
use Rattle.hesc_engine.proofs.Searches.{first_begins}
use Rattle.hesc_engine.proofs.search.first_change.Goals as goal

pub returns-in-Some-change_at_hit-clause-found : goal.returns-in-Some-change_at_hit-clause-found
returns-in-Some-change_at_hit-clause-found g c =
    let seek = c.requires.seek in
    let before = c.seeking.invariant in
    let found = c.in-Some-change_at_hit.ensures.found in
    let first = subst (λ test. IsFirstPlace test c.args.text.now c.seeking.reached c.in-Some.place) (sym seek.sought) c.in-Some.ensures.first in
    found.next c.args.from c.requires.boundary
    (first_begins (g.R.Rule.begins_at c.args.rule.now) (g.R.Rule.is_sought c.args.rule.now) seek.begins c.args.text.now c.args.from c.seeking.reached c.in-Some.place before.ordered before.none first (λ _. found.begins))
